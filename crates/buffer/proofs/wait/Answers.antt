-- `wait` adds a pair at its place where there is room.
use mathlib.Core.Path.{ap}
use mathlib.Core.Option.{Option}
use native.Mathlib.Omega.{arith}
use Rattle.chosen.specs.Decide.{thread_of}
use Rattle.buffer.specs.declared.Moved.{Moved}
use Rattle.buffer.specs.States.{left_by}
use Rattle.buffer.proofs.Cases.{waits-full, waits-room}
use Rattle.buffer.proofs.wait.Goals as goal

pub returns-then-count-ge16 : goal.returns-then-count-ge16
returns-then-count-ge16 c =
    let a = c.args in
    λ M regs line.
    let own = thread_of line a.count regs a.names.now a.values.now in
    ap (λ (o : Option Moved). left_by o M own) (waits-full a.model M own a.to a.x a.v c.if-count-ge16.true)

pub returns : goal.returns
returns c =
    let a = c.args in
    λ M regs line.
    let own = thread_of line a.count regs a.names.now a.values.now in
    ap (λ (o : Option Moved). left_by o M own) (waits-room a.model M own a.to a.x a.v (omega arith) c.place_for-at.result c.place_for-at.ensures _ _ c.put_in.ensures c.put_in-2.ensures)
