-- `put` writes a pair to memory and takes it out, if one waits there.
use mathlib.Core.Path.{ap}
use mathlib.Core.Option.{Option}
use native.Mathlib.Omega.{arith}
use Rattle.chosen.specs.Decide.{thread_of}
use Rattle.buffer.specs.declared.Moved.{Moved}
use Rattle.buffer.specs.States.{left_by}
use Rattle.buffer.proofs.Cases.{puts-nothing, puts-pair}
use Rattle.buffer.proofs.put.Goals as goal

pub returns-then-min-at : goal.returns-then-min-at
returns-then-min-at c =
    let a = c.args in
    λ regs.
    let own = thread_of a.line a.count regs a.names.now a.values.now in
    ap (λ (o : Option Moved). left_by o a.memory.now own) (puts-nothing a.memory.now own a.at (omega (arith, c.if-min-at.true, c.min.ensures)))

pub returns : goal.returns
returns c =
    let a = c.args in
    λ regs.
    let own = thread_of a.line a.count regs a.names.now a.values.now in
    ap (λ (o : Option Moved). left_by o a.memory.now own) (puts-pair a.memory.now own a.at (omega (arith, c.if-min-at.false, c.min.ensures)) _ _ _ _ _ c.take_out.ensures c.take_out-2.ensures c.number.ensures c.number-2.ensures c.write.ensures)
