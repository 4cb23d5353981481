-- `turn` lends thread t its part of each list, and stores its line and count.
use Prim.Native.Nat.{◌+◌, ◌*◌, ◌-◌}
use native.Mathlib.Omega.{arith}
use Rattle.std.specs.Prelude.{Some, None}
use Rattle.run_buffered.proofs.InPlace.{Sized, turn-in-place}
use Rattle.run_buffered.proofs.Flat.turn.Goals as goal

pub returns-in_default : goal.returns-in_default
returns-in_default c =
    let a = c.args in
    let z : Sized a.self.now = record { lines = omega arith; counts = omega arith; registers = omega arith; names = omega arith; values = omega arith } in
    turn-in-place a.self.now z a.t c.requires (16 * a.t + 16 - 16 * a.t) (omega arith) a.model a.instr a.choice _ _ _ _ None c.in_default.ensures c.turn.auto.regs c.turn.auto.names c.turn.auto.values

pub returns : goal.returns
returns c =
    let a = c.args in
    let z : Sized a.self.now = record { lines = omega arith; counts = omega arith; registers = omega arith; names = omega arith; values = omega arith } in
    turn-in-place a.self.now z a.t c.requires (16 * a.t + 16 - 16 * a.t) (omega arith) a.model a.instr a.choice _ _ _ _ (Some c.in-Some.next) c.in-Some.ensures c.turn.auto.regs c.turn.auto.names c.turn.auto.values
