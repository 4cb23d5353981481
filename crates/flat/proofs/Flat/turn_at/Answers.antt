-- `turn_at` meets its contract.
use Prim.Native.Nat.{◌+◌, ◌*◌, ◌-◌}
use native.Mathlib.Omega.{arith}
use Rattle.flat.proofs.Laws.{done_still, done-in-place}
use Rattle.flat.proofs.Flat.turn_at.Goals as goal

pub returns-in_default : goal.returns-in_default
returns-in_default c =
    let s = c.step_in in
    let f = c.args.self.now in
    let t = c.args.t in
    done_still f.nodes f.registers f.auxiliaries t c.requires (omega arith) (omega arith) (omega arith) (16 * t + 16 - 16 * t) (64 * t + 64 - 64 * t) (omega arith) (omega arith) c.args.table.now c.args.choice f.memory s.new.memory s.new.registers s.new.auxiliaries (rw c.in_default.is at s.ensures)

pub returns : goal.returns
returns c =
    let s = c.step_in in
    let f = c.args.self.now in
    let t = c.args.t in
    done-in-place f.nodes f.registers f.auxiliaries t c.requires (omega arith) (omega arith) (omega arith) (16 * t + 16 - 16 * t) (64 * t + 64 - 64 * t) (omega arith) (omega arith) c.args.table.now c.args.choice f.memory s.new.memory s.new.registers s.new.auxiliaries c.in-Some.to s.auto.registers s.auto.auxiliaries (rw c.in-Some.is at s.ensures)
