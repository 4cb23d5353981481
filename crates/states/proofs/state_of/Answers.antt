-- `state_of` shows a thread that is present, and zeros for another.
use mathlib.Core.Path.{◌≡◌, ◌∙◌}
use Prim.Native.Nat.{◌+◌, ◌*◌, ◌-◌}
use native.Mathlib.Omega.{arith}
use Rattle.lists.proofs.Tests.{lt-true}
use Rattle.shown.specs.Ran.{cut}
use Rattle.shown.proofs.Copying.{part_cut}
use Rattle.states.specs.States.{state_of}
use Rattle.states.proofs.state_of.Goals as goal

pub returns-then-t-threads : goal.returns-then-t-threads
unfolding state_of
returns-then-t-threads c =
    let a = c.args in
    let f = a.flat.now in
    let e : 64 * a.t + 64 - 64 * a.t ≡ 64 = omega arith in
    let own : c.part-own.result ≡ cut f.registers a.t = c.part-own.ensures ∙ part_cut f.registers a.t (omega (arith, c.requires)) in
    rw (lt-true a.t a.threads c.if-t-threads.true) (rw (own, e) at c.state_at.ensures)
