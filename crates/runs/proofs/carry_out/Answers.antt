-- `carry_out` does the items in order: the whole run is what is left of it at each turn.
use mathlib.Core.Path.{◌≡◌, refl, sym, ◌∙◌}
use Prim.Native.Nat.{◌*◌}
use native.Mathlib.Omega.{arith}
use lib.ListN.{length}
use Rattle.std.specs.Prelude.{◌≢◌}
use Rattle.lists.proofs.Tests.{true-eq, false-eq}
use Rattle.runs.proofs.Items.{pair-refused, pair-done, turn-lone, turn-end, led-stopped, led-done}
use Rattle.runs.proofs.carry_out.Goals as goal

pub loop-done-init : goal.loop-done-init
loop-done-init g c = (refl, refl)

pub returns-then-not-turn : goal.returns-then-not-turn
returns-then-not-turn g c =
    let k = c.loop-done in
    let p = c.as_chunks in
    led-stopped _ _ _ _ (k.invariant.1 ∙ pair-refused _ _ c.args.schedule.now _ _ k.done k.invariant.0 p.ensures.front p.ensures.front_len c.loop-done-test.true c.if-not-turn.ensures.turned.0)
    c.if-not-turn.ensures.turned.1

pub loop-done-preserved : goal.loop-done-preserved
loop-done-preserved g c =
    let k = c.loop-done in
    let p = c.as_chunks in (
      c.turn.ensures.same_step ∙ k.invariant.0,
      k.invariant.1 ∙ pair-done _ _ c.args.schedule.now _ _ k.done k.invariant.0 p.ensures.front p.ensures.front_len c.loop-done-test.true _ c.if-not-turn.ensures.turned,
    )

pub returns-then-is_empty : goal.returns-then-is_empty
returns-then-is_empty g c =
    let k = c.loop-done in
    let p = c.as_chunks in
    let all : k.done ≡ length p.result.0.now = omega (arith, c.loop-done-test.false, k.auto.done-end) in
    let none : length p.result.1.now ≡ 0 = true-eq _ _ (sym c.if-is_empty.ensures) in
    rw (sym all)
    (led-done _ _ _ _ (k.invariant.1 ∙ turn-end _ c.args.schedule.now (2 * k.done) _ _ (omega (arith, all, p.ensures.front_len, p.ensures.back_len, none))) refl)

pub returns-else-is_empty : goal.returns-else-is_empty
returns-else-is_empty g c =
    let k = c.loop-done in
    let p = c.as_chunks in
    let all : k.done ≡ length p.result.0.now = omega (arith, c.loop-done-test.false, k.auto.done-end) in
    let lone : length p.result.1.now ≢ 0 = false-eq _ _ (sym c.if-is_empty.ensures) in
    rw (sym all)
    (led-stopped _ _ _ _
    (k.invariant.1
    ∙ turn-lone _ c.args.schedule.now (2 * k.done) _ _ (omega (arith, all, p.ensures.front_len, p.ensures.back_len, lone)) (omega (arith, all, p.ensures.front_len)))
    refl)
