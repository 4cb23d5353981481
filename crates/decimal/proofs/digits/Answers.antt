-- `digits` meets its contract: what is read of all digits is what is read of those left, behind the number so far. Assumes nothing.
use mathlib.Core.Path.{sym, ap, ◌∙◌}
use native.Mathlib.Omega.{arith}
use Rattle.lists.specs.Options.{option_of}
use Rattle.decimal.proofs.Reading.{other_at, digit_at, large-at, end-at}
use Rattle.decimal.proofs.digits.Goals as goal

pub returns-then-not-is_ascii_digit : goal.returns-then-not-is_ascii_digit
unfolding option_of
returns-then-not-is_ascii_digit c =
    ap option_of (sym (c.loop-d.invariant.1 ∙ other_at c.args.bytes.now c.loop-d.d-index c.loop-d.value c.loop-d-test.true (sym c.if-not-is_ascii_digit.ensures.value)))

pub returns-in_err-checked_mul : goal.returns-in_err-checked_mul
unfolding option_of
returns-in_err-checked_mul c =
    c.from_residual.ensures
    ∙ ap option_of (sym (c.loop-d.invariant.1 ∙ large-at c.args.bytes.now c.loop-d.d-index c.loop-d.value c.loop-d-test.true (sym c.if-not-is_ascii_digit.ensures.value) (omega (arith, c.in_err-checked_mul.ensures))))

pub returns-in_err-value : goal.returns-in_err-value
unfolding option_of
returns-in_err-value c =
    c.from_residual-in_err-value.ensures
    ∙ ap option_of (sym (c.loop-d.invariant.1 ∙ large-at c.args.bytes.now c.loop-d.d-index c.loop-d.value c.loop-d-test.true (sym c.if-not-is_ascii_digit.ensures.value) (omega (arith, c.in_err-value.ensures, c.in_ok-checked_mul.ensures))))

pub loop-d-preserved : goal.loop-d-preserved
loop-d-preserved c =
    let m = c.in_ok-checked_mul.ensures in
    let a = c.in_ok-value.ensures in
    let e = digit_at c.args.bytes.now c.loop-d.d-index c.loop-d.value c.loop-d-test.true (sym c.if-not-is_ascii_digit.ensures.value) in
    (omega arith, rw (a.1, m.1) (c.loop-d.invariant.1 ∙ e))

pub returns : goal.returns
unfolding option_of
returns c =
    ap option_of (sym (c.loop-d.invariant.1 ∙ end-at c.args.bytes.now c.loop-d.d-index c.loop-d.value c.loop-d-test.false c.loop-d.invariant.0))
