-- `judge` meets its contract: the lines so far are good, and those ahead are judged. Assumes nothing.
use mathlib.Core.Path.{sym, ap, ◌≡◌, ◌∙◌}
use mathlib.Core.Bool.{not}
use mathlib.Core.List.{List}
use Prim.Native.Nat.{ℕ, ◌+◌}
use native.Mathlib.Omega.{arith}
use lib.ListN.{length, drop, length-drop, length-append}
use lib.Seq.{take_all}
use Rattle.std.specs.Option.{is_some}
use Rattle.std.proofs.Common.{rules, tests}
use Rattle.text.specs.Written.{feed}
use Rattle.text.specs.Reading.{text_lines, read_lines}
use Rattle.text.specs.Steps.{judgement}
use Rattle.text.proofs.Splits.{computes}
use Rattle.text.proofs.Feeds.{next-line}
use Rattle.text.proofs.Judging.{next-counts, next-bad, is-bad, is-good, none-left}
use Rattle.text.proofs.judge.Goals as goal

pub loop-line-init : goal.loop-line-init
loop-line-init c =
    let t = c.args.text.now in
    let e : c.into_iter-line-iterator.result.rest.now ≡ drop c.args.from t =
    ap (λ s. s.rest.now) c.into_iter-line-iterator.ensures.into_iter_gives ∙ c.split_inclusive-line-items.ensures.rest ∙ take_all _ (drop c.args.from t) (omega (arith, length-drop c.args.from t)) in
    (omega (arith, ap length e, length-drop c.args.from t), ap (λ (l : List ℕ). judgement 0 (read_lines 2 (text_lines l))) e)

pub returns-then-is_none : goal.returns-then-is_none
returns-then-is_none c =
    let k = c.in-Some.ensures.steps in
    let line = next-line c.loop-line.line-iterator.rest.now c.in-Some.line.now c.next.new.self.rest.now k.0 k.2 k.1.0 k.1.1 (k.1.2 _ (computes feed (λ x b q m. search (rules, tests)))).1 in
    next-bad c.loop-line.count c.in-Some.line.now (text_lines c.next.new.self.rest.now) (is-bad c.in-Some.line.now (sym (ap is_some c.read_line.ensures) ∙ c.is_none.ensures ∙ ap not c.if-is_none.true))
    ∙ ap (λ (ls : List (List ℕ)). judgement c.loop-line.count (read_lines (c.loop-line.count + 2) ls)) (sym line) ∙ c.loop-line.invariant.1

pub loop-line-preserved : goal.loop-line-preserved
loop-line-preserved c =
    let k = c.in-Some.ensures.steps in
    let line = next-line c.loop-line.line-iterator.rest.now c.in-Some.line.now c.next.new.self.rest.now k.0 k.2 k.1.0 k.1.1 (k.1.2 _ (computes feed (λ x b q m. search (rules, tests)))).1 in
    let g = is-good c.in-Some.line.now (sym (ap is_some c.read_line.ensures) ∙ c.is_none.ensures ∙ ap not c.if-is_none.false) in (
      omega (arith, c.loop-line.invariant.0, k.2, k.1.1, ap length k.0, length-append c.in-Some.line.now c.next.new.self.rest.now),
      next-counts c.loop-line.count c.in-Some.line.now (text_lines c.next.new.self.rest.now) g.0 g.1
          ∙ ap (λ (ls : List (List ℕ)). judgement c.loop-line.count (read_lines (c.loop-line.count + 2) ls)) (sym line) ∙ c.loop-line.invariant.1,
    )

pub returns : goal.returns
returns c = none-left c.loop-line.count (c.loop-line.count + 2) c.loop-line.line-iterator.rest.now c.in-None.ensures.steps.0 ∙ c.loop-line.invariant.1
