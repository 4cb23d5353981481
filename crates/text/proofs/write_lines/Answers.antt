-- `write_lines` meets its contract: the lines so far stand in front, and those ahead follow. Assumes nothing.
use mathlib.Core.Path.{◌≡◌, refl, sym, ap, ◌∙◌}
use Prim.Native.Nat.{ℕ, ◌+◌, ◌-◌, ◌*◌, ◌≤◌, ◌<◌}
use native.Mathlib.Omega.{arith}
use mathlib.Core.List.{List, ◌∷◌, ◌++◌}
use lib.ListN.{length, take, drop, length-drop}
use lib.Seq.{take_all, paste}
use Rattle.std.specs.Prelude.{Some, Result, Ok}
use Rattle.thread.specs.declared.Refusal.{Refusal}
use Rattle.std.proofs.Common.{rules, tests}
use Rattle.std.proofs.lemmas.Slice.{put_mid-paste}
use Rattle.text.specs.Written.{feed, numbers_of, table_of}
use Rattle.text.specs.Reading.{text_lines, read_lines}
use Rattle.text.specs.Steps.{judgement, lines_in}
use Rattle.text.proofs.Tables.{rest_more, table_more, all-written}
use Rattle.text.proofs.Splits.{computes}
use Rattle.text.proofs.Feeds.{next-line}
use Rattle.text.proofs.Judging.{next-counts, next-good, next-below, table-next, table-end, none-left, five-is, line-five}
use Rattle.text.proofs.write_lines.Goals as goal

some-same : {a b : List ℕ} → Some a ≡ Some b → a ≡ b
some-same e = cc

ok-same : {a b : ℕ} → ◌≡◌ {A = Result ℕ Refusal} (Ok a) (Ok b) → a ≡ b
ok-same e = cc

-- line k is one of the good ones
still-below : (k n count : ℕ) (ls behind : List (List ℕ)) (line : List ℕ) → ls ≡ line ∷ behind → judgement n (read_lines (n + 2) ls) ≡ Ok count → k ≡ n → k < count
still-below k n count ls behind line e j same = omega (arith, same, next-below n line behind count (ap (λ (l : List (List ℕ)). judgement n (read_lines (n + 2) l)) (sym e) ∙ j))

pub loop-k-init : goal.loop-k-init
loop-k-init c =
    let t = c.args.text.now in
    let s = c.into_iter-k-iterator.result in
    let e : s.iter.rest.now ≡ drop c.args.from t =
    ap (λ i. i.iter.rest.now) c.into_iter-k-iterator.ensures.into_iter_gives ∙ ap (λ i. i.rest.now) c.enumerate-k-items.ensures.source ∙ c.split_inclusive.ensures.rest ∙ take_all _ (drop c.args.from t) (omega (arith, length-drop c.args.from t)) in
    let n : s.count ≡ 0 = ap (λ i. i.count) c.into_iter-k-iterator.ensures.into_iter_gives ∙ c.enumerate-k-items.ensures.count in
    (rw (n, e) c.requires.1, rw (n, e), refl)

pub unwrap-numbers-requires : goal.unwrap-numbers-requires
unwrap-numbers-requires c =
    let k = c.in-Some.ensures.steps in
    let n = c.loop-k.k-iterator.count in
    let behind = text_lines c.next.new.self.iter.rest.now in
    let line = next-line c.loop-k.k-iterator.iter.rest.now c.in-Some.line.now c.next.new.self.iter.rest.now k.0.0 k.0.2 k.0.1.0 k.0.1.1 (k.0.1.2 _ (computes feed (λ x b q m. search (rules, tests)))).1 in
    let j = ap (λ (ls : List (List ℕ)). judgement n (read_lines (n + 2) ls)) (sym line) ∙ c.loop-k.invariant.0 in
    let g = next-good n c.in-Some.line.now behind c.args.count j in
    let e = c.read_line.ensures ∙ five-is c.in-Some.line.now g.0 g.1 in
    rw e

pub overflow_mul-k : goal.overflow_mul-k
overflow_mul-k c =
    let k = c.in-Some.ensures.steps in
    let line = next-line c.loop-k.k-iterator.iter.rest.now c.in-Some.line.now c.next.new.self.iter.rest.now k.0.0 k.0.2 k.0.1.0 k.0.1.1 (k.0.1.2 _ (computes feed (λ x b q m. search (rules, tests)))).1 in
    let below = still-below c.in-Some.k c.loop-k.k-iterator.count c.args.count _ _ _ line c.loop-k.invariant.0 k.1 in
    search rules

pub overflow_mul-k-in-loop-k : goal.overflow_mul-k-in-loop-k
overflow_mul-k-in-loop-k c =
    let k = c.in-Some.ensures.steps in
    let line = next-line c.loop-k.k-iterator.iter.rest.now c.in-Some.line.now c.next.new.self.iter.rest.now k.0.0 k.0.2 k.0.1.0 k.0.1.1 (k.0.1.2 _ (computes feed (λ x b q m. search (rules, tests)))).1 in
    let below = still-below c.in-Some.k c.loop-k.k-iterator.count c.args.count _ _ _ line c.loop-k.invariant.0 k.1 in
    search rules

pub offset_bounds-table-k : goal.offset_bounds-table-k
offset_bounds-table-k c =
    let k = c.in-Some.ensures.steps in
    let line = next-line c.loop-k.k-iterator.iter.rest.now c.in-Some.line.now c.next.new.self.iter.rest.now k.0.0 k.0.2 k.0.1.0 k.0.1.1 (k.0.1.2 _ (computes feed (λ x b q m. search (rules, tests)))).1 in
    let below = still-below c.in-Some.k c.loop-k.k-iterator.count c.args.count _ _ _ line c.loop-k.invariant.0 k.1 in
    search rules

pub slice_bounds-copy_from_slice-end : goal.slice_bounds-copy_from_slice-end
slice_bounds-copy_from_slice-end c =
    let k = c.in-Some.ensures.steps in
    let line = next-line c.loop-k.k-iterator.iter.rest.now c.in-Some.line.now c.next.new.self.iter.rest.now k.0.0 k.0.2 k.0.1.0 k.0.1.1 (k.0.1.2 _ (computes feed (λ x b q m. search (rules, tests)))).1 in
    let below = still-below c.in-Some.k c.loop-k.k-iterator.count c.args.count _ _ _ line c.loop-k.invariant.0 k.1 in
    search rules

pub loop-k-preserved : goal.loop-k-preserved
loop-k-preserved c =
    let k = c.in-Some.ensures.steps in
    let n = c.loop-k.k-iterator.count in
    let behind = text_lines c.next.new.self.iter.rest.now in
    let line = next-line c.loop-k.k-iterator.iter.rest.now c.in-Some.line.now c.next.new.self.iter.rest.now k.0.0 k.0.2 k.0.1.0 k.0.1.1 (k.0.1.2 _ (computes feed (λ x b q m. search (rules, tests)))).1 in
    let j = ap (λ (ls : List (List ℕ)). judgement n (read_lines (n + 2) ls)) (sym line) ∙ c.loop-k.invariant.0 in
    let g = next-good n c.in-Some.line.now behind c.args.count j in
    let below = next-below n c.in-Some.line.now behind c.args.count j in
    let table = c.loop-k.table in
    let numbers = c.unwrap-numbers.result in
    let is : numbers ≡ numbers_of g.0 = some-same (sym c.unwrap-numbers.ensures ∙ c.read_line.ensures ∙ five-is c.in-Some.line.now g.0 g.1) in
    let five : length numbers ≡ 5 = ap length is ∙ line-five c.in-Some.line.now g.0 g.1 in
    let room : 5 * n + 5 ≤ length table = omega (arith, below, c.loop-k.auto.table, c.requires.2) in
    let at : 5 * c.in-Some.k ≡ 5 * n = ap (λ (m : ℕ). 5 * m) k.1 in
    let put = put_mid-paste (5 * c.in-Some.k) (5 * (c.in-Some.k + 1) - 5 * c.in-Some.k) table c.copy_from_slice.new.self numbers 5 c.copy_from_slice.ensures.after (omega arith) (sym five) ∙ ap (λ (m : ℕ). paste table m numbers 5) at in
    let rest = table_of (lines_in (read_lines (n + 1 + 2) behind)) in
    let all = table_of (lines_in (read_lines 2 (text_lines (drop c.args.from c.args.text.now)))) in
    let next = table-next n c.in-Some.line.now behind c.args.count j g.0 g.1 in
    let ahead = ap (λ (ls : List (List ℕ)). table_of (lines_in (read_lines (n + 2) ls))) line ∙ next ∙ ap (λ (l : List ℕ). l ++ rest) (sym is) in (
      rw k.2 (next-counts n c.in-Some.line.now behind g.0 g.1 ∙ j),
      rw k.2 (table_more table _ numbers n five room put rest all (ap (λ (l : List ℕ). take (5 * n) table ++ l) (sym ahead) ∙ c.loop-k.invariant.1)),
      rw k.2 (rest_more table _ numbers n five room put c.args.table.now c.loop-k.invariant.2),
    )

pub returns : goal.returns
returns c =
    let a = c.args in
    let n = c.loop-k.k-iterator.count in
    let l = c.loop-k.k-iterator.iter.rest.now in
    let none = c.in-None.ensures.steps.0.0 in
    let all = table_of (lines_in (read_lines 2 (text_lines (drop a.from a.text.now)))) in
    let e : n ≡ a.count = ok-same (none-left n (n + 2) l none ∙ c.loop-k.invariant.0) in
    all-written c.loop-k.table a.table.now all (5 * n) (ap (λ (x : List ℕ). take (5 * n) c.loop-k.table ++ x) (sym (table-end n (n + 2) l none)) ∙ c.loop-k.invariant.1) c.loop-k.invariant.2
    ∙ ap (λ (m : ℕ). all ++ drop (5 * m) a.table.now) e
