-- `accept` meets its contract: too many lines, or all of them in the table. Assumes nothing.
use mathlib.Core.Path.{◌≡◌, ap, ◌∙◌}
use Prim.Native.Nat.{ℕ, ◌*◌, ◌/◌, ◌≤◌, min}
use native.Mathlib.Omega.{arith}
use mathlib.Core.List.{List, ◌++◌}
use lib.ListN.{length, drop}
use Rattle.text.specs.Written.{Text, table_of}
use Rattle.text.specs.Reading.{text_lines, read_lines}
use Rattle.std.specs.Prelude.{Ok}
use Rattle.text.specs.Steps.{lines_in, judgement}
use Rattle.text.proofs.Tables.{filled-zeros}
use Rattle.text.proofs.Judging.{lines-count}
use Rattle.text.proofs.Answers.{over_min, fits-ok}
use Rattle.text.proofs.accept.Goals as goal

-- the text whose lines are all good, and how many they are
abbrev told : ℕ → List ℕ → ℕ → Text
told model text from = record { model = model; lines = lines_in (read_lines 2 (text_lines (drop from text))) }

counted : (model : ℕ) (text : List ℕ) (from count : ℕ) → judgement 0 (read_lines 2 (text_lines (drop from text))) ≡ Ok count → length (told model text from).lines ≡ count
counted model text from count q = omega (arith, lines-count 0 count (read_lines 2 (text_lines (drop from text))) q)

pub returns-then-count-min : goal.returns-then-count-min
returns-then-count-min c =
    let a = c.args in
    over_min (length a.table.now) (told a.model a.text.now a.from) a.table.now a.count (counted a.model a.text.now a.from a.count c.requires.1) c.requires.2 (omega (arith, c.if-count-min.true, c.min.ensures))

pub returns : goal.returns
returns c =
    let a = c.args in
    let w = c.write_lines in
    let few : a.count ≤ min 64 (length a.table.now / 5) = omega (arith, c.if-count-min.false, c.min.ensures) in
    fits-ok (length a.table.now) (told a.model a.text.now a.from) w.new.table a.count (counted a.model a.text.now a.from a.count c.requires.1)
    (filled-zeros w.new.table (table_of (told a.model a.text.now a.from).lines) (length a.table.now) (5 * a.count) (omega arith) w.auto.table
    (w.ensures ∙ ap (λ (z : List ℕ). table_of (told a.model a.text.now a.from).lines ++ drop (5 * a.count) z) c.requires.2))
    few
