-- Laws of judging lines, as the loops meet them: a line's five numbers, a bad line, a good line and those behind it, no line.
use mathlib.Core.Path.{◌≡◌, refl, sym, ap, ◌∙◌}
use mathlib.Core.Bool.{Bool, true, false}
use mathlib.Core.Option.{Option, none, some, map, bind}
use Prim.Native.Nat.{ℕ, suc, ◌+◌, ◌<◌}
use native.Mathlib.Omega.{arith}
use mathlib.Core.List.{List, [], ◌∷◌, ◌++◌}
use lib.ListN.{length}
use Rattle.std.specs.Prelude.{Result, Ok, Err, Some}
use Rattle.std.specs.Prelude as std
use Rattle.std.specs.Option.{is_some}
use Rattle.lists.proofs.Lists.{not_some}
use Rattle.thread.specs.declared.Refusal.{Refusal}
use Rattle.thread.specs.declared.Refusal.TheVariants as R
use Rattle.lists.specs.Options.{option_of}
use Rattle.text.specs.Written.{Entry, feed, numbers_of, table_of}
use Rattle.text.specs.Reading.{text_lines, body, parts, read_parts, read_line, Judgement, bad_line, whole, line_then, read_lines}
use Rattle.text.specs.Steps.{judgement, lines_in}
use Rattle.text.proofs.Entries.{parts-five}
use Rattle.text.proofs.Lines.{body_ended, body-other}

-- a line's five numbers
abbrev pub five_of : List ℕ → std.Option (List ℕ)
five_of l = option_of (map numbers_of (read_line l))

pub line-ended : (l k : List ℕ) (b : ℕ) → l ≡ k ++ (b ∷ []) → b ≡ feed → option_of (map numbers_of (read_parts (parts k))) ≡ five_of l
unfolding read_line bind
line-ended l k b e f = ap (λ (o : Option Entry). option_of (map numbers_of o)) (sym (rw (e, f) (rw (body_ended k))))

pub line-lacks : (l k : List ℕ) (b : ℕ) → l ≡ k ++ (b ∷ []) → (b ≡ feed → ⊥) → std.None ≡ five_of l
unfolding read_line bind option_of
line-lacks l k b e n = rw e (rw (body-other k b n))

pub line-empty : (l : List ℕ) → length l ≡ 0 → std.None ≡ five_of l
unfolding read_line bind body option_of
line-empty [] e = refl
line-empty (b ∷ l) e = absurd (omega arith)

lines_then : (n : ℕ) (l : List ℕ) (ls : List (List ℕ)) → read_lines n (l ∷ ls) ≡ line_then n (read_line l) (read_lines (suc n) ls)
unfolding read_lines
lines_then n l ls = refl

pub is-bad : (l : List ℕ) → is_some (five_of l) ≡ false → read_line l ≡ none
unfolding option_of
is-bad l e = go (read_line l) e
  where
    go : (o : Option Entry) → is_some (option_of (map numbers_of o)) ≡ false → o ≡ none
    go none q = refl
    go (some x) q = let z : ◌≡◌ {A = Bool} true false = q in cc

pub is-good : (l : List ℕ) → is_some (five_of l) ≡ true → (x : Entry) × (read_line l ≡ some x)
unfolding option_of
is-good l e = go (read_line l) e
  where
    go : (o : Option Entry) → is_some (option_of (map numbers_of o)) ≡ true → (x : Entry) × (o ≡ some x)
    go none q = let z : ◌≡◌ {A = Bool} false true = q in let w : ◌≡◌ {A = ℕ} 0 1 = cc in absurd (omega arith)
    go (some x) q = (x, refl)

pub five-is : (l : List ℕ) (x : Entry) → read_line l ≡ some x → five_of l ≡ Some (numbers_of x)
unfolding option_of
five-is l x e = rw e

pub line-five : (l : List ℕ) (x : Entry) → read_line l ≡ some x → length (numbers_of x) ≡ 5
unfolding read_line bind
line-five l x e = go (body l) e
  where
    go : (o : Option (List ℕ)) → bind o (λ k. read_parts (parts k)) ≡ some x → length (numbers_of x) ≡ 5
    go none q = absurd (not_some q)
    go (some k) q = parts-five (parts k) x q

-- how many good lines, one line on
judge-then : (k n : ℕ) (x : Entry) (r : Judgement (List Entry)) → judgement (k + 1) r ≡ judgement k (line_then n (some x) r)
unfolding judgement line_then
judge-then k n x (bad_line m) = refl
judge-then k n x (whole es) = ap Ok (omega arith)

-- the lines, where all are good
lines-in : (n j count : ℕ) (x : Entry) (r : Judgement (List Entry)) → judgement j r ≡ Ok count → lines_in (line_then n (some x) r) ≡ x ∷ lines_in r
unfolding judgement line_then
lines-in n j count x (bad_line m) q = let z : ◌≡◌ {A = Result ℕ Refusal} (Err (R.BadText m)) (Ok count) = q in cc
lines-in n j count x (whole es) q = refl

pub lines-count : (j count : ℕ) (r : Judgement (List Entry)) → judgement j r ≡ Ok count → j + length (lines_in r) ≡ count
unfolding judgement
lines-count j count (bad_line m) q = let z : ◌≡◌ {A = Result ℕ Refusal} (Err (R.BadText m)) (Ok count) = q in let w : ◌≡◌ {A = ℕ} 0 1 = cc in absurd (omega arith)
lines-count j count (whole es) q = let z : ◌≡◌ {A = Result ℕ Refusal} (Ok (j + length es)) (Ok count) = q in cc

pub lines-all : (j count : ℕ) (r : Judgement (List Entry)) → judgement j r ≡ Ok count → r ≡ whole (lines_in r)
unfolding judgement
lines-all j count (bad_line m) q = let z : ◌≡◌ {A = Result ℕ Refusal} (Err (R.BadText m)) (Ok count) = q in cc
lines-all j count (whole es) q = refl

-- the next line, and the lines behind it
module _ (k : ℕ) (l : List ℕ) (ls : List (List ℕ)) where
  pub next-counts : (x : Entry) → read_line l ≡ some x → judgement (k + 1) (read_lines (k + 1 + 2) ls) ≡ judgement k (read_lines (k + 2) (l ∷ ls))
  next-counts x e =
      let s : k + 1 + 2 ≡ suc (k + 2) = omega arith in
      ap (λ (n : ℕ). judgement (k + 1) (read_lines n ls)) s ∙ judge-then k (k + 2) x (read_lines (suc (k + 2)) ls)
      ∙ ap (λ (o : Option Entry). judgement k (line_then (k + 2) o (read_lines (suc (k + 2)) ls))) (sym e) ∙ ap (judgement k) (sym (lines_then (k + 2) l ls))

  pub next-bad : read_line l ≡ none → Err (R.BadText (k + 2)) ≡ judgement k (read_lines (k + 2) (l ∷ ls))
  unfolding line_then judgement
  next-bad e = sym (ap (judgement k) (lines_then (k + 2) l ls ∙ ap (λ (o : Option Entry). line_then (k + 2) o (read_lines (suc (k + 2)) ls)) e))

  -- where all are good, it is an instruction, and the table's next line
  module _ (count : ℕ) (j : judgement k (read_lines (k + 2) (l ∷ ls)) ≡ Ok count) where
    pub next-good : (x : Entry) × (read_line l ≡ some x)
    next-good = go (read_line l) refl
      where
        go : (o : Option Entry) → read_line l ≡ o → (x : Entry) × (read_line l ≡ some x)
        go (some x) e = (x, e)
        go none e =
            let z : Err (R.BadText (k + 2)) ≡ Ok count = next-bad e ∙ j in
            let w : ◌≡◌ {A = ℕ} 0 1 = cc in
            absurd (omega arith)

    more : judgement (k + 1) (read_lines (k + 1 + 2) ls) ≡ Ok count
    more = let g = next-good in next-counts g.0 g.1 ∙ j

    pub next-below : k < count
    next-below = omega (arith, lines-count (k + 1) count (read_lines (k + 1 + 2) ls) more)

    pub table-next : (x : Entry) → read_line l ≡ some x → table_of (lines_in (read_lines (k + 2) (l ∷ ls))) ≡ numbers_of x ++ table_of (lines_in (read_lines (k + 1 + 2) ls))
    unfolding table_of
    table-next x e =
        let s : k + 1 + 2 ≡ suc (k + 2) = omega arith in
        ap (λ (r : Judgement (List Entry)). table_of (lines_in r)) (lines_then (k + 2) l ls ∙ ap (λ (o : Option Entry). line_then (k + 2) o (read_lines (suc (k + 2)) ls)) e ∙ ap (λ (n : ℕ). line_then (k + 2) (some x) (read_lines n ls)) (sym s))
        ∙ ap table_of (lines-in (k + 2) (k + 1) count x (read_lines (k + 1 + 2) ls) more)

-- no line
module _ (k n : ℕ) where
  pub none-left : (l : List ℕ) → length l ≡ 0 → Ok k ≡ judgement k (read_lines n (text_lines l))
  unfolding text_lines read_lines judgement
  none-left [] e = ap Ok (omega arith)
  none-left (b ∷ l) e = absurd (omega arith)

  pub table-end : (l : List ℕ) → length l ≡ 0 → table_of (lines_in (read_lines n (text_lines l))) ≡ []
  unfolding text_lines read_lines table_of
  table-end [] e = refl
  table-end (b ∷ l) e = absurd (omega arith)
