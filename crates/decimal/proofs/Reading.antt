-- Reading a number digit by digit, and what a number that is read has been written as.
use mathlib.Core.Path.{◌≡◌, refl, sym, ap, ◌∙◌}
use mathlib.Core.Bool.{Bool, true, false, cond, ◌&&◌}
use mathlib.Core.Option.{none, some}
use Prim.Native.Nat.{ℕ, suc, ◌+◌, ◌-◌, ◌*◌, ◌≤◌, ◌<◌}
use native.Mathlib.Omega.{arith}
use native.Mathlib.Numerals.{add-one}
use mathlib.Core.List.{List, [], ◌∷◌}
use lib.ListN.{length, get_or, drop, drop_of_length-le}
use lib.Seq.{drop-cons}
use lib.Dec.{eqb, leb}
use mathlib.Core.Logic.{◌⊎◌, inl, inr, ◌≢◌}
use Rattle.lists.proofs.Tests.{le-true, le-false, true-le, is_true, true-T, eq-false, true-eq, false-eq}
use Rattle.lists.proofs.Lists.{not_some}
use Rattle.decimal.specs.Decimal.{decimal, value_from, value, is_digit, all_digits, numeral, most, read_from, read_number}
use Rattle.decimal.proofs.Decimal.{value-decimal, numeral-decimal, decimal-numeral, decimal-length, decimal-digits, all-test}

read-digit : (a d : ℕ) (l : List ℕ) → is_digit d ≡ true → read_from a (d ∷ l) ≡ read_from (a * 10 + (d - 48)) l
unfolding read_from all_digits value_from
read-digit a d l h = rw h

read-other : (a d : ℕ) (l : List ℕ) → is_digit d ≡ false → read_from a (d ∷ l) ≡ none
unfolding read_from all_digits
read-other a d l h = rw h

value_grows : (a : ℕ) (l : List ℕ) → a ≤ value_from a l
unfolding value_from
value_grows a [] = omega arith
value_grows a (d ∷ l) = omega (arith, value_grows (a * 10 + (d - 48)) l)

and-false : {X : Type 0} (a : Bool) (x y : X) → cond (a && false) x y ≡ y
and-false true x y = refl
and-false false x y = refl

read-large : (a : ℕ) (l : List ℕ) → most < a → read_from a l ≡ none
unfolding read_from
read-large a l h = rw (le-false (value_from a l) most (omega (arith, value_grows a l))) (and-false (all_digits l) (some (value_from a l)) none)

read-end : (a : ℕ) → a ≤ most → read_from a [] ≡ some a
unfolding read_from all_digits value_from
read-end a h = rw (le-true a most h)

-- place i of the digits l, behind the number a
module _ (l : List ℕ) (i a : ℕ) where
  pub other_at : i < length l → is_digit (get_or l i 0) ≡ false → read_from a (drop i l) ≡ none
  other_at h n = rw (drop-cons l i 0 h) (read-other a (get_or l i 0) (drop (suc i) l) n)

  pub digit_at : i < length l → is_digit (get_or l i 0) ≡ true → read_from a (drop i l) ≡ read_from (a * 10 + (get_or l i 0 - 48)) (drop (i + 1) l)
  digit_at h d = rw (add-one, drop-cons l i 0 h) (read-digit a (get_or l i 0) (drop (suc i) l) d)

  pub large-at : i < length l → is_digit (get_or l i 0) ≡ true → most < a * 10 + (get_or l i 0 - 48) → read_from a (drop i l) ≡ none
  large-at h d m = digit_at h d ∙ read-large (a * 10 + (get_or l i 0 - 48)) (drop (i + 1) l) m

  pub end-at : length l ≤ i → a ≤ most → read_from a (drop i l) ≡ some a
  end-at h m = rw (drop_of_length-le l h) (read-end a m)

twice : {X : Type 0} (a b : Bool) (x y : X) → cond a (cond (a && b) x y) y ≡ cond (a && b) x y
twice true b x y = refl
twice false b x y = refl

-- what is read: no bytes, a leading zero, and all else
pub read_none : (l : List ℕ) → eqb (length l) 0 ≡ true → read_number l ≡ none
unfolding read_number numeral
read_none [] h = refl
read_none (d ∷ l) h = absurd (omega (arith, true-eq (length (d ∷ l)) 0 h))

pub read-zero : (l : List ℕ) → 1 < length l → get_or l 0 0 ≡ 48 → read_number l ≡ none
unfolding read_number numeral
read-zero [] h e = absurd (omega arith)
read-zero (d ∷ []) h e = absurd (omega arith)
read-zero (d ∷ x ∷ l) h e = rw e

pub read_rest : (l : List ℕ) → eqb (length l) 0 ≡ false → (get_or l 0 0 ≡ 48) × (length l ≤ 1) ⊎ (get_or l 0 0 ≢ 48) → read_number l ≡ read_from 0 l
unfolding read_number numeral read_from
read_rest [] h e = absurd (false-eq 0 0 h refl)
read_rest (d ∷ []) h e = twice (all_digits (d ∷ [])) (leb (value (d ∷ [])) most) (some (value (d ∷ []))) none
read_rest (d ∷ x ∷ l) h (inl e) = absurd (omega arith)
read_rest (d ∷ x ∷ l) h (inr n) = rw (eq-false d 48 n) (twice (all_digits (d ∷ x ∷ l)) (leb (value (d ∷ x ∷ l)) most) (some (value (d ∷ x ∷ l))) none)

-- bytes are read as a number exactly if they are what is written of it, and it is not too large
pub read-written : (n : ℕ) → n ≤ most → read_number (decimal n) ≡ some n
unfolding read_number read_from
read-written n h =
    rw (is_true (numeral (decimal n)) (decimal-numeral n), is_true (all_digits (decimal n)) (all-test (decimal n) (decimal-digits n)), value-decimal n, le-true n most h)

pub written_read : (l : List ℕ) (n : ℕ) → read_number l ≡ some n → (l ≡ decimal n) × (n ≤ most)
unfolding read_number read_from
written_read l n e = go (numeral l) refl (all_digits l) (leb (value l) most) refl e
  where
    go : (a : Bool) → numeral l ≡ a → (b c : Bool) → leb (value l) most ≡ c → cond a (cond (b && c) (some (value l)) none) none ≡ some n → (l ≡ decimal n) × (n ≤ most)
    go true t true true u e = let q : value l ≡ n = cc in (sym (numeral-decimal l (true-T t)) ∙ ap decimal q, omega (arith, true-le (value l) most u))
    go true t true false u e = absurd (not_some e)
    go true t false c u e = absurd (not_some e)
    go false t b c u e = absurd (not_some e)

-- such a number has at most ten digits
pub ten-digits : (n : ℕ) → n ≤ most → length (decimal n) ≤ 10
ten-digits n h = decimal-length 9 n (omega (arith, h))
