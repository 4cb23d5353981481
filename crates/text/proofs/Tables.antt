-- Laws of the lent table: zeros, and five numbers stored in it.
use mathlib.Core.Path.{◌≡◌, sym, ap, ◌∙◌}
use Prim.Native.Nat.{ℕ, zero, suc, ◌+◌, ◌-◌, ◌*◌, ◌≤◌}
use native.Mathlib.Omega.{arith}
use mathlib.Core.List.{List, [], ◌++◌, append-nil, append_assoc}
use lib.ListN.{length, take, drop, take-append-drop, length-append, length-replicate}
use lib.Seq.{paste, take-paste, drop-paste, take_all, drop-drop}
use Rattle.thread.specs.Numbers.{zeros, filled}

drop-zeros : (n m : ℕ) → drop n (zeros m) ≡ zeros (m - n)
drop-zeros zero m = let e : m - 0 ≡ m = omega arith in rw e
drop-zeros (suc n) zero = let e : 0 - suc n ≡ 0 = omega arith in rw e
drop-zeros (suc n) (suc m) = let e : suc m - suc n ≡ m - n = omega arith in rw e (drop-zeros n m)

-- five numbers more
module _ (t u numbers : List ℕ) (k : ℕ) (five : length numbers ≡ 5) (fits : 5 * k + 5 ≤ length t) (e : u ≡ paste t (5 * k) numbers 5) where
  front-more : take (5 * (k + 1)) u ≡ take (5 * k) t ++ numbers
  front-more =
      let s : 5 * (k + 1) ≡ 5 * k + 5 = omega arith in
      rw (s, e) (take-paste t (5 * k) numbers 5 (omega arith) (omega arith) ∙ ap (λ (l : List ℕ). take (5 * k) t ++ l) (take_all 5 numbers (omega arith)))

  pub rest_more : (t₀ : List ℕ) → drop (5 * k) t ≡ drop (5 * k) t₀ → drop (5 * (k + 1)) u ≡ drop (5 * (k + 1)) t₀
  rest_more t₀ q =
      let s : 5 * (k + 1) ≡ 5 * k + 5 = omega arith in
      rw (s, e) (drop-paste t (5 * k) numbers 5 (omega arith) (omega arith) ∙ sym (drop-drop 5 (5 * k) t) ∙ ap (drop 5) q ∙ drop-drop 5 (5 * k) t₀)

  pub table_more : (rest all : List ℕ) → take (5 * k) t ++ (numbers ++ rest) ≡ all → take (5 * (k + 1)) u ++ rest ≡ all
  table_more rest all q = rw front-more (append_assoc (take (5 * k) t) numbers rest ∙ q)

-- all lines stand in front, and zeros behind them
pub all-written : (t t₀ all : List ℕ) (n : ℕ) → take n t ++ [] ≡ all → drop n t ≡ drop n t₀ → t ≡ all ++ drop n t₀
all-written t t₀ all n p q = sym (take-append-drop n t) ∙ rw (q, ← p) (ap (λ (l : List ℕ). l ++ drop n t₀) (sym (append-nil (take n t))))

pub filled-zeros : (u l : List ℕ) (room n : ℕ) → n ≤ room → length u ≡ room → u ≡ l ++ drop n (zeros room) → u ≡ filled room l
unfolding filled
filled-zeros u l room n h k e =
    let q : length u ≡ length l + (room - n) = ap length e ∙ length-append l (drop n (zeros room)) ∙ ap (λ (m : ℕ). length l + m) (ap length (drop-zeros n room) ∙ length-replicate (room - n) 0) in
    let s : room - n ≡ room - length l = omega arith in
    e ∙ ap (λ (z : List ℕ). l ++ z) (drop-zeros n room ∙ ap zeros s)
