-- `part` copies the numbers of one thread out of a flat list, place by place; of a list that is long enough they are its cut.
use mathlib.Core.Path.{◌≡◌, sym, ap, ◌∙◌}
use Prim.Native.Nat.{ℕ, ◌+◌, ◌*◌, ◌≤◌, ◌<◌}
use native.Mathlib.Nat.{zero-add}
use native.Mathlib.Numerals.{add-one}
use native.Mathlib.Omega.{arith}
use mathlib.Core.List.{List, append-nil}
use lib.ListN.{length, take, drop, set, length-take, length-drop, length-append, length-replicate}
use lib.Seq.{paste, paste-zero, paste-suc, take_all, get_or-take, get_or-drop}
use Rattle.thread.proofs.Filled.{filled_at}
use Rattle.thread.specs.Numbers.{◌!◌, zeros}
use Rattle.shown.specs.Ran.{cut, part_of}

module _ (all : List ℕ) (t : ℕ) where
  part_length : length (part_of all t) ≡ 16
  unfolding part_of
  part_length = simp (length-append, length-replicate, length-take) (omega arith)

  part_at : (j : ℕ) → j < 16 → part_of all t ! j ≡ all ! (16 * t + j)
  unfolding part_of
  part_at j h = filled_at 16 (cut all t) j ∙ get_or-take 16 (drop (16 * t) all) j 0 h ∙ get_or-drop (16 * t) all j 0

  -- the first j of sixteen places hold the part
  abbrev pub Copied : List ℕ → ℕ → Type 0
  Copied own j = own ≡ paste (zeros 16) 0 (part_of all t) j

  pub none-copied : Copied (zeros 16) 0
  none-copied = paste-zero (zeros 16) 0 (part_of all t)

  pub one-copied : (own : List ℕ) (j v : ℕ) → Copied own j → j < 16 → v ≡ all ! (16 * t + j) → Copied (set own j v) (j + 1)
  one-copied own j v e h g =
      let z : 0 + j ≡ j = zero-add j in
      let p : v ≡ part_of all t ! j = g ∙ sym (part_at j h) in
      let s : set own (0 + j) v ≡ paste (zeros 16) 0 (part_of all t) (j + 1) =
      rw (e, p, add-one) (paste-suc (zeros 16) 0 (part_of all t) j 0 (rw length-replicate (omega arith)) (rw part_length h)) in
      rw z at s

  pub all-copied : (own : List ℕ) (j : ℕ) → Copied own j → j ≤ 16 → 16 ≤ j → own ≡ part_of all t
  all-copied own j e h g =
      let k : j ≡ 16 = omega arith in
      e ∙ ap (paste (zeros 16) 0 (part_of all t)) k ∙ append-nil (take 16 (part_of all t)) ∙ take_all 16 (part_of all t) (rw part_length (omega arith))

  -- of a list that is long enough it is the cut
  pub cut-length : 16 * t + 16 ≤ length all → length (cut all t) ≡ 16
  cut-length h = simp (length-take, length-drop) (omega arith)

  pub part_cut : 16 * t + 16 ≤ length all → part_of all t ≡ cut all t
  unfolding part_of
  part_cut h = rw (cut-length h) (append-nil (cut all t))
