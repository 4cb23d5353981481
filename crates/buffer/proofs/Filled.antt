-- Sixteen places of which the first hold a list and the others 0: an entry more, and an entry less.
use mathlib.Core.Path.{◌≡◌, refl, ap}
use Prim.Native.Nat.{ℕ, zero, suc, ◌+◌, ◌-◌, ◌≤◌, ◌<◌}
use native.Mathlib.Omega.{arith}
use native.Mathlib.Nat.{suc-add}
use mathlib.Core.List.{List, ◌∷◌, ◌++◌, append_assoc}
use lib.ListN.{length, take, drop, length-append, length-take, length-drop, length-replicate, replicate-append-replicate}
use lib.Seq.{take-append_seam, take-append-le, drop-append-le, take-append-add}
use Rattle.thread.specs.Numbers.{zeros, filled}
use Rattle.pending.specs.Pending.{put_in, take_out}
use Rattle.pending.proofs.Moves.{put-in-is, take-out-is}
use Rattle.pending.proofs.Places.{put_at}

take-zeros : (n k : ℕ) → take n (zeros (n + k)) ≡ zeros n
take-zeros zero k = refl
take-zeros (suc n) k = rw suc-add (ap (λ (l : List ℕ). 0 ∷ l) (take-zeros n k))

module _ (l : List ℕ) where
  -- what is in the first places
  pub filled-taken : (n : ℕ) → n ≡ length l → take n (filled 16 l) ≡ l
  unfolding filled
  filled-taken n e = rw e (take-append_seam l (zeros (16 - length l)))

  pub put-filled : (i a : ℕ) → i ≤ length l → length l < 16 → put_in i a (filled 16 l) ≡ filled 16 (put_at i a l)
  unfolding filled
  put-filled i a h few =
      let n = length l in
      let full : length (l ++ zeros (16 - n)) ≡ 16 = simp (length-append, length-replicate) (omega arith) in
      let k : length (drop i l) ≡ n - i = length-drop i l in
      let e : 16 - suc i ≡ length (drop i l) + (15 - n) = rw k (omega arith) in
      let z : 16 - n ≡ 15 - n + 1 = omega arith in
      let long : 16 - length (take i l ++ a ∷ drop i l) ≡ 15 - n = rw (length-append) (simp (length-take, length-drop) (omega arith)) in
      rw (put-in-is (l ++ zeros (16 - n)) i (omega arith) a, full, take-append-le i l (zeros (16 - n)) h, drop-append-le i l (zeros (16 - n)) h, e, take-append-add (drop i l) (zeros (16 - n)) (15 - n), z, take-zeros (15 - n) 1, long, append_assoc)

  pub take-filled : (i : ℕ) → i < length l → length l ≤ 16 → take_out i 0 (filled 16 l) ≡ filled 16 (take i l ++ drop (suc i) l)
  unfolding filled
  take-filled i h few =
      let n = length l in
      let full : length (l ++ zeros (16 - n)) ≡ 16 = simp (length-append, length-replicate) (omega arith) in
      let long : 16 - length (take i l ++ drop (suc i) l) ≡ 16 - n + 1 = rw length-append (simp (length-take, length-drop) (omega arith)) in
      rw (take-out-is (l ++ zeros (16 - n)) i (omega arith) 0, take-append-le i l (zeros (16 - n)) (omega arith), drop-append-le (suc i) l (zeros (16 - n)) h, long, ← replicate-append-replicate {A = ℕ} (16 - n) 1 0) (simp append_assoc)
