-- Places that a loop fills one by one: sixteen of a shown thread, and those of a room with zeros.
use mathlib.Core.Path.{◌≡◌, sym, ap, ◌∙◌}
use mathlib.Core.List.{List, append-nil}
use Prim.Native.Nat.{ℕ, ◌+◌, ◌≤◌, ◌<◌}
use native.Mathlib.Nat.{zero-add}
use native.Mathlib.Omega.{arith}
use lib.ListN.{length, set, take, length-replicate}
use lib.Seq.{paste, paste-zero, take_all}
use Rattle.thread.specs.Numbers.{◌!◌, zeros}
use Rattle.graphs.proofs.Records.{collect-length, collect-at}
use Rattle.pending.proofs.Moves.{moved}
use Rattle.states.specs.States.{sixteen}

module _ (f : ℕ → ℕ) where
  pub sixteen-length : length (sixteen f) ≡ 16
  sixteen-length = collect-length f 0 16

  pub sixteen-at : (i : ℕ) → i < 16 → sixteen f ! i ≡ f i
  sixteen-at i h = collect-at f 0 0 16 i h ∙ ap f (zero-add i)

  -- the first i places are filled
  abbrev pub Filled : List ℕ → ℕ → Type 0
  Filled l i = l ≡ paste (zeros 16) 0 (sixteen f) i

  pub none_filled : Filled (zeros 16) 0
  none_filled = paste-zero (zeros 16) 0 (sixteen f)

  pub one_more : (l : List ℕ) (i v : ℕ) → Filled l i → i < 16 → v ≡ f i → Filled (set l i v) (i + 1)
  one_more l i v e h g =
      let z : 0 + i ≡ i = zero-add i in
      rw z at (moved (zeros 16) l 0 (sixteen f) i v 0 e (g ∙ sym (sixteen-at i h)) (rw length-replicate (omega arith)) (rw sixteen-length (omega arith)))

  pub all-filled : (l : List ℕ) (i : ℕ) → Filled l i → i ≤ 16 → 16 ≤ i → l ≡ sixteen f
  all-filled l i e h g = let k : i ≡ 16 = omega arith in e ∙ ap (paste (zeros 16) 0 (sixteen f)) k ∙ append-nil (take 16 (sixteen f)) ∙ take_all 16 (sixteen f) (rw sixteen-length (omega arith))
