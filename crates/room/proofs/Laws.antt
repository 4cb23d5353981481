-- Laws of a room that is filled or zeroed, and of one thing of each of four.
use Rattle.std.specs.Prelude.{Ok}
use mathlib.Core.Path.{◌≡◌, refl, ap, ◌∙◌}
use mathlib.Core.Bool.{Bool, true, false}
use Prim.Native.Nat.{ℕ, ◌≤◌}
use native.Mathlib.Omega.{arith}
use mathlib.Core.List.{List, [], ◌∷◌, ◌++◌, append-nil}
use lib.ListN.{length, drop, drop_of_length-le}
use Rattle.thread.specs.Numbers.{zeros}
use Rattle.graphs.specs.Build.{counted, Answer, build}
use Rattle.builder.specs.Result.{Leaves}
use Rattle.shown.specs.Ran.{four}
use Rattle.room.specs.Room.{made}

pub same-four : {A : Type 0} (f : ℕ → A) {a b c d : A} → a ≡ f 0 → b ≡ f 1 → c ≡ f 2 → d ≡ f 3 → a ∷ b ∷ c ∷ d ∷ [] ≡ four f
same-four f p q r s = λ i. p i ∷ q i ∷ r i ∷ s i ∷ []

-- One thread.
module _ (present : Bool) (m : ℕ) (t : List ℕ) (node_room edge_room : ℕ) where
  pub made-present : present ≡ true → {r : Answer} {N E : List ℕ} → Leaves (build m t node_room edge_room) r N E → Leaves (made present m t node_room edge_room) r N E
  unfolding made
  made-present e h = rw e h

  pub made-absent : present ≡ false → {N E : List ℕ} → N ≡ zeros node_room → E ≡ zeros edge_room → Leaves (made present m t node_room edge_room) (Ok (counted 0 0)) N E
  unfolding made
  made-absent e p q = rw e (record { answer = refl; nodes = p; edges = q })

-- a room that is zero to its end
pub all-zero : (d : List ℕ) (i : ℕ) → i ≤ length d → length d ≤ i → zeros i ++ drop i d ≡ zeros (length d)
all-zero d i h g =
    let e : i ≡ length d = omega arith in
    let f : drop i d ≡ [] = drop_of_length-le d {i = i} g in
    rw f (append-nil (zeros i) ∙ ap zeros e)
