-- A case of the simulation: threads that count, of which the second kind counts faster and at every choice. It follows the first, and is no function of it.
use mathlib.Core.Path.{◌≡◌, refl}
use mathlib.Core.Bool.{true, false}
use mathlib.Core.Option.{some, none}
use Prim.Native.Nat.{ℕ, zero, suc, ◌+◌, ◌≤◌}
use native.Mathlib.Omega.{arith}
use mathlib.Core.List.{List, [], ◌∷◌}
use Rattle.runs.specs.Run.{World, Item, items, run}
use Rattle.runs.proofs.Simulated.{Step, Followed, AlikeIn, AlikeWorld, AlikeStand, sim-runs}

-- by one, at choice 0
unfoldable pub slow : Step ℕ
slow t zero s = some (record { memory = s.memory; own = suc s.own })
slow t (suc c) s = none

-- by two, at every choice
unfoldable pub fast : Step ℕ
fast t c s = some (record { memory = s.memory; own = 2 + s.own })

abbrev NoMore : ℕ → ℕ → ℕ → Type 0
NoMore t a b = a ≤ b

follows : (t c : ℕ) (M : List ℕ) (a b : ℕ) → NoMore t a b → Followed (AlikeIn (NoMore t)) (slow t c (record { memory = M; own = a })) (fast t c (record { memory = M; own = b }))
unfolding slow fast
follows t zero M a b h = record { memory = refl; own = omega arith }
follows t (suc c) M a b h = tt

pub followed : (ks : List Item) (w u : World ℕ) → AlikeWorld NoMore w u → (run slow ks 0 w).stopped ≡ false → AlikeStand NoMore (run slow ks 0 w) (run fast ks 0 u)
followed ks w u = sim-runs NoMore slow fast follows ks 0 w u

-- where the first is stopped the second goes on alone
abbrev two : World ℕ
two = record { memory = []; threads = 0 ∷ 0 ∷ [] }

pub left_behind : (run slow (items (1 ∷ 0 ∷ 1 ∷ 7 ∷ 0 ∷ 0 ∷ [])) 0 two ≡ record { world = record { memory = []; threads = 0 ∷ 1 ∷ [] }; steps = 1; stopped = true })
    × (run fast (items (1 ∷ 0 ∷ 1 ∷ 7 ∷ 0 ∷ 0 ∷ [])) 0 two ≡ record { world = record { memory = []; threads = 2 ∷ 4 ∷ [] }; steps = 3; stopped = false })
unfolding run items slow fast
left_behind = (refl, refl)
