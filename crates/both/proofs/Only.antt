-- Nothing is left open: two pairs of results that keep the promise are equal, states and rooms.
use mathlib.Core.Path.{◌≡◌}
use mathlib.Core.List.{List}
use Prim.Native.Nat.{ℕ}
use Rattle.lists.proofs.Only.{only as equals}
use Rattle.generated.specs.RunGenerated.{run_generated}
use Rattle.shown.specs.declared.Ran.{Ran}
use Rattle.shown.specs.Ran.{start_of}
use Rattle.rooms.specs.Graphs.{rooms_of}
use Rattle.run_generated.proofs.Only.{only as generated-only}
use Rattle.both.specs.Returned.{BothRun}

module _ (model count : ℕ) (tables : List (List ℕ)) (memory registers schedule : List ℕ) (nodes edges : List (List ℕ)) where
  pub only : (ns ns₂ es es₂ : List (List ℕ)) (b b₂ g g₂ : Ran) → BothRun model count tables memory registers schedule nodes edges ns es b g
      → BothRun model count tables memory registers schedule nodes edges ns₂ es₂ b₂ g₂ → (b ≡ b₂) × (g ≡ g₂) × (ns ≡ ns₂) × (es ≡ es₂)
  only ns ns₂ es es₂ b b₂ g g₂ p q =
      let same = generated-only (run_generated (start_of model count tables memory registers schedule) (rooms_of nodes edges)) ns ns₂ es es₂ g g₂ p.generated q.generated in
      (equals b b₂ p.buffered q.buffered, same.0, same.1, same.2)
