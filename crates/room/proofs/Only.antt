-- Nothing is left open: two results that keep a promise are equal.
use mathlib.Core.Path.{◌≡◌}
use Prim.Native.Nat.{ℕ}
use mathlib.Core.List.{List}
use Rattle.lists.proofs.Only.{only}
use Rattle.graphs.specs.Build.{Answer, Result}
use Rattle.builder.specs.Result.{Leaves}
use Rattle.room.specs.Room.{Cleared}

-- of `build_present`
pub only-built : (b : Result) (r r₂ : Answer) (ns ns₂ es es₂ : List ℕ) → Leaves b r ns es → Leaves b r₂ ns₂ es₂ → (r ≡ r₂) × (ns ≡ ns₂) × (es ≡ es₂)
only-built b r r₂ ns ns₂ es es₂ p q = (only r r₂ p.answer q.answer, only ns ns₂ p.nodes q.nodes, only es es₂ p.edges q.edges)

-- of `clear_all`
pub only-cleared : (ns es ns' ns₂ es' es₂ : List (List ℕ)) → Cleared ns es ns' es' → Cleared ns es ns₂ es₂ → (ns' ≡ ns₂) × (es' ≡ es₂)
only-cleared ns es ns' ns₂ es' es₂ p q = (only ns' ns₂ p.nodes q.nodes, only es' es₂ p.edges q.edges)
