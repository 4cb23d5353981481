-- Nothing is left open: two results that keep the promise are equal, state and rooms.
use mathlib.Core.Path.{◌≡◌, sym, ◌∙◌}
use mathlib.Core.List.{List}
use Prim.Native.Nat.{ℕ}
use Rattle.generated.specs.RunGenerated.{GeneratedResult}
use Rattle.shown.specs.declared.Ran.{Ran}
use Rattle.run_generated.specs.Ran.{Runs}

pub only : (g : GeneratedResult) (ns ns₂ es es₂ : List (List ℕ)) (r r₂ : Ran) → Runs g ns es r → Runs g ns₂ es₂ r₂ → (r ≡ r₂) × (ns ≡ ns₂) × (es ≡ es₂)
only g ns ns₂ es es₂ r r₂ a b = (a.ran ∙ sym b.ran, a.nodes ∙ sym b.nodes, a.edges ∙ sym b.edges)
