-- Nothing of a turn and of a run is left open: two answers, and two worlds, that keep the promise are equal.
use mathlib.Core.Path.{◌≡◌, refl, sym, ap, ◌∙◌}
use mathlib.Core.Bool.{Bool, true, false}
use mathlib.Core.Option.{Option, none, some, get_or}
use Rattle.runs.specs.Run.{Ended, World, Stand}
use Rattle.runs.specs.Machine.{Turned, Led}

module _ {T : Type 0} (o : Option (World T)) (w : World T) where
  pub only-turned : (r r₂ : Bool) (w₁ w₂ : World T) → Turned o w r w₁ → Turned o w r₂ w₂ → (r ≡ r₂) × (w₁ ≡ w₂)
  only-turned true true w₁ w₂ p q = (refl, ap (λ (x : Option (World T)). get_or x w₁) (sym p ∙ q))
  only-turned true false w₁ w₂ p q = let e : some w₁ ≡ none = sym p ∙ q.0 in (cc, cc)
  only-turned false true w₁ w₂ p q = let e : some w₂ ≡ none = sym q ∙ p.0 in (cc, cc)
  only-turned false false w₁ w₂ p q = (refl, p.1 ∙ sym q.1)

pub only-led : {T : Type 0} (e : Stand T) (r r₂ : Ended) (w w₂ : World T) → Led e r w → Led e r₂ w₂ → (r ≡ r₂) × (w ≡ w₂)
only-led e r r₂ w w₂ p q = (p.ended ∙ sym q.ended, p.world ∙ sym q.world)
