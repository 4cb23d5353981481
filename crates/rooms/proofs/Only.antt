-- Nothing is left open: two results that keep the promise are equal, answer and all rooms.
use mathlib.Core.Path.{◌≡◌, sym, ap, ◌∙◌}
use mathlib.Core.Option.{Option, none, some, Option-elim}
use Prim.Native.Nat.{ℕ}
use mathlib.Core.List.{List}
use Rattle.lists.proofs.Only.{only as equals}
use Rattle.thread.specs.declared.Refusal.{Refusal}
use Rattle.runs.specs.Run.{Bad}
use Rattle.generated.specs.RunGenerated.{Rooms}
use Rattle.std.specs.Prelude.{Ok, Err}
use Rattle.rooms.specs.Graphs.{Making, Makes}

-- who is refused is told by the refusal
same-bad : (b b₂ : ℕ × Refusal) → ◌≡◌ {A = Option Bad} (some (record { thread = b.0; refusal = b.1 })) (some (record { thread = b₂.0; refusal = b₂.1 })) → ◌≡◌ {A = Making} (Err b) (Err b₂)
unfolding Option-elim
same-bad b b₂ e = ap (λ (o : Option Bad). Option-elim o (Err b) (λ c. Err (c.thread, c.refusal))) e

module _ (m count : ℕ) (tables : List (List ℕ)) (rooms : Rooms) (ns ns₂ es es₂ : List (List ℕ)) where
  pub only : (r r₂ : Making) → Makes m count tables rooms ns es r → Makes m count tables rooms ns₂ es₂ r₂ → (r ≡ r₂) × (ns ≡ ns₂) × (es ≡ es₂)
  only (Err b) (Err b₂) p q = (same-bad b b₂ (sym p.refused ∙ q.refused), equals ns ns₂ p.nodes q.nodes, equals es es₂ p.edges q.edges)
  only (Err b) (Ok counts) p q = let e : ◌≡◌ {A = Option Bad} (some (record { thread = b.0; refusal = b.1 })) none = sym p.refused ∙ q.fine in (cc, cc, cc)
  only (Ok counts) (Err b) p q = let e : ◌≡◌ {A = Option Bad} (some (record { thread = b.0; refusal = b.1 })) none = sym q.refused ∙ p.fine in (cc, cc, cc)
  only (Ok counts) (Ok counts₂) p q = (ap Ok (equals counts counts₂ p.counts q.counts), equals ns ns₂ p.nodes q.nodes, equals es es₂ p.edges q.edges)
