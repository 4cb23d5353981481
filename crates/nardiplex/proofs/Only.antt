-- The promises settle everything: any two results that satisfy one are equal.
use mathlib.Core.Path.{◌≡◌, sym, ◌∙◌}
use Prim.Native.Nat.{ℕ}
use mathlib.Core.List.{List}
use Rattle.generated.specs.RunGenerated.{GeneratedResult}
use Rattle.shown.specs.declared.Ran.{Ran}
use Rattle.shown.specs.Ran.{ran_of}
use Rattle.nardiplex.specs.Answers.{ReadPassed, BuildPassed, RunPassed, GeneratedPassed}

pub only-read : (text : List ℕ) (room : ℕ) (t u a b : List ℕ) → ReadPassed text room t a → ReadPassed text room u b → (t ≡ u) × (a ≡ b)
only-read text room t u a b p q = (p.left ∙ sym q.left, p.answered ∙ sym q.answered)

pub only-build : (m : ℕ) (t : List ℕ) (node_room edge_room : ℕ) (ns ns' es es' a b : List ℕ) → BuildPassed m t node_room edge_room ns es a → BuildPassed m t node_room edge_room ns' es' b
    → (ns ≡ ns') × (es ≡ es') × (a ≡ b)
only-build m t node_room edge_room ns ns' es es' a b p q = (p.node_table ∙ sym q.node_table, p.edge_table ∙ sym q.edge_table, p.answered ∙ sym q.answered)

-- of both runs: state and answer
pub only-run : (r : Ran) (s s' a b : List ℕ) → RunPassed r s a → RunPassed r s' b → (s ≡ s') × (a ≡ b)
only-run r s s' a b p q = (p.shown ∙ sym q.shown, p.answered ∙ sym q.answered)

pub only-generated : (g : GeneratedResult) (ns ns' es es' : List (List ℕ)) (s s' a b : List ℕ) → GeneratedPassed g ns es s a → GeneratedPassed g ns' es' s' b
    → (ns ≡ ns') × (es ≡ es') × (s ≡ s') × (a ≡ b)
only-generated g ns ns' es es' s s' a b p q =
    let r = only-run (ran_of g.ended g.state) s s' a b p.passed q.passed in
    (p.node_tables ∙ sym q.node_tables, p.edge_tables ∙ sym q.edge_tables, r.0, r.1)
