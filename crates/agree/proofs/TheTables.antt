-- Demand 2: the table built is THE graph, and a loop is refused as unfenced exactly when it is a cycle of the paper's words.
use mathlib.Core.Path.{◌≡◌, refl, subst}
use mathlib.Core.Logic.Iff
use mathlib.Core.Logic.{◌↔◌, inl, inr, ⊎_elim}
use Prim.Native.Nat.{ℕ}
use mathlib.Core.List.{List, [], ◌∷◌, ◌++◌}
use Rattle.lists.specs.Lists.{Lowest}
use Rattle.thread.specs.declared.Refusal.{Refusal}
use Rattle.thread.specs.declared.Refusal.TheVariants as R
use Rattle.thread.specs.Table.{line, instr_at, lines_of}
use Rattle.checks.specs.Lines.{Unfenced, Cycle}
use Rattle.checks.specs.Given.{Condition, at_line, LowestLine, before_loops, GivenBy}
use Rattle.checks.proofs.Given.{given-iff}
use Rattle.checks.proofs.Cycles.{unfenced-cycle}
use Rattle.graphs.proofs.Answers.{the-answered}
use Rattle.agree.specs.Demands.{Demand2, Demand2Loops}

pub demand2 : (m : ℕ) (t : List ℕ) (nodes edges : ℕ) → Demand2 m t nodes edges
demand2 = the-answered

-- a condition that never holds gives nothing
given-skip : (D : Condition) (Cs : List Condition) → ((q : Refusal) → D q → ⊥) → (r : Refusal) → GivenBy (D ∷ Cs) r ↔ GivenBy Cs r
given-skip D Cs never r = (⊎_elim (λ (d : D r). absurd (never r d)) (λ (p : ((q : Refusal) → D q → ⊥) × GivenBy Cs r). p.1), λ g. inr (never, g))

-- where nothing is given by a list of conditions, the next condition alone decides
given-next : (Cs : List Condition) (C : Condition) → ((r : Refusal) → GivenBy Cs r → ⊥) → (r : Refusal) → GivenBy (Cs ++ C ∷ []) r ↔ C r
given-next [] C n r = (⊎_elim (λ (c : C r). c) (λ (p : ((q : Refusal) → C q → ⊥) × ⊥). absurd p.1), inl)
given-next (D ∷ Cs) C n r =
    let never : (q : Refusal) → D q → ⊥ = λ q d. n q (inl d) in
    Iff.trans (given-skip D (Cs ++ C ∷ []) never r) (given-next Cs C (λ q g. n q (inr (never, g))) r)

lowest-imp : {P Q : ℕ → Type 0} {n l : ℕ} → ((k : ℕ) → P k ↔ Q k) → Lowest P n l → Lowest Q n l
lowest-imp {P} {Q} {n} {l} h w = record { below = w.below; holds = (h l).0 w.holds; before = λ k b q. w.before k b ((h k).1 q) }

pub demand2-loops : (m : ℕ) (t : List ℕ) → Demand2Loops m t
demand2-loops m t none-earlier l =
    Iff.trans (given-iff m t (R.UnfencedLoop l)) (Iff.trans (given-next (before_loops m t) loop none-earlier (R.UnfencedLoop l)) (to, from))
  where
    loop : Condition
    loop = at_line R.UnfencedLoop (LowestLine (Unfenced (instr_at t)) (lines_of t))

    to : loop (R.UnfencedLoop l) → LowestLine (Cycle (instr_at t)) (lines_of t) l
    to (k, e, w) =
        let q : k ≡ l = cc in
        subst (LowestLine (Cycle (instr_at t)) (lines_of t)) q (lowest-imp (λ j. unfenced-cycle (instr_at t) (line j)) w)

    from : LowestLine (Cycle (instr_at t)) (lines_of t) l → loop (R.UnfencedLoop l)
    from w = (l, refl, lowest-imp (λ j. Iff.symm (unfenced-cycle (instr_at t) (line j))) w)
