-- The two searches of the loop check, and what they say of a line: it is a store line of an unfenced loop.
use mathlib.Core.Path.{◌≡◌, refl, sym, ◌∙◌}
use mathlib.Core.Bool.{Bool, true, false, ◌||◌}
use Prim.Native.Nat.{ℕ, ◌<◌}
use mathlib.Core.List.{List, [], ◌∷◌}
use lib.ListN.{set}
use Rattle.lists.specs.Lists.{any}
use Rattle.thread.specs.declared.Line.{Line}
use Rattle.thread.specs.Table.{line, Prog, instr_at, is_store}
use Rattle.checks.specs.Lines.{follows, passes, leads, unfenced}
use Rattle.lists.proofs.Lists.{all_of}
use Rattle.checks.proofs.Loops.{Stays, passes_stay}
use Rattle.admit.specs.Marks.{marked, no_marks, mark_all, ways, Spread, Closed, Inside}
use Rattle.admit.proofs.Reach.{Below, Kept, start-inside, spread-is}

module _ (t : List ℕ) (n : ℕ) (ok : Closed t n) where
  abbrev prog : Prog
  prog = instr_at t

  stays : Stays (follows prog) n
  stays l h = all_of (λ (k : Line). k.0 < n) (follows prog l) (λ k m. ok.stays l k h m)

  pub kept : (b : Bool) → Kept (ways b prog) n
  unfolding ways
  kept true = record { few_lines = ok.lined.few_lines; stays = stays }
  kept false = record { few_lines = ok.lined.few_lines; stays = passes_stay prog n stays }

  -- from the lines after line l, past neither fence nor cas
  module _ (l : Line) (h : l.0 < n) {m : List Bool} (start : m ≡ mark_all no_marks (ways true prog l)) where
    pub again-inside : Inside n m
    again-inside = rw start (start-inside (ways true prog l) ((kept true).stays l h))

    pub again-is : (r : List Bool) → Spread (ways false prog) m r → marked r l ≡ any (λ k. leads (passes prog) n k l) (follows prog l)
    unfolding ways
    again-is r s = spread-is (kept false) (follows prog l) (stays l h) r (rw start at s) l

  -- from line 0
  first_below : Below n (line 0 ∷ [])
  first_below = (ok.lined.some_lines, tt)

  module _ {m : List Bool} (start : m ≡ set no_marks 0 true) where
    pub reached-inside : Inside n m
    unfolding mark_all
    reached-inside = rw start (start-inside (line 0 ∷ []) first_below)

    pub reached-from : (r : List Bool) → Spread (ways true prog) m r → Spread (follows prog) (mark_all no_marks (line 0 ∷ [])) r
    unfolding ways mark_all
    reached-from r s = rw start at s

  module _ (r : List Bool) (s : Spread (follows prog) (mark_all no_marks (line 0 ∷ [])) r) (l : Line) where
    reached-is : marked r l ≡ leads (follows prog) n (line 0) l
    unfolding ways any
    reached-is = spread-is (kept true) (line 0 ∷ []) first_below r s l ∙ or-false (leads (follows prog) n (line 0) l)
      where
        or-false : (b : Bool) → (b || false) ≡ b
        or-false true = refl
        or-false false = refl

    pub not-stored : is_store (prog l) ≡ false → false ≡ unfenced prog n l
    unfolding unfenced
    not-stored e = rw e

    pub not-reached : is_store (prog l) ≡ true → marked r l ≡ false → false ≡ unfenced prog n l
    unfolding unfenced
    not-reached e f = let g : leads (follows prog) n (line 0) l ≡ false = sym reached-is ∙ f in rw (e, g)

    pub unfenced-is : {b : Bool} → is_store (prog l) ≡ true → marked r l ≡ true → b ≡ any (λ k. leads (passes prog) n k l) (follows prog l) → b ≡ unfenced prog n l
    unfolding unfenced
    unfenced-is e f q = let g : leads (follows prog) n (line 0) l ≡ true = sym reached-is ∙ f in q ∙ rw (e, g)
