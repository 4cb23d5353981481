-- Marks: what is marked after more lines are, and how many lines are not done.
use mathlib.Core.Path.{◌≡◌, refl, ap, ◌∙◌}
use mathlib.Core.Logic.{◌⊎◌, inl, inr, ⊎_elim}
use mathlib.Core.Bool.{Bool, true, false, cond}
use Prim.Native.Nat.{ℕ, zero, suc, ◌<◌}
use native.Mathlib.Omega.{arith}
use mathlib.Core.List.{List, [], ◌∷◌, Memᴰ}
use lib.ListN.{length, get_or, set, replicate, length-set}
use lib.Dec.{T}
use Rattle.lists.specs.Lists.{All}
use Rattle.thread.specs.declared.Line.{Line}
use Rattle.thread.specs.Table.{line}
use Rattle.admit.specs.Marks.{marked, mark_all}

-- one place more is true
set_keeps : (m : List Bool) (i j : ℕ) → T (get_or m j false) → T (get_or (set m i true) j false)
set_keeps [] i j t = absurd t
set_keeps (b ∷ m) zero zero t = tt
set_keeps (b ∷ m) zero (suc j) t = t
set_keeps (b ∷ m) (suc i) zero t = t
set_keeps (b ∷ m) (suc i) (suc j) t = set_keeps m i j t

set_here : (m : List Bool) (i : ℕ) → i < length m → T (get_or (set m i true) i false)
set_here [] i h = absurd (omega arith)
set_here (b ∷ m) zero h = tt
set_here (b ∷ m) (suc i) h = set_here m i (omega arith)

pub set_cases : (m : List Bool) (i j : ℕ) → T (get_or (set m i true) j false) → (j ≡ i) ⊎ T (get_or m j false)
set_cases [] i j t = absurd t
set_cases (b ∷ m) zero zero t = inl refl
set_cases (b ∷ m) zero (suc j) t = inr t
set_cases (b ∷ m) (suc i) zero t = inr t
set_cases (b ∷ m) (suc i) (suc j) t = ⊎_elim (λ (e : j ≡ i). inl (ap suc e)) (λ (u : T (get_or m j false)). inr u) (set_cases m i j t)

-- many lines more are marked
pub mark-length : (m : List Bool) (ls : List Line) → length (mark_all m ls) ≡ length m
unfolding mark_all
mark-length m [] = refl
mark-length m (l ∷ ls) = mark-length (set m l.0 true) ls ∙ length-set m l.0 true

pub mark-keeps : (m : List Bool) (ls : List Line) (k : Line) → T (marked m k) → T (marked (mark_all m ls) k)
unfolding mark_all
mark-keeps m [] k t = t
mark-keeps m (l ∷ ls) k t = mark-keeps (set m l.0 true) ls k (set_keeps m l.0 k.0 t)

pub mark-marks : (m : List Bool) (ls : List Line) → All (λ (k : Line). k.0 < length m) ls → All (λ k. T (marked (mark_all m ls) k)) ls
unfolding mark_all
mark-marks m [] h = tt
mark-marks m (l ∷ ls) h = (mark-keeps (set m l.0 true) ls l (set_here m l.0 h.0), mark-marks (set m l.0 true) ls (rw (length-set m l.0 true) h.1))

pub mark-cases : (m : List Bool) (ls : List Line) (k : Line) → T (marked (mark_all m ls) k) → Memᴰ k ls ⊎ T (marked m k)
unfolding mark_all
mark-cases m [] k t = inr t
mark-cases m (l ∷ ls) k t = ⊎_elim (λ (i : Memᴰ k ls). inl (Memᴰ.tail i)) here (mark-cases (set m l.0 true) ls k t)
  where
    here : T (marked (set m l.0 true) k) → Memᴰ k (l ∷ ls) ⊎ T (marked m k)
    here u = ⊎_elim (λ (e : k.0 ≡ l.0). inl (Memᴰ.head (ap line e))) (λ (v : T (marked m k)). inr v) (set_cases m l.0 k.0 u)

pub none-marked : (n j : ℕ) → T (get_or (replicate n false) j false) → ⊥
none-marked zero j t = t
none-marked (suc n) zero t = t
none-marked (suc n) (suc j) t = none-marked n j t

-- how many are not done
unfoldable pub undone : List Bool → ℕ
undone [] = 0
undone (b ∷ d) = cond b (undone d) (suc (undone d))

pub undone-less : (d : List Bool) (i : ℕ) → i < length d → (T (get_or d i false) → ⊥) → undone (set d i true) < undone d
unfolding undone
undone-less [] i h f = absurd (omega arith)
undone-less (true ∷ d) zero h f = absurd (f tt)
undone-less (false ∷ d) zero h f = omega arith
undone-less (true ∷ d) (suc i) h f = undone-less d i (omega arith) f
undone-less (false ∷ d) (suc i) h f = omega (arith, undone-less d i (omega arith) f)
