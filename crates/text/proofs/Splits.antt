-- Laws of a line cut at its tabs: what `split` still has ahead of it, and its next part.
use mathlib.Core.Path.{◌≡◌, refl, sym, ap, subst, ◌∙◌}
use mathlib.Core.Bool.{Bool, true, false, cond}
use mathlib.Core.List.{List, [], ◌∷◌, ◌++◌}
use Prim.Native.Nat.{ℕ}
use native.Mathlib.Omega.{arith}
use lib.Dec.{eqb}
use lib.ListN.{length, get_or}
use denote.Ref.{Bor}
use denote.Param.Members.{Mut}
use Rattle.std.specs.Prelude.{Some}
use Rattle.std.specs.Bool.{MatchBool}
use Rattle.std.specs.Fn.{ComputesKey, CalledAt}
use Rattle.std.specs.List.{All, onto_first, slice_split, IsFirstMatchOrLen}
use Rattle.std.specs.Slice.Iter as slice
use Rattle.std.specs.declared.slice.Split.{Split}
use Rattle.std.proofs.lemmas.Fn.{always_returns_same}
use Rattle.std.proofs.lemmas.Grind.{common_steps}
use Rattle.std.proofs.lemmas.List.Splits.{slice_split_none, slice_split_at}
use Rattle.text.specs.Written.{tab}
use Rattle.text.specs.Reading.{part_onto, parts}

abbrev at_tab : ℕ → Bool
at_tab b = eqb b tab

-- the parts are what std says that `split` gives
parts-split : (l : List ℕ) → parts l ≡ slice_split at_tab l
unfolding parts part_onto
parts-split [] = refl
parts-split (b ∷ l) = rw (parts-split l) (go (eqb b tab) (slice_split at_tab l))
  where
    go : (t : Bool) (ps : List (List ℕ)) → part_onto t b ps ≡ cond t ([] ∷ ps) (onto_first b ps)
    go true ps = refl
    go false [] = refl
    go false (p ∷ ps) = refl

-- what is ahead, and the part in front of it
abbrev pub ahead : Bool → List ℕ → List (List ℕ)
ahead done rest = cond done [] (parts rest)

front : (xs x rest : List ℕ) (done : Bool) → MatchBool done (xs ≡ x) ((y : ℕ) × (xs ≡ x ++ (y ∷ rest))) → IsFirstMatchOrLen at_tab xs (length x) → parts xs ≡ x ∷ ahead done rest
front xs x rest true e h = ap parts e ∙ parts-split x ∙ slice_split_none at_tab x (λ k d l. subst (λ ys. at_tab (get_or ys k d) ≡ false) e (h.0 k d (omega arith) l))
front xs x rest false e h =
    let before : All (λ z. at_tab z ≡ false) x = λ k d l. let a = h.0 k d (omega arith) l in let b = e.1 in grind (arith, common_steps) in
    let hit : at_tab e.0 ≡ true = let b = e.1 in let a = h.1 (grind (arith, common_steps)) e.0 in grind (arith, common_steps) in
    ap parts e.1 ∙ parts-split (x ++ (e.0 ∷ rest)) ∙ slice_split_at at_tab x e.0 rest before hit ∙ ap (λ (ps : List (List ℕ)). x ∷ ps) (sym (parts-split rest))

-- a closure that compares with a byte
pub computes : {F : Type 0} {g : Mut F (Bor ℕ × Unit {0}) Bool} {f : F} (s : ℕ) → ((x : ℕ) (b : Bool) (q : F) → CalledAt g f x b q → (q ≡ f) × (b ≡ eqb x s)) → ComputesKey g (λ b. eqb b s) f
computes {g = g} {f = f} s tests = always_returns_same g (λ a r. r ≡ eqb a.0.now s) f (λ a r q k. let m = tests a.0.now r q (record { shown = a.0; shows = refl; called = k }) in (m.1, m.0))

pub next-part : {F : Type 0} {g : Mut F (Bor ℕ × Unit {0}) Bool} (s t : Split ℕ F) (x : Bor (List ℕ)) → slice.split_steps g s (Some x) t → ComputesKey g at_tab (slice.split_callee s)
    → ahead (slice.split_done s) (slice.split_rest s) ≡ x.now ∷ ahead (slice.split_done t) (slice.split_rest t)
next-part s t x k h = rw k.0 (front (slice.split_rest s) x.now (slice.split_rest t) (slice.split_done t) k.1 (k.2 at_tab h).1)

pub from-all : (done : Bool) (rest line : List ℕ) (ps : List (List ℕ)) → done ≡ false → rest ≡ line → ahead done rest ≡ ps → parts line ≡ ps
from-all done rest line ps d r e = rw (d, r) at e

pub no-part : (done : Bool) (rest : List ℕ) → done ≡ true → ahead done rest ≡ []
no-part done rest e = rw e
