-- The store lines, as a chain of iterators finds them.
use mathlib.Core.Path.{◌≡◌, refl, ap, ◌∙◌}
use mathlib.Core.Bool.{Bool, true, false, cond}
use mathlib.Core.Option.{Option, none, some}
use Prim.Native.Nat.{ℕ, zero, suc}
use native.Mathlib.Numerals.{add-one}
use mathlib.Core.List.{List, [], ◌∷◌, ◌++◌, map}
use lib.ListN.{get_elem?}
use Rattle.std.specs.List.{slice_get, filter, range_with_len}
use Rattle.lists.specs.Lists.{listed, collect}
use Rattle.lists.specs.Options.{option_of}
use Rattle.thread.specs.declared.Line.{Line}
use Rattle.thread.specs.Table.{line, Prog, is_store}
use Rattle.checks.specs.Checks.{store_lines}

got : {A : Type 0} (l : List A) (i : ℕ) → slice_get l i ≡ option_of (get_elem? l i)
unfolding option_of
got [] i = refl
got (a ∷ l) zero = refl
got (a ∷ l) (suc i) = got l i

module _ (prog : Prog) where
  abbrev stored : Line → Bool
  stored l = is_store (prog l)

  abbrev store_at : ℕ → Option Line
  store_at k = cond (stored (line k)) (some (line k)) none

  collected : (k n : ℕ) → filter stored (map line (range_with_len k n)) ≡ collect store_at k n
  unfolding collect listed
  collected k zero = refl
  collected k (suc n) = go (stored (line k)) (rw add-one (collected (suc k) n))
    where
      go : (b : Bool) {ls more : List Line} → ls ≡ more → cond b (line k ∷ ls) ls ≡ listed (cond b (some (line k)) none) ++ more
      go true e = ap (λ (ls : List Line). line k ∷ ls) e
      go false e = e

  pub stores_got : (n i : ℕ) → slice_get (filter stored (map line (range_with_len 0 n))) i ≡ option_of (get_elem? (store_lines prog n) i)
  unfolding store_lines
  stores_got n i = got (filter stored (map line (range_with_len 0 n))) i ∙ ap (λ (ls : List Line). option_of (get_elem? ls i)) (collected 0 n)
