-- The lowest line that is marked and not done.
use mathlib.Core.Path.{◌≡◌, refl, sym, ap, ◌∙◌}
use mathlib.Core.Bool.{Bool, true, false, not, ◌&&◌}
use mathlib.Core.Option.{Option, none, some}
use Prim.Native.Nat.{ℕ, ◌<◌}
use mathlib.Core.List.{List}
use lib.ListN.{get_or}
use lib.Dec.{T, T_not}
use Rattle.std.specs.Prelude as held
use Rattle.std.specs.Prelude.{Some}
use Rattle.lists.specs.Lists.{lowest}
use Rattle.lists.specs.Options.{option_of}
use Rattle.lists.proofs.Options.{option_of-injective}
use Rattle.lists.proofs.Tests.{both}
use Rattle.admit.specs.Marks.{is_open}
use Rattle.lists.proofs.Lists.{lowest-some, lowest-none}

open_is : (m d : List Bool) (k : ℕ) → T (is_open m d k) → T (get_or m k false) × (T (get_or d k false) → ⊥)
unfolding is_open
open_is m d k t = let h = both (get_or m k false) (not (get_or d k false)) t in (h.0, T_not (get_or d k false) h.1)

closed_is : (m d : List Bool) (k : ℕ) → (T (is_open m d k) → ⊥) → T (get_or m k false) → T (get_or d k false)
unfolding is_open
closed_is m d k f = go (get_or m k false) (get_or d k false) f
  where
    go : (a b : Bool) → (T (a && not b) → ⊥) → T a → T b
    go a true f t = tt
    go true false f t = f tt
    go false false f t = t

-- what the search for one found
module _ (m d : List Bool) (n : ℕ) {r : held.Option ℕ} (found : r ≡ option_of (lowest (is_open m d) n)) where
  pub open-found : (l : ℕ) → r ≡ Some l → (l < n) × T (get_or m l false) × (T (get_or d l false) → ⊥)
  unfolding option_of
  open-found l e =
      let w = lowest-some (is_open m d) n l (option_of-injective (lowest (is_open m d) n) (some l) (sym found ∙ e)) in
      let o = open_is m d l w.holds in
      (w.below, o.0, o.1)

  pub none_open : ((l : ℕ) → r ≡ Some l → ⊥) → (k : ℕ) → k < n → T (get_or m k false) → T (get_or d k false)
  unfolding option_of
  none_open f k g = closed_is m d k (lowest-none (is_open m d) n (none-lowest (lowest (is_open m d) n) refl) k g)
    where
      none-lowest : (o : Option ℕ) → lowest (is_open m d) n ≡ o → lowest (is_open m d) n ≡ none
      none-lowest none e = e
      none-lowest (some l) e = absurd (f l (found ∙ ap option_of e))
