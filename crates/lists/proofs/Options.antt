-- Nothing of an option is lost on the way to the code.
use mathlib.Core.Path.{◌≡◌, refl, sym, ap, ◌∙◌}
use mathlib.Core.Option as maybe
use mathlib.Core.Option.{none, some}
use mathlib.Core.Bool.{Bool, true, false, cond}
use mathlib.Core.List.{List, [], ◌∷◌}
use Rattle.std.specs.Prelude.{Option, Some, None, find}
use Rattle.lists.specs.Lists.{first}
use Rattle.lists.specs.Options.{option_of}

-- the way back
unfoldable option_from : {A : Type 0} → Option A → maybe.Option A
option_from None = none
option_from (Some x) = some x

there-and-back : {A : Type 0} (o : maybe.Option A) → option_from (option_of o) ≡ o
unfolding option_of option_from
there-and-back none = refl
there-and-back (some x) = refl

-- two options that the code holds as one are one
pub option_of-injective : {A : Type 0} (o p : maybe.Option A) → option_of o ≡ option_of p → o ≡ p
option_of-injective o p same = sym (there-and-back o) ∙ ap option_from same ∙ there-and-back p

-- what the code holds says what the option is
pub held-none : {A : Type 0} (o : maybe.Option A) → option_of o ≡ None → o ≡ none
unfolding option_of
held-none o e = option_of-injective o none e

pub held-some : {A : Type 0} (o : maybe.Option A) (x : A) → option_of o ≡ Some x → o ≡ some x
unfolding option_of
held-some o x e = option_of-injective o (some x) e

-- the first element that passes a test is the one that the library's `find` finds
pub first_find : {A : Type 0} (p : A → Bool) (l : List A) → option_of (first p l) ≡ find p l
unfolding option_of first
first_find p [] = refl
first_find p (a ∷ l) = go (p a) (first_find p l)
  where
    go : (b : Bool) → option_of (first p l) ≡ find p l → option_of (cond b (some a) (first p l)) ≡ cond b (Some a) (find p l)
    go true e = refl
    go false e = e
