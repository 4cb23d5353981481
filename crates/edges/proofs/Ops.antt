-- Laws of operations: which have a test, and which serve choice 0.
use mathlib.Core.Path.{◌≡◌, refl}
use mathlib.Core.Bool.{true}
use Prim.Native.Nat.{ℕ}
use mathlib.Core.List.{List, [], ◌∷◌}
use denote.Enum.Declared.{tag_of}
use types.Run.{OneOf, miss}
use Rattle.thread.specs.declared.Op.{Op}
use Rattle.thread.specs.declared.Op.TheVariants as O
use Rattle.thread.specs.contracts.Op.{the_type}
use Rattle.generated.specs.Machine.{choice_of, test_holds}

-- the operations by their numbers: all but ifnz and ifz; all but put
abbrev pub untested : List ℕ
untested = 0 ∷ 1 ∷ 2 ∷ 3 ∷ 4 ∷ 5 ∷ 6 ∷ 7 ∷ 8 ∷ 9 ∷ 12 ∷ []

abbrev pub unput : List ℕ
unput = 0 ∷ 1 ∷ 2 ∷ 3 ∷ 4 ∷ 5 ∷ 6 ∷ 7 ∷ 8 ∷ 9 ∷ 10 ∷ 11 ∷ []

pub no_test : (R : List ℕ) (o : Op) → OneOf untested (tag_of the_type o) → test_holds R o ≡ true
unfolding test_holds
no_test R (O.Set r v) k = refl
no_test R (O.Copy r s) k = refl
no_test R (O.Add r s t) k = refl
no_test R (O.Sub r s t) k = refl
no_test R (O.Load r x) k = refl
no_test R (O.Take r l) k = refl
no_test R (O.KeepR l r) k = refl
no_test R (O.KeepC l v) k = refl
no_test R O.Pass k = refl
no_test R (O.Cas r x s t) k = refl
no_test R (O.IfNz r) k = absurd (miss untested 10 tt k)
no_test R (O.IfZ r) k = absurd (miss untested 11 tt k)
no_test R (O.Put x l) k = refl

pub no-put : (o : Op) → OneOf unput (tag_of the_type o) → choice_of o ≡ 0
unfolding choice_of
no-put (O.Set r v) k = refl
no-put (O.Copy r s) k = refl
no-put (O.Add r s t) k = refl
no-put (O.Sub r s t) k = refl
no-put (O.Load r x) k = refl
no-put (O.Take r l) k = refl
no-put (O.KeepR l r) k = refl
no-put (O.KeepC l v) k = refl
no-put O.Pass k = refl
no-put (O.Cas r x s t) k = refl
no-put (O.IfNz r) k = refl
no-put (O.IfZ r) k = refl
no-put (O.Put x l) k = absurd (miss unput 12 tt k)
