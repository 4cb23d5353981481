-- Laws of bytes: how far to a byte, a name looked up, how many fields a kind uses.
use mathlib.Core.Path.{◌≡◌, refl}
use mathlib.Core.Bool.{Bool, true, false, cond, not}
use mathlib.Core.Option.{none, some}
use Prim.Native.Nat.{ℕ, zero, suc, ◌≤◌, ◌<◌}
use native.Mathlib.Omega.{arith}
use mathlib.Core.List.{List, [], ◌∷◌}
use lib.ListN.{length, get_or, get_or-map}
use lib.Dec.{eqb, ltb}
use Rattle.std.specs.Prelude as std
use Rattle.std.specs.List.{position, position_or_len}
use Rattle.std.specs.Str.{bytes_eq}
use Rattle.std.proofs.lemmas.List.Sums.{prefix_len-le-length, prefix_len_stops}
use Rattle.std.proofs.lemmas.Slice.Eq.{bytes_eq-Decides}
use borrow.Author.Tests.{eq-eqb}
use Rattle.lists.specs.Lists.{All}
use Rattle.lists.specs.Options.{option_of}
use Rattle.lists.proofs.Lists.{not_some}
use Rattle.lists.proofs.Tests.{eq-false, true-lt}
use Rattle.thread.specs.Table.{Field, register, variable, value, target, fields_of}
use Rattle.text.specs.Reading.{name_at}
use Rattle.text.specs.Steps.{run}

-- how far to the first s
pub run-hit : (s b : ℕ) (l : List ℕ) → b ≡ s → run s (b ∷ l) ≡ 0
unfolding run
run-hit s b l e = rw (eq-eqb b s e)

pub run-miss : (s b : ℕ) (l : List ℕ) → (b ≡ s → ⊥) → run s (b ∷ l) ≡ suc (run s l)
unfolding run
run-miss s b l n = rw (eq-false b s n) (omega arith)

pub run-le : (s : ℕ) (l : List ℕ) → run s l ≤ length l
unfolding run
run-le s l = prefix_len-le-length (λ b. not (eqb b s)) l

-- a name among names
abbrev among : List ℕ → List (List ℕ) → ℕ
among name names = position_or_len (λ n. bytes_eq n name) names

pub name-position : (name : List ℕ) (names : List (List ℕ)) → position (λ n. bytes_eq n name) names ≡ option_of (name_at name names)
unfolding name_at option_of
name-position name names = go (ltb (among name names) (length names))
  where
    go : (b : Bool) → cond b (std.Some (among name names)) std.None ≡ option_of (cond b (some (among name names)) none)
    go true = refl
    go false = refl

-- `k` is the number of the name
pub record Named (name : List ℕ) (names : List (List ℕ)) (k : ℕ) : Type 0 where
  pub below : k < length names
  pub is : get_or names k [] ≡ name

pub named : (name : List ℕ) (names : List (List ℕ)) (k : ℕ) → name_at name names ≡ some k → Named name names k
unfolding name_at
named name names k e = go (ltb (among name names) (length names)) refl e
  where
    same : (b : Bool) → bytes_eq (get_or names (among name names) []) name ≡ b → not b ≡ false → get_or names (among name names) [] ≡ name
    same true t e = (bytes_eq-Decides (get_or names (among name names) []) name).0 t
    same false t e = let z : ◌≡◌ {A = Bool} true false = e in cc

    go : (b : Bool) → ltb (among name names) (length names) ≡ b → cond b (some (among name names)) none ≡ some k → Named name names k
    go true t e =
        let h : among name names < length names = true-lt (among name names) (length names) t in
        let q : among name names ≡ k = cc in
        rw (← q) (record {
          below = h;
          is = same (bytes_eq (get_or names (among name names) []) name) refl (prefix_len_stops (λ n. not (bytes_eq n name)) names [] h);
        })
    go false t e = absurd (not_some e)

-- how many fields a kind uses
abbrev pub counts : List ℕ
counts = 2 ∷ 2 ∷ 3 ∷ 3 ∷ 2 ∷ 2 ∷ 2 ∷ 0 ∷ 4 ∷ 2 ∷ 1 ∷ 0 ∷ []

abbrev by_kind : List (List Field)
by_kind =
    (register ∷ value ∷ [])
    ∷ (register ∷ register ∷ [])
    ∷ (register ∷ register ∷ register ∷ [])
    ∷ (register ∷ register ∷ register ∷ [])
    ∷ (register ∷ variable ∷ [])
    ∷ (variable ∷ register ∷ [])
    ∷ (variable ∷ value ∷ [])
    ∷ []
    ∷ (register ∷ variable ∷ register ∷ register ∷ [])
    ∷ (register ∷ target ∷ [])
    ∷ (target ∷ [])
    ∷ []
    ∷ []

pub count_at : (kind : ℕ) → get_or counts kind 0 ≡ length (fields_of kind)
unfolding fields_of
count_at kind = get_or-map length by_kind kind []

at_most : (n : ℕ) (l : List ℕ) (k : ℕ) → All (λ x. x ≤ n) l → get_or l k 0 ≤ n
at_most n [] k h = omega arith
at_most n (x ∷ l) zero h = h.0
at_most n (x ∷ l) (suc k) h = at_most n l k h.1

pub count-le : (kind : ℕ) → length (fields_of kind) ≤ 4
count-le kind = rw (← count_at kind) (at_most 4 counts kind (omega arith))
