-- Laws of a line's fields, as the loop meets them: the numbers so far, the parts ahead, and the five numbers.
use mathlib.Core.Path.{◌≡◌, refl, sym, ap, ◌∙◌}
use mathlib.Core.Option.{Option, none, some, map, map-map, bind}
use Prim.Native.Nat.{ℕ, zero, suc, ◌+◌, ◌-◌, ◌≤◌, ◌<◌}
use native.Mathlib.Omega.{arith}
use mathlib.Core.List.{List, [], ◌∷◌}
use lib.ListN.{length, get_or, set}
use lib.Seq.{sets}
use Rattle.lists.proofs.Lists.{not_some}
use Rattle.lists.proofs.Tests.{lt-true}
use Rattle.thread.specs.Numbers.{filled}
use Rattle.decimal.specs.Decimal.{read_number}
use Rattle.text.specs.Written.{kinds, numbers_of}
use Rattle.thread.specs.Table.{fields_of}
use Rattle.thread.specs.Names.{instr_names}
use Rattle.text.specs.Reading.{name_at, field_then, read_fields, entry, read_entry, read_parts}
use Rattle.text.proofs.Bytes.{counts, count_at, count-le, named}

-- the loop: the numbers so far, and the parts ahead
abbrev pub stored : List ℕ → ℕ → Option (List ℕ) → Option (List ℕ)
stored t i o = map (λ fs. sets t i fs) o

module _ (t : List ℕ) (i count : ℕ) (ps : List (List ℕ)) where
  pub turn-stops : i < count → ps ≡ [] → stored t (i + 1) (read_fields (count - i) ps) ≡ none
  unfolding read_fields
  turn-stops h q = let e : count - i ≡ suc (count - suc i) = omega arith in rw (e, q)

  pub turn-bad : (p : List ℕ) (qs : List (List ℕ)) → i < count → ps ≡ p ∷ qs → read_number p ≡ none → stored t (i + 1) (read_fields (count - i) ps) ≡ none
  unfolding read_fields field_then
  turn-bad p qs h q r = let e : count - i ≡ suc (count - suc i) = omega arith in rw (e, q) (rw r)

  pub turn-goes : (p : List ℕ) (qs : List (List ℕ)) (v : ℕ) → i < count → ps ≡ p ∷ qs → read_number p ≡ some v
      → stored (set t (i + 1) v) (i + 1 + 1) (read_fields (count - (i + 1)) qs) ≡ stored t (i + 1) (read_fields (count - i) ps)
  unfolding read_fields field_then
  turn-goes p qs v h q r =
      let e : count - i ≡ suc (count - (i + 1)) = omega arith in
      let s : i + 1 + 1 ≡ suc (i + 1) = omega arith in
      rw (e, q, s) (rw r (sym (map-map (λ fs. sets t (i + 1) fs) (λ vs. v ∷ vs) (read_fields (count - (i + 1)) qs))))

  pub turn-ends : count ≤ i → ps ≡ [] → stored t (i + 1) (read_fields (count - i) ps) ≡ some t
  unfolding read_fields
  turn-ends h q = let e : count - i ≡ 0 = omega arith in rw (e, q)

  pub turn-rest : (p : List ℕ) (qs : List (List ℕ)) → count ≤ i → ps ≡ p ∷ qs → stored t (i + 1) (read_fields (count - i) ps) ≡ none
  unfolding read_fields
  turn-rest p qs h q = let e : count - i ≡ 0 = omega arith in rw (e, q)

-- as many fields as are asked for
pub fields-length : (n : ℕ) (ps : List (List ℕ)) (fs : List ℕ) → read_fields n ps ≡ some fs → length fs ≡ n
unfolding read_fields field_then
fields-length zero [] fs e = let q : [] ≡ fs = cc in rw (← q)
fields-length zero (p ∷ ps) fs e = absurd (not_some e)
fields-length (suc n) [] fs e = absurd (not_some e)
fields-length (suc n) (p ∷ ps) fs e = go (read_number p) (read_fields n ps) (fields-length n ps) refl e
  where
    go : (a : Option ℕ) (b : Option (List ℕ)) → ((gs : List ℕ) → read_fields n ps ≡ some gs → length gs ≡ n) → read_fields n ps ≡ b → field_then a b ≡ some fs → length fs ≡ suc n
    go none b ih u e = absurd (not_some e)
    go (some v) none ih u e = absurd (not_some e)
    go (some v) (some gs) ih u e = let q : v ∷ gs ≡ fs = cc in rw (← q) (ap suc (ih gs u))

-- the five numbers
five-stored : (kind : ℕ) (fs : List ℕ) → length fs ≤ 4 → sets (kind ∷ 0 ∷ 0 ∷ 0 ∷ 0 ∷ []) 1 fs ≡ numbers_of (entry kind fs)
unfolding numbers_of filled
five-stored kind [] h = refl
five-stored kind (a ∷ []) h = refl
five-stored kind (a ∷ b ∷ []) h = refl
five-stored kind (a ∷ b ∷ c ∷ []) h = refl
five-stored kind (a ∷ b ∷ c ∷ d ∷ []) h = refl
five-stored kind (a ∷ b ∷ c ∷ d ∷ e ∷ fs) h = absurd (omega arith)

all-stored : (kind n : ℕ) (ps : List (List ℕ)) → n ≤ 4
    → stored (kind ∷ 0 ∷ 0 ∷ 0 ∷ 0 ∷ []) 1 (read_fields n ps) ≡ map (λ fs. numbers_of (entry kind fs)) (read_fields n ps)
all-stored kind n ps h = go (read_fields n ps) (fields-length n ps)
  where
    go : (o : Option (List ℕ)) → ((fs : List ℕ) → o ≡ some fs → length fs ≡ n) → stored (kind ∷ 0 ∷ 0 ∷ 0 ∷ 0 ∷ []) 1 o ≡ map (λ fs. numbers_of (entry kind fs)) o
    go none l = refl
    go (some fs) l = ap some (five-stored kind fs (omega (arith, l fs refl)))

-- of one of the twelve kinds
pub of-kind : (kind : ℕ) (ps : List (List ℕ)) → kind < kinds → read_entry kind ps ≡ map (entry kind) (read_fields (length (fields_of kind)) ps)
unfolding read_entry
of-kind kind ps h = rw (lt-true kind kinds h)

-- a line's name, and the fields behind it
module _ (name : List ℕ) (ps : List (List ℕ)) where
  pub unknown : name_at name instr_names ≡ none → map numbers_of (read_parts (name ∷ ps)) ≡ none
  unfolding read_parts bind
  unknown n = rw n

  pub known : (kind : ℕ) → name_at name instr_names ≡ some kind → stored (kind ∷ 0 ∷ 0 ∷ 0 ∷ 0 ∷ []) 1 (read_fields (get_or counts kind 0 - 0) ps) ≡ map numbers_of (read_parts (name ∷ ps))
  unfolding read_parts bind
  known kind k =
      let z : get_or counts kind 0 - 0 ≡ get_or counts kind 0 = omega arith in
      let below : kind < kinds = (named name instr_names kind k).below in
      rw (z, count_at kind)
      (all-stored kind (length (fields_of kind)) ps (count-le kind)
      ∙ rw (k, of-kind kind ps below) (sym (map-map numbers_of (entry kind) (read_fields (length (fields_of kind)) ps))))
