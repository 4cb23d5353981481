-- Laws of one line's parts: what a reading of them says, and how long its numbers are.
use mathlib.Core.Path.{◌≡◌, refl, sym, ap, ◌∙◌}
use mathlib.Core.Option.{Option, none, some, map, bind}
use Prim.Native.Nat.{ℕ, ◌+◌, ◌-◌, ◌≤◌, ◌<◌}
use native.Mathlib.Omega.{arith}
use mathlib.Core.List.{List, [], ◌∷◌}
use lib.ListN.{length, length-append, length-replicate}
use Rattle.lists.proofs.Lists.{not_some}
use Rattle.thread.specs.Numbers.{zeros, filled}
use Rattle.thread.specs.Table.{fields_of}
use Rattle.thread.specs.Names.{instr_names}
use Rattle.text.specs.Written.{Entry, kinds, numbers_of}
use Rattle.text.specs.Reading.{name_at, read_fields, entry, read_entry, read_parts}
use Rattle.text.proofs.Bytes.{count-le, named}
use Rattle.text.proofs.Parts.{fields-length, of-kind}

-- parts read as an entry: its kind's name, and its kind's fields, no more and no fewer
pub record AreEntry (name : List ℕ) (ps : List (List ℕ)) (x : Entry) : Type 0 where
  pub known : name_at name instr_names ≡ some x.kind
  pub fields : read_fields (length (fields_of x.kind)) ps ≡ some x.fields

pub parts-some : (x : Entry) → read_parts [] ≡ some x → ⊥
unfolding read_parts
parts-some x e = not_some e

pub parts-are : (name : List ℕ) (ps : List (List ℕ)) (x : Entry) → read_parts (name ∷ ps) ≡ some x → AreEntry name ps x
unfolding read_parts bind
parts-are name ps x e = go (name_at name instr_names) refl e
  where
    then : (kind : ℕ) → name_at name instr_names ≡ some kind → (o : Option (List ℕ)) → read_fields (length (fields_of kind)) ps ≡ o → map (entry kind) o ≡ some x → AreEntry name ps x
    then kind t none f e = absurd (not_some e)
    then kind t (some fs) f e = let q : entry kind fs ≡ x = cc in rw (← q) (record { known = t; fields = f })

    go : (k : Option ℕ) → name_at name instr_names ≡ k → bind k (λ kind. read_entry kind ps) ≡ some x → AreEntry name ps x
    go none t e = absurd (not_some e)
    go (some kind) t e = then kind t (read_fields (length (fields_of kind)) ps) refl (sym (of-kind kind ps (named name instr_names kind t).below) ∙ e)

pub is-entry : (kind : ℕ) (ps : List (List ℕ)) (fs : List ℕ) → kind < kinds → read_fields (length (fields_of kind)) ps ≡ some fs → read_entry kind ps ≡ some (entry kind fs)
is-entry kind ps fs h f = of-kind kind ps h ∙ rw f

-- at most four fields, so five numbers
pub five-long : (x : Entry) → length x.fields ≤ 4 → length (numbers_of x) ≡ 5
unfolding numbers_of filled
five-long x h = length-append (x.kind ∷ x.fields) (zeros (5 - length (x.kind ∷ x.fields))) ∙ ap (λ (n : ℕ). length (x.kind ∷ x.fields) + n) (length-replicate (5 - length (x.kind ∷ x.fields)) 0) ∙ omega arith

pub parts-five : (ps : List (List ℕ)) (x : Entry) → read_parts ps ≡ some x → length (numbers_of x) ≡ 5
parts-five [] x e = absurd (parts-some x e)
parts-five (name ∷ ps) x e =
    five-long x (omega (arith, fields-length (length (fields_of x.kind)) ps x.fields (parts-are name ps x e).fields, count-le x.kind))
