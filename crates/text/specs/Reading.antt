-- A text read: cut into its lines, each line into its parts, and each part taken for a name or a number.
use Rattle.std.specs.Prelude.{Bool, true, false, cond, ℕ, zero, suc, List, [], ◌∷◌, length, eqb, ltb}
use Rattle.std.specs.List.{position_or_len}
use Rattle.std.specs.Str.{bytes_eq}
use Rattle.std.proofs.Math.Option.{Option, none, some, map, bind}
use Rattle.thread.specs.Table.{fields_of}
use Rattle.thread.specs.Names.{instr_names, model_names}
use Rattle.decimal.specs.Decimal.{read_number}
use Rattle.text.specs.Written.{Entry, Text, tab, feed, kinds}

-- the lines of a text, each with its line feed, which the last may lack
unfoldable pub line_onto : Bool → ℕ → List (List ℕ) → List (List ℕ)
line_onto true b ls = (b ∷ []) ∷ ls
line_onto false b [] = (b ∷ []) ∷ []
line_onto false b (l ∷ ls) = (b ∷ l) ∷ ls

unfoldable pub text_lines : List ℕ → List (List ℕ)
unfolding line_onto
text_lines [] = []
text_lines (b ∷ t) = line_onto (eqb b feed) b (text_lines t)

-- a line without its line feed, if it has one
unfoldable pub body : List ℕ → Option (List ℕ)
body [] = none
body (b ∷ []) = cond (eqb b feed) (some []) none
body (b ∷ c ∷ l) = map (λ k. b ∷ k) (body (c ∷ l))

-- the parts of a line, between its tabs
unfoldable pub part_onto : Bool → ℕ → List (List ℕ) → List (List ℕ)
part_onto true b ps = [] ∷ ps
part_onto false b [] = (b ∷ []) ∷ []
part_onto false b (p ∷ ps) = (b ∷ p) ∷ ps

unfoldable pub parts : List ℕ → List (List ℕ)
unfolding part_onto
parts [] = [] ∷ []
parts (b ∷ l) = part_onto (eqb b tab) b (parts l)

-- "Instruction and operation names are fixed byte strings, compared when text is read"; the number of a name among names, if it is one of them
unfoldable pub name_at : List ℕ → List (List ℕ) → Option ℕ
name_at name names = let k : ℕ = position_or_len (λ n. bytes_eq n name) names in cond (ltb k (length names)) (some k) none

-- exactly n numbers
unfoldable pub field_then : Option ℕ → Option (List ℕ) → Option (List ℕ)
field_then none r = none
field_then (some v) r = map (λ vs. v ∷ vs) r

unfoldable pub read_fields : ℕ → List (List ℕ) → Option (List ℕ)
unfolding field_then read_number
read_fields zero [] = some []
read_fields zero (p ∷ ps) = none
read_fields (suc n) [] = none
read_fields (suc n) (p ∷ ps) = field_then (read_number p) (read_fields n ps)

-- exactly the fields of its kind
abbrev pub entry : ℕ → List ℕ → Entry
entry kind fields = record { kind = kind; fields = fields }

unfoldable pub read_entry : ℕ → List (List ℕ) → Option Entry
unfolding fields_of read_fields
read_entry kind ps = cond (ltb kind kinds) (map (entry kind) (read_fields (length (fields_of kind)) ps)) none

unfoldable pub read_parts : List (List ℕ) → Option Entry
unfolding bind read_entry name_at instr_names
read_parts [] = none
read_parts (name ∷ ps) = bind (name_at name instr_names) (λ kind. read_entry kind ps)

unfoldable pub read_line : List ℕ → Option Entry
unfolding bind body parts read_parts
read_line l = bind (body l) (λ k. read_parts (parts k))

unfoldable pub read_model : List ℕ → Option ℕ
unfolding bind body name_at model_names
read_model l = bind (body l) (λ name. name_at name model_names)

-- all of it read, or the number of the first line that the text form forbids
pub data Judgement (A : Type 0) : Type 0 where
  bad_line : ℕ → Judgement A
  whole : A → Judgement A

unfoldable pub line_then : ℕ → Option Entry → Judgement (List Entry) → Judgement (List Entry)
line_then n none r = bad_line n
line_then n (some e) (bad_line m) = bad_line m
line_then n (some e) (whole es) = whole (e ∷ es)

-- instructions, from line number n on
unfoldable pub read_lines : ℕ → List (List ℕ) → Judgement (List Entry)
unfolding line_then read_line
read_lines n [] = whole []
read_lines n (l ∷ ls) = line_then n (read_line l) (read_lines (suc n) ls)

unfoldable pub model_then : Option ℕ → Judgement (List Entry) → Judgement Text
model_then none r = bad_line 1
model_then (some m) (bad_line n) = bad_line n
model_then (some m) (whole es) = whole (record { model = m; lines = es })

-- line 1 is the model line; "an empty text (place 1)"
unfoldable pub read_text : List (List ℕ) → Judgement Text
unfolding model_then read_model read_lines
read_text [] = bad_line 1
read_text (l ∷ ls) = model_then (read_model l) (read_lines 2 ls)
