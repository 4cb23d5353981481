-- "Text form": what is written of a model and its lines.
use Rattle.std.specs.Prelude.{◌≡◌, ℕ, ◌<◌, List, [], ◌∷◌, ◌++◌, map, length}
use Rattle.lists.specs.Lists.{All}
use Rattle.thread.specs.Sizes.{line_width}
use Rattle.thread.specs.Word.{word}
use Rattle.thread.specs.Numbers.{filled}
use Rattle.thread.specs.Table.{fields_of}
use Rattle.thread.specs.Names.{instr_name, model_name}
use Rattle.decimal.specs.Decimal.{decimal}

abbrev pub tab : ℕ
tab = 9

abbrev pub feed : ℕ
feed = 10

-- the kinds are 0 to 11, the models 0 and 1
abbrev pub kinds : ℕ
kinds = 12

abbrev pub models : ℕ
models = 2

-- an instruction: its kind, and the fields that it uses
pub record Entry : Type 0 where
  pub kind : ℕ
  pub fields : List ℕ

-- exactly the fields of its kind; numbers up to 4294967295
pub record Proper (e : Entry) : Type 0 where
  pub known : e.kind < kinds
  pub used : length e.fields ≡ length (fields_of e.kind)
  pub small : All (λ v. v < word) e.fields

-- "Fields are parted by one tab": a tab and the digits of each
unfoldable pub tabbed : List (List ℕ) → List ℕ
tabbed [] = []
tabbed (p ∷ ps) = tab ∷ p ++ tabbed ps

-- a name and its fields; "each line ends in a line feed"
unfoldable pub line_text : Entry → List ℕ
unfolding instr_name decimal tabbed
line_text e = instr_name e.kind ++ tabbed (map decimal e.fields) ++ (feed ∷ [])

-- "First line `tso` or `pso`"
unfoldable pub model_text : ℕ → List ℕ
unfolding model_name
model_text m = model_name m ++ (feed ∷ [])

-- a model and its lines
pub record Text : Type 0 where
  pub model : ℕ
  pub lines : List Entry

pub record ProperText (t : Text) : Type 0 where
  pub known : t.model < models
  pub lines : All Proper t.lines

unfoldable pub lines_text : List Entry → List ℕ
unfolding line_text
lines_text [] = []
lines_text (e ∷ es) = line_text e ++ lines_text es

unfoldable pub written : Text → List ℕ
unfolding model_text lines_text
written t = model_text t.model ++ lines_text t.lines

-- "A table holds five 32-bit numbers a line: kind, then four fields. Unused fields are 0."
unfoldable pub numbers_of : Entry → List ℕ
unfolding filled
numbers_of e = filled line_width (e.kind ∷ e.fields)

unfoldable pub table_of : List Entry → List ℕ
unfolding numbers_of
table_of [] = []
table_of (e ∷ es) = numbers_of e ++ table_of es
