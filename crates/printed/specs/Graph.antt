-- "Text form": the lines of a printed graph, and of a printed refusal.
use Rattle.std.specs.Prelude.{ℕ, ◌+◌, ◌*◌, List, [], ◌∷◌, ◌++◌, map, get_or, eqb}
use Rattle.lists.specs.Lists.{those}
use Rattle.decimal.specs.Decimal.{decimal}
use Rattle.thread.specs.Sizes.{node_width, edge_width}
use Rattle.thread.specs.Numbers.{◌!◌}
use Rattle.thread.specs.Names.{op_name, model_name}
use Rattle.printed.specs.Text.{Field, Line, line_text, lines_text, up_from, numbers_from}

abbrev pub graph_word : Field
graph_word = 103 ∷ 114 ∷ 97 ∷ 112 ∷ 104 ∷ []

abbrev pub node_word : Field
node_word = 110 ∷ 111 ∷ 100 ∷ 101 ∷ []

abbrev pub edge_word : Field
edge_word = 101 ∷ 100 ∷ 103 ∷ 101 ∷ []

abbrev pub refused_word : Field
refused_word = 114 ∷ 101 ∷ 102 ∷ 117 ∷ 115 ∷ 101 ∷ 100 ∷ []

-- "A node record is 18: line, count, then up to 16 store lines"
abbrev pub line_of : List ℕ → ℕ → ℕ
line_of t k = t ! (node_width * k)

abbrev pub count_of : List ℕ → ℕ → ℕ
count_of t k = t ! (node_width * k + 1)

abbrev pub waiting_of : List ℕ → ℕ → List ℕ
waiting_of t k = numbers_from t (node_width * k + 2) (count_of t k)

-- "An edge record is 7: from, to, operation, four fields"
abbrev pub from_of : List ℕ → ℕ → ℕ
from_of t j = t ! (edge_width * j)

abbrev pub to_of : List ℕ → ℕ → ℕ
to_of t j = t ! (edge_width * j + 1)

abbrev pub op_of : List ℕ → ℕ → ℕ
op_of t j = t ! (edge_width * j + 2)

-- how many fields the operations 0 to 12 have
abbrev pub field_counts : List ℕ
field_counts = 2 ∷ 2 ∷ 3 ∷ 3 ∷ 2 ∷ 2 ∷ 2 ∷ 2 ∷ 0 ∷ 4 ∷ 1 ∷ 1 ∷ 2 ∷ []

unfoldable pub field_count : ℕ → ℕ
field_count op = get_or field_counts op 0

abbrev pub fields_of : List ℕ → ℕ → List ℕ
fields_of t j = numbers_from t (edge_width * j + 3) (field_count (op_of t j))

-- "`node`: number, line, count of waiting stores, their lines"
unfoldable pub node_fields : List ℕ → ℕ → Line
node_fields t k = node_word ∷ decimal k ∷ decimal (line_of t k) ∷ decimal (count_of t k) ∷ map decimal (waiting_of t k)

-- "`edge`: from, to, operation, its fields"
unfoldable pub edge_fields : List ℕ → ℕ → Line
edge_fields t j = edge_word ∷ decimal (from_of t j) ∷ decimal (to_of t j) ∷ op_name (op_of t j) ∷ map decimal (fields_of t j)

-- those of the edges js that leave node k, in order
abbrev pub leaving : List ℕ → ℕ → List ℕ → List ℕ
leaving t k js = those (λ j. eqb (from_of t j) k) js

-- each of the nodes ks, and behind it those of the edges js that leave it
unfoldable pub nodes_lines : List ℕ → List ℕ → List ℕ → List ℕ → List Line
unfolding node_fields edge_fields
nodes_lines nt et js [] = []
nodes_lines nt et js (k ∷ ks) = (node_fields nt k ∷ map (edge_fields et) (leaving et k js)) ++ nodes_lines nt et js ks

-- "`graph`: model, nodes, edges"
abbrev pub graph_fields : ℕ → ℕ → ℕ → Line
graph_fields model n m = graph_word ∷ model_name model ∷ decimal n ∷ decimal m ∷ []

unfoldable pub graph_lines : ℕ → ℕ → ℕ → List ℕ → List ℕ → List Line
unfolding nodes_lines up_from
graph_lines model n m nt et = graph_fields model n m ∷ nodes_lines nt et (up_from 0 m) (up_from 0 n)

unfoldable pub graph_text : ℕ → ℕ → ℕ → List ℕ → List ℕ → List ℕ
unfolding graph_lines lines_text
graph_text model n m nt et = lines_text (graph_lines model n m nt et)

-- "A refusal prints `refused`, number, place"
unfoldable pub refusal_text : ℕ → ℕ → List ℕ
unfolding line_text
refusal_text number place = line_text (refused_word ∷ decimal number ∷ decimal place ∷ [])
