-- The graph that the paper prints, number for number and byte for byte.
use mathlib.Core.Path.{◌≡◌, refl}
use Prim.Native.Nat.{ℕ}
use mathlib.Core.List.{List, [], ◌∷◌}
use Rattle.lists.specs.Lists.{those}
use Rattle.decimal.specs.Decimal.{digits, decimal}
use Rattle.thread.specs.Names.{op_name, op_names, model_name, model_names}
use Rattle.printed.specs.Text.{tabbed, line_text, lines_text, up_from, numbers_from}
use Rattle.printed.specs.Graph.{field_count, node_fields, edge_fields, nodes_lines, graph_lines, graph_text}

abbrev paper_nodes : List ℕ
paper_nodes =
    0 ∷ 0 ∷ 0 ∷ 0 ∷ 0 ∷ 0 ∷ 0 ∷ 0 ∷ 0 ∷ 0 ∷ 0 ∷ 0 ∷ 0 ∷ 0 ∷ 0 ∷ 0 ∷ 0 ∷ 0
    ∷ 1 ∷ 1 ∷ 0 ∷ 0 ∷ 0 ∷ 0 ∷ 0 ∷ 0 ∷ 0 ∷ 0 ∷ 0 ∷ 0 ∷ 0 ∷ 0 ∷ 0 ∷ 0 ∷ 0 ∷ 0
    ∷ 2 ∷ 1 ∷ 0 ∷ 0 ∷ 0 ∷ 0 ∷ 0 ∷ 0 ∷ 0 ∷ 0 ∷ 0 ∷ 0 ∷ 0 ∷ 0 ∷ 0 ∷ 0 ∷ 0 ∷ 0
    ∷ 1 ∷ 0 ∷ 0 ∷ 0 ∷ 0 ∷ 0 ∷ 0 ∷ 0 ∷ 0 ∷ 0 ∷ 0 ∷ 0 ∷ 0 ∷ 0 ∷ 0 ∷ 0 ∷ 0 ∷ 0
    ∷ 2 ∷ 0 ∷ 0 ∷ 0 ∷ 0 ∷ 0 ∷ 0 ∷ 0 ∷ 0 ∷ 0 ∷ 0 ∷ 0 ∷ 0 ∷ 0 ∷ 0 ∷ 0 ∷ 0 ∷ 0
    ∷ []

abbrev paper_edges : List ℕ
paper_edges =
    0 ∷ 1 ∷ 7 ∷ 0 ∷ 1 ∷ 0 ∷ 0
    ∷ 1 ∷ 2 ∷ 4 ∷ 0 ∷ 1 ∷ 0 ∷ 0
    ∷ 1 ∷ 3 ∷ 12 ∷ 0 ∷ 0 ∷ 0 ∷ 0
    ∷ 2 ∷ 4 ∷ 12 ∷ 0 ∷ 0 ∷ 0 ∷ 0
    ∷ 3 ∷ 4 ∷ 4 ∷ 0 ∷ 1 ∷ 0 ∷ 0
    ∷ []

-- "it prints exactly this (blanks here are tabs)"
abbrev paper_text : List ℕ
paper_text =
    103 ∷ 114 ∷ 97 ∷ 112 ∷ 104 ∷ 9 ∷ 116 ∷ 115 ∷ 111 ∷ 9 ∷ 53 ∷ 9 ∷ 53 ∷ 10  -- graph tso 5 5
    ∷ 110 ∷ 111 ∷ 100 ∷ 101 ∷ 9 ∷ 48 ∷ 9 ∷ 48 ∷ 9 ∷ 48 ∷ 10  -- node 0 0 0
    ∷ 101 ∷ 100 ∷ 103 ∷ 101 ∷ 9 ∷ 48 ∷ 9 ∷ 49 ∷ 9 ∷ 107 ∷ 101 ∷ 101 ∷ 112 ∷ 99 ∷ 9 ∷ 48 ∷ 9 ∷ 49 ∷ 10  -- edge 0 1 keepc 0 1
    ∷ 110 ∷ 111 ∷ 100 ∷ 101 ∷ 9 ∷ 49 ∷ 9 ∷ 49 ∷ 9 ∷ 49 ∷ 9 ∷ 48 ∷ 10  -- node 1 1 1 0
    ∷ 101 ∷ 100 ∷ 103 ∷ 101 ∷ 9 ∷ 49 ∷ 9 ∷ 50 ∷ 9 ∷ 108 ∷ 111 ∷ 97 ∷ 100 ∷ 9 ∷ 48 ∷ 9 ∷ 49 ∷ 10  -- edge 1 2 load 0 1
    ∷ 101 ∷ 100 ∷ 103 ∷ 101 ∷ 9 ∷ 49 ∷ 9 ∷ 51 ∷ 9 ∷ 112 ∷ 117 ∷ 116 ∷ 9 ∷ 48 ∷ 9 ∷ 48 ∷ 10  -- edge 1 3 put 0 0
    ∷ 110 ∷ 111 ∷ 100 ∷ 101 ∷ 9 ∷ 50 ∷ 9 ∷ 50 ∷ 9 ∷ 49 ∷ 9 ∷ 48 ∷ 10  -- node 2 2 1 0
    ∷ 101 ∷ 100 ∷ 103 ∷ 101 ∷ 9 ∷ 50 ∷ 9 ∷ 52 ∷ 9 ∷ 112 ∷ 117 ∷ 116 ∷ 9 ∷ 48 ∷ 9 ∷ 48 ∷ 10  -- edge 2 4 put 0 0
    ∷ 110 ∷ 111 ∷ 100 ∷ 101 ∷ 9 ∷ 51 ∷ 9 ∷ 49 ∷ 9 ∷ 48 ∷ 10  -- node 3 1 0
    ∷ 101 ∷ 100 ∷ 103 ∷ 101 ∷ 9 ∷ 51 ∷ 9 ∷ 52 ∷ 9 ∷ 108 ∷ 111 ∷ 97 ∷ 100 ∷ 9 ∷ 48 ∷ 9 ∷ 49 ∷ 10  -- edge 3 4 load 0 1
    ∷ 110 ∷ 111 ∷ 100 ∷ 101 ∷ 9 ∷ 52 ∷ 9 ∷ 50 ∷ 9 ∷ 48 ∷ 10  -- node 4 2 0
    ∷ []

pub paper-text : graph_text 0 5 5 paper_nodes paper_edges ≡ paper_text
unfolding graph_text graph_lines nodes_lines node_fields edge_fields field_count up_from numbers_from lines_text line_text tabbed those op_name op_names model_name model_names decimal digits
paper-text = refl
