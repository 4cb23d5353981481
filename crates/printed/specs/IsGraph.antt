-- When counts and tables are a graph that can be printed.
use Rattle.std.specs.Prelude.{Bool, true, ◌&&◌, ℕ, ◌*◌, ◌≤◌, ◌<◌, List, [], ◌∷◌, length, leb, ltb}
use Rattle.thread.specs.Sizes.{node_width, edge_width, most_waiting}
use Rattle.printed.specs.Text.{up_from}
use Rattle.printed.specs.Graph.{count_of, from_of, op_of}

-- the models are 0 and 1, the operations 0 to 12
abbrev pub most_model : ℕ
most_model = 1

abbrev pub most_op : ℕ
most_op = 12

-- no node has more than 16 waiting stores
unfoldable pub nodes_fit : List ℕ → List ℕ → Bool
nodes_fit t [] = true
nodes_fit t (k ∷ ks) = leb (count_of t k) most_waiting && nodes_fit t ks

-- every edge has an operation and leaves one of the n nodes, and the edges stand in the order of these nodes
unfoldable pub edges_fit : List ℕ → ℕ → ℕ → List ℕ → Bool
edges_fit t n low [] = true
edges_fit t n low (j ∷ js) = leb low (from_of t j) && (ltb (from_of t j) n && (leb (op_of t j) most_op && edges_fit t n (from_of t j) js))

-- the same as a statement
abbrev pub EdgesFit : List ℕ → ℕ → ℕ → List ℕ → Type 0
EdgesFit t n low [] = Unit {0}
EdgesFit t n low (j ∷ js) = (low ≤ from_of t j) × (from_of t j < n) × (op_of t j ≤ most_op) × EdgesFit t n (from_of t j) js

unfoldable pub is_graph : ℕ → ℕ → ℕ → List ℕ → List ℕ → Bool
unfolding nodes_fit edges_fit up_from
is_graph model n m nt et =
    leb model most_model
    && (leb (node_width * n) (length nt)
    && (leb (edge_width * m) (length et)
    && (nodes_fit nt (up_from 0 n)
    && edges_fit et n 0 (up_from 0 m))))

-- the same in words: no count is beyond its table, no waiting count and no operation out of range, every edge leaves a node, and the edges stand in the order of these nodes
pub record IsGraph (model n m : ℕ) (nt et : List ℕ) : Type 0 where
  pub known : model ≤ most_model
  pub nodes : node_width * n ≤ length nt
  pub edges : edge_width * m ≤ length et
  pub counts : (k : ℕ) → k < n → count_of nt k ≤ most_waiting
  pub ops : (j : ℕ) → j < m → op_of et j ≤ most_op
  pub froms : (j : ℕ) → j < m → from_of et j < n
  pub order : (i j : ℕ) → i ≤ j → j < m → from_of et i ≤ from_of et j
