-- What the text of a graph says: its model, its counts, and of each record every number that is used.
use Rattle.std.specs.Prelude.{◌≡◌, ℕ, ◌+◌, ◌*◌, ◌≤◌, ◌<◌, List}
use Rattle.thread.specs.Sizes.{node_width, edge_width, most_waiting}
use Rattle.thread.specs.Numbers.{◌!◌}
use Rattle.printed.specs.Graph.{line_of, count_of, waiting_of, from_of, to_of, op_of, field_count, fields_of, graph_text}
use Rattle.printed.specs.IsGraph.{IsGraph}

pub record SameNode (t t' : List ℕ) (k : ℕ) : Type 0 where
  pub line : line_of t k ≡ line_of t' k
  pub count : count_of t k ≡ count_of t' k
  pub waiting : waiting_of t k ≡ waiting_of t' k

pub record SameEdge (t t' : List ℕ) (j : ℕ) : Type 0 where
  pub from : from_of t j ≡ from_of t' j
  pub to : to_of t j ≡ to_of t' j
  pub op : op_of t j ≡ op_of t' j
  pub fields : fields_of t j ≡ fields_of t' j

pub record SameGraph (model n m : ℕ) (nt et : List ℕ) (model' n' m' : ℕ) (nt' et' : List ℕ) : Type 0 where
  pub models : model ≡ model'
  pub nodes : n ≡ n'
  pub edges : m ≡ m'
  pub node : (k : ℕ) → k < n → SameNode nt nt' k
  pub edge : (j : ℕ) → j < m → SameEdge et et' j

-- "so no two graphs print alike"
abbrev pub ReadBack : Type 0
ReadBack =
    (model n m : ℕ) (nt et : List ℕ) (model' n' m' : ℕ) (nt' et' : List ℕ)
    → IsGraph model n m nt et → IsGraph model' n' m' nt' et'
    → graph_text model n m nt et ≡ graph_text model' n' m' nt' et'
    → SameGraph model n m nt et model' n' m' nt' et'

-- "Unused numbers are 0": behind the store lines of a node record, and behind the fields of an edge record
pub record UnusedZero (n m : ℕ) (nt et : List ℕ) : Type 0 where
  pub nodes : (k i : ℕ) → k < n → count_of nt k ≤ i → i < most_waiting → nt ! (node_width * k + 2 + i) ≡ 0
  pub edges : (j i : ℕ) → j < m → field_count (op_of et j) ≤ i → i < 4 → et ! (edge_width * j + 3 + i) ≡ 0

-- every number of every record
pub record SameRecords (n m : ℕ) (nt et nt' et' : List ℕ) : Type 0 where
  pub nodes : (k i : ℕ) → k < n → i < node_width → nt ! (node_width * k + i) ≡ nt' ! (node_width * k + i)
  pub edges : (j i : ℕ) → j < m → i < edge_width → et ! (edge_width * j + i) ≡ et' ! (edge_width * j + i)
