-- The sizes that the paper fixes, each said once.
use Rattle.std.specs.Prelude.{ℕ}

-- "The thread": at most 64 lines, five numbers a line; registers 0 to 15, variables 0 to 15
abbrev pub most_lines : ℕ
most_lines = 64

abbrev pub line_width : ℕ
line_width = 5

abbrev pub registers : ℕ
registers = 16

abbrev pub variables : ℕ
variables = 16

-- "Numbers returned": at most 16 store lines in a table, 16 waiting stores in a node, 4,096 nodes in a graph
abbrev pub most_stores : ℕ
most_stores = 16

abbrev pub most_waiting : ℕ
most_waiting = 16

abbrev pub most_nodes : ℕ
most_nodes = 4096

-- "Graph and generated program": a node record is 18 numbers, an edge record 7
abbrev pub node_width : ℕ
node_width = 18

abbrev pub edge_width : ℕ
edge_width = 7

-- "Runs": 1 to 4 threads
abbrev pub most_threads : ℕ
most_threads = 4
