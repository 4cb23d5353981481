-- "The printing program": what is printed for every text, and what the lent tables hold afterwards.
use Rattle.std.specs.Prelude.{◌≡◌, ℕ, ◌*◌, List, take, Ok, Err}
use Rattle.thread.specs.declared.Refusal.{Refusal}
use Rattle.thread.specs.Sizes.{line_width}
use Rattle.thread.specs.Numbers.{zeros}
use Rattle.thread.specs.Refusal.{number_of, place_of}
use Rattle.text.specs.Read.{Reading, ReadResult, read}
use Rattle.graphs.specs.Build.{Answer as GraphAnswer, Result, build}
use Rattle.printed.specs.Printed.{Answer, Print, print', printed, printed_refusal}

unfoldable pub shown_refusal : Refusal → ℕ → Print
unfolding number_of place_of printed_refusal
shown_refusal r room = printed_refusal (number_of r) (place_of r) room

-- what was printed, and the graph's two tables
pub record Screen : Type 0 where
  pub print : Print
  pub nodes : List ℕ
  pub edges : List ℕ

-- a graph, or why there is none
unfoldable pub shown_built : ℕ → ℕ → GraphAnswer → List ℕ → List ℕ → Print
unfolding printed shown_refusal
shown_built m room (Ok b) nodes edges = printed m b.nodes b.edges nodes edges room
shown_built m room (Err r) nodes edges = shown_refusal r room

unfoldable pub shown_result : ℕ → ℕ → Result → Screen
unfolding shown_built
shown_result m room b = record { print = shown_built m room b.answer b.nodes b.edges; nodes = b.nodes; edges = b.edges }

unfoldable pub shown_table : ℕ → List ℕ → ℕ → ℕ → ℕ → Screen
unfolding build shown_result
shown_table m t node_room edge_room room = shown_result m room (build m t node_room edge_room)

-- a table, or why there is none: "A refusal zeroes every table lent for writing"
unfoldable pub shown_reading : Reading → List ℕ → ℕ → ℕ → ℕ → Screen
unfolding shown_table shown_refusal
shown_reading (Ok (m, lines)) table node_room edge_room room = shown_table m (take (line_width * lines) table) node_room edge_room room
shown_reading (Err r) table node_room edge_room room = record { print = shown_refusal r room; nodes = zeros node_room; edges = zeros edge_room }

unfoldable pub shown_text : List ℕ → ℕ → ℕ → ℕ → ℕ → Screen
unfolding read shown_reading
shown_text text table_room node_room edge_room room = let r : ReadResult = read table_room text in shown_reading r.answer r.table node_room edge_room room

-- what is promised
pub record TableShown (m : ℕ) (t : List ℕ) (node_room edge_room room : ℕ) (r : Answer) (nodes edges area : List ℕ) : Type 0 where
  pub screen : record { print = print' r area; nodes = nodes; edges = edges } ≡ shown_table m t node_room edge_room room

pub record TextShown (text : List ℕ) (table_room node_room edge_room room : ℕ) (r : Answer) (table nodes edges area : List ℕ) : Type 0 where
  pub left : table ≡ (read table_room text).table
  pub screen : record { print = print' r area; nodes = nodes; edges = edges } ≡ shown_text text table_room node_room edge_room room
