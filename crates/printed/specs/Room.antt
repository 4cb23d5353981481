-- "The printing program .. lends 400 nodes and 900 edges": the numbers that it lends, and the bytes that their text has at most.
use Rattle.std.specs.Prelude.{ℕ, ◌*◌}
use Rattle.thread.specs.Sizes.{node_width, edge_width}

abbrev pub room_nodes : ℕ
room_nodes = 400

abbrev pub room_edges : ℕ
room_edges = 900

abbrev pub node_room : ℕ
node_room = node_width * room_nodes

abbrev pub edge_room : ℕ
edge_room = edge_width * room_edges

abbrev pub room_text : ℕ
room_text = 160000
