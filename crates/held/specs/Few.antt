-- A flat table's records as edges: the first eight, with an edge that serves no choice where there is none.
use Rattle.std.specs.Prelude.{cond, ℕ, List, [], ◌∷◌, ltb, unwrap_or}
use Rattle.std.proofs.Math.Option.{Option, none}
use Rattle.lists.specs.Options.{option_of}
use Rattle.thread.specs.declared.Op.TheVariants as O
use Rattle.thread.specs.Sizes.{edge_width}
use Rattle.thread.specs.Table.{line}
use Rattle.graphs.specs.declared.Edge.{Edge}
use Rattle.graphs.specs.Records.{node, edge_at, records_in}

-- record k of a table, if it has one and it is an edge
unfoldable pub edge_of : List ℕ → ℕ → Option Edge
unfolding edge_at
edge_of t k = cond (ltb k (records_in edge_width t)) (edge_at t k) none

-- an edge that serves no choice: its own is 2^32, past every 32-bit number
abbrev pub idle : Edge
idle = record { from = node 0; to = node 0; op = O.Put 4294967295 (line 0) }

unfoldable pub placed : List ℕ → ℕ → Edge
unfolding edge_of option_of
placed t k = unwrap_or (option_of (edge_of t k)) idle

unfoldable pub few : List ℕ → List Edge
unfolding placed
few t = placed t 0 ∷ placed t 1 ∷ placed t 2 ∷ placed t 3 ∷ placed t 4 ∷ placed t 5 ∷ placed t 6 ∷ placed t 7 ∷ []
