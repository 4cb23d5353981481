-- What is made of a lent room, and rooms that are zeroed.
use Rattle.std.specs.Prelude.{Ok, ◌≡◌, Bool, cond, ℕ, List, map, length}
use Rattle.thread.specs.Numbers.{zeros}
use Rattle.graphs.specs.Build.{counted, Result, build}

-- the graph of a present thread; the room of another becomes zero
unfoldable pub made : Bool → ℕ → List ℕ → ℕ → ℕ → Result
unfolding build
made present m t node_room edge_room = cond present (build m t node_room edge_room) (record { answer = Ok (counted 0 0); nodes = zeros node_room; edges = zeros edge_room })

-- "A refusal zeroes every table lent for writing"
pub record Cleared (ns es ns' es' : List (List ℕ)) : Type 0 where
  pub nodes : ns' ≡ map zeros (map length ns)
  pub edges : es' ≡ map zeros (map length es)
