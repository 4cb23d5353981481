-- "A graph is handed on as a lent table of edge records": the step of a generated thread along a list of edges, and a machine of several threads moved by it.
use Rattle.std.specs.Prelude.{ℕ, List, [], ◌++◌, get_or, drop, Option, Some, None}
use Rattle.std.proofs.Math.Option as maybe
use Rattle.std.proofs.Math.Option.{none, some, map}
use Rattle.std.proofs.Math.ListN.{get_elem?}
use Rattle.runs.specs.Run.{In, World, takes, move}
use Rattle.graphs.specs.declared.Edge.{Edge}
use Rattle.generated.specs.declared.Generated.{Generated}
use Rattle.generated.specs.Machine.{follow, edge_for}
use Rattle.shown.specs.Ran.{world}
use Rattle.held.specs.declared.Machine.{Machine}

-- the step of a thread along a list of edges
unfoldable pub step_along : List Edge → ℕ → In Generated → maybe.Option (In Generated)
unfolding edge_for follow
step_along es c s = map (follow s) (edge_for es s.own.node c s.own.registers)

-- the threads that are there, over their memory
abbrev pub world_of : Machine → World Generated
world_of m = world m.count m.memory m.threads

-- the machine in another world: a thread that isn't there stays as it is
abbrev pub machine_in : World Generated → Machine → Machine
machine_in w m = record { memory = w.memory; threads = w.threads ++ drop m.count m.threads; count = m.count }

-- the machine in that world, if there is one
unfoldable pub next_for : maybe.Option (World Generated) → Machine → Option Machine
next_for none m = None
next_for (some w) m = Some (machine_in w m)

-- thread t takes choice c along a list of edges
unfoldable pub stepped : Machine → List Edge → ℕ → ℕ → Option Machine
unfolding takes step_along next_for
stepped m es t c = next_for (takes (λ _. step_along es) (world_of m) t c) m

-- each thread along its own edges
abbrev pub along_own : List (List Edge) → ℕ → ℕ → In Generated → maybe.Option (In Generated)
along_own edges k = step_along (get_or edges k [])

-- "Each schedule item moves the machine's state by one step": the run's own item
unfoldable pub item_done : Machine → List (List Edge) → ℕ → ℕ → Option Machine
unfolding move step_along next_for
item_done m edges t c = next_for (move (along_own edges) (record { thread = t; choice = some c }) (world_of m)) m

-- `stepped` in two parts: an edge is found for thread t, if it is there; then it goes along it
abbrev pub own_at : Machine → ℕ → maybe.Option Generated
own_at m t = get_elem? (world_of m).threads t

abbrev pub along : In Generated → Option Edge → maybe.Option (In Generated)
along s None = none
along s (Some e) = some (follow s e)

unfoldable pub moved_along : Machine → ℕ → Option Edge → Option Machine
unfolding takes follow next_for
moved_along m t found = next_for (takes (λ _ _ (s : In Generated). along s found) (world_of m) t 0) m
