-- The graphs of four threads in their lent rooms, what is made of those beyond the count, and what a refusal leaves.
use Rattle.std.specs.Prelude as code
use Rattle.std.specs.Prelude.{Ok, Err, ◌≡◌, ℕ, ◌*◌, List, [], ◌∷◌, map, length, get_or, take, ltb}
use Rattle.std.proofs.Math.Option.{Option, none, some}
use Rattle.thread.specs.declared.Refusal.{Refusal}
use Rattle.thread.specs.Sizes.{most_threads, edge_width}
use Rattle.thread.specs.Numbers.{zeros}
use Rattle.runs.specs.Run.{Bad, first_bad, threads_refused}
use Rattle.graphs.specs.Build.{Answer, Result, refusal, build_answer}
use Rattle.generated.specs.RunGenerated.{Rooms, node_room, edge_room}
use Rattle.shown.specs.Ran.{four}
use Rattle.room.specs.Room.{made}

-- how much is lent
abbrev pub rooms_of : List (List ℕ) → List (List ℕ) → Rooms
rooms_of nodes edges = record { nodes = map length nodes; edges = map length edges }

abbrev pub made_for : ℕ → ℕ → List (List ℕ) → Rooms → ℕ → Result
made_for m count tables rooms t = made (ltb t count) m (get_or tables t []) (node_room rooms t) (edge_room rooms t)

unfoldable pub refused_by : Answer → Option Refusal
refused_by (Ok b) = none
refused_by (Err r) = some r

abbrev pub edge_count : Result → ℕ
edge_count b = (build_answer b.answer).edges

-- the edges of thread t's graph, or t and why it is refused
abbrev pub edges_or : ℕ → Answer → code.Result ℕ (ℕ × Refusal)
edges_or t (Ok b) = Ok b.edges
edges_or t (Err r) = Err (t, r)

-- the first of four that is refused
abbrev pub first_refused : (ℕ → Result) → Option Bad
first_refused b = first_bad (λ t. refused_by (b t).answer) 0 most_threads

-- 14, then 2 to 13 thread by thread
abbrev pub refused_in : ℕ → ℕ → List (List ℕ) → Rooms → Option Bad
refused_in m count tables rooms = threads_refused (λ t. refusal m (get_or tables t []) (node_room rooms t) (edge_room rooms t)) count

-- the promise: which thread is refused and why, and all rooms zero
pub record Refuses (m count : ℕ) (tables : List (List ℕ)) (rooms : Rooms) (ns es : List (List ℕ)) (t : ℕ) (r : Refusal) : Type 0 where
  pub refused : refused_in m count tables rooms ≡ some (record { thread = t; refusal = r })
  pub nodes : ns ≡ map zeros rooms.nodes
  pub edges : es ≡ map zeros rooms.edges

-- or no thread is refused, and the rooms hold the graphs, of so many edges
pub record Fills (m count : ℕ) (tables : List (List ℕ)) (rooms : Rooms) (ns es : List (List ℕ)) (counts' : List ℕ) : Type 0 where
  pub fine : refused_in m count tables rooms ≡ none
  pub nodes : ns ≡ four (λ t. (made_for m count tables rooms t).nodes)
  pub edges : es ≡ four (λ t. (made_for m count tables rooms t).edges)
  pub counts : counts' ≡ four (λ t. edge_count (made_for m count tables rooms t))

-- what came of the graphs: how many edges each has, or the first thread that was refused
abbrev pub Making : Type 0
Making = code.Result (List ℕ) (ℕ × Refusal)

-- what is built up to the first refusal; all rooms are zeroed after one
abbrev pub MakesFour : ℕ → ℕ → List (List ℕ) → Rooms → List (List ℕ) → List (List ℕ) → Making → Type 0
MakesFour m count tables rooms ns es (Err b) = refused_in m count tables rooms ≡ some (record { thread = b.0; refusal = b.1 })
MakesFour m count tables rooms ns es (Ok counts) = Fills m count tables rooms ns es counts

abbrev pub Makes : ℕ → ℕ → List (List ℕ) → Rooms → List (List ℕ) → List (List ℕ) → Making → Type 0
Makes m count tables rooms ns es (Err b) = Refuses m count tables rooms ns es b.0 b.1
Makes m count tables rooms ns es (Ok counts) = Fills m count tables rooms ns es counts

-- the first so many edge records of a table
abbrev pub first_edges : ℕ → List ℕ → List ℕ
first_edges count edges = take (edge_width * count) edges
