-- What the C interface passes back: each answer as four numbers, beside the contents of the lent areas.
use Rattle.std.specs.Prelude.{◌≡◌, ℕ, List, [], ◌∷◌}
use Rattle.text.specs.Read.{Reading, ReadAnswer, read_answer, read}
use Rattle.graphs.specs.Build.{Answer, BuildAnswer, build_answer, build}
use Rattle.runs.specs.Run.{Ended, RunAnswer, run_answer}
use Rattle.generated.specs.RunGenerated.{GeneratedResult}
use Rattle.shown.specs.declared.Ran.{Ran}
use Rattle.shown.specs.Ran.{ran_of}
use Rattle.nardiplex.specs.State.{state_numbers}

-- number, place, model, lines
unfoldable pub read_numbers : Reading → List ℕ
unfolding read_answer
read_numbers r = let a : ReadAnswer = read_answer r in a.number ∷ a.place ∷ a.model ∷ a.lines ∷ []

pub record ReadPassed (text : List ℕ) (room : ℕ) (table answer : List ℕ) : Type 0 where
  pub left : table ≡ (read room text).table
  pub answered : answer ≡ read_numbers (read room text).answer

-- number, place, nodes, edges
unfoldable pub build_numbers : Answer → List ℕ
unfolding build_answer
build_numbers r = let a : BuildAnswer = build_answer r in a.number ∷ a.place ∷ a.nodes ∷ a.edges ∷ []

pub record BuildPassed (m : ℕ) (t : List ℕ) (node_room edge_room : ℕ) (nodes edges answer : List ℕ) : Type 0 where
  pub node_table : nodes ≡ (build m t node_room edge_room).nodes
  pub edge_table : edges ≡ (build m t node_room edge_room).edges
  pub answered : answer ≡ build_numbers (build m t node_room edge_room).answer

-- number, place, thread, steps
unfoldable pub run_numbers : Ended → List ℕ
unfolding run_answer
run_numbers r = let a : RunAnswer = run_answer r in a.number ∷ a.place ∷ a.thread ∷ a.steps ∷ []

-- what both runs pass back
pub record RunPassed (r : Ran) (state answer : List ℕ) : Type 0 where
  pub shown : state ≡ state_numbers r
  pub answered : answer ≡ run_numbers r.ended

-- the rooms of each thread, n0 to n3 and e0 to e3, and what the run passes back
pub record GeneratedPassed (g : GeneratedResult) (nodes edges : List (List ℕ)) (state answer : List ℕ) : Type 0 where
  pub node_tables : nodes ≡ g.nodes
  pub edge_tables : edges ≡ g.edges
  pub passed : RunPassed (ran_of g.ended g.state) state answer
