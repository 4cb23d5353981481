-- What the run of generated threads answers, shows and leaves in the eight lent rooms.
use Rattle.std.specs.Prelude.{◌≡◌, ℕ, List, length}
use Rattle.runs.specs.Run.{Stand, end_of}
use Rattle.generated.specs.declared.Generated.{Generated}
use Rattle.generated.specs.RunGenerated.{GeneratedResult}
use Rattle.shown.specs.declared.Ran.{Ran}
use Rattle.shown.specs.Ran.{ran_of}
use Rattle.states.specs.States.{ran_at}

-- the run stands at e, and this is shown of it
pub record Goes (count : ℕ) (nodes : ℕ → List ℕ) (e : Stand Generated) (r : Ran) : Type 0 where
  pub present : length e.world.threads ≡ count
  pub ran : r ≡ ran_at count nodes (end_of e) e.world.memory e.world.threads

-- the promise: answer, state and the contents of all rooms are those of the definition
pub record Runs (g : GeneratedResult) (ns es : List (List ℕ)) (r : Ran) : Type 0 where
  pub ran : r ≡ ran_of g.ended g.state
  pub nodes : ns ≡ g.nodes
  pub edges : es ≡ g.edges
