-- Demand 3 over what the two functions return.
use Rattle.std.specs.Prelude.{◌≡◌, ℕ, ◌<◌, List, [], get_or}
use Rattle.thread.specs.Sizes.{most_threads}
use Rattle.thread.specs.Table.{instr_at}
use Rattle.runs.specs.Run.{run_answer}
use Rattle.runs.specs.Shown.{ShownThread, nobody}
use Rattle.buffered.specs.RunBuffered.{run_buffered}
use Rattle.generated.specs.RunGenerated.{run_generated}
use Rattle.shown.specs.declared.ThreadState.{ThreadState}
use Rattle.shown.specs.declared.Ran.{Ran}
use Rattle.shown.specs.Ran.{start_of, thread_state}
use Rattle.run_buffered.specs.Ran.{buffered_ran}
use Rattle.rooms.specs.Graphs.{rooms_of}
use Rattle.run_generated.specs.Ran.{Runs}
use Rattle.agree.specs.Demands.{AllAccepted, SameThread}

-- what a returned thread shows
abbrev pub of_state : ThreadState → ShownThread
of_state s = record { line = s.line; registers = s.registers; count = s.count; names = s.names; values = s.values }

-- the returned values agree: number, place, thread, steps; memory; and of each thread line, registers, count, values in order, and the store line's variable is the pair's
pub record ReturnedAgree (tables : List (List ℕ)) (b g : Ran) : Type 0 where
  pub ended : run_answer b.ended ≡ run_answer g.ended
  pub memory : b.memory ≡ g.memory
  pub threads : (t : ℕ) → t < most_threads → SameThread (instr_at (get_or tables t [])) (of_state (get_or b.threads t (thread_state nobody))) (of_state (get_or g.threads t (thread_state nobody)))

-- both promises, and that the returned values agree where every thread is accepted
pub record BothRun (model count : ℕ) (tables : List (List ℕ)) (memory registers schedule : List ℕ) (nodes edges nodes' edges' : List (List ℕ)) (b g : Ran) : Type 0 where
  pub buffered : b ≡ buffered_ran (run_buffered (start_of model count tables memory registers schedule))
  pub generated : Runs (run_generated (start_of model count tables memory registers schedule) (rooms_of nodes edges)) nodes' edges' g
  pub agree : AllAccepted (start_of model count tables memory registers schedule) (rooms_of nodes edges) → ReturnedAgree tables b g
