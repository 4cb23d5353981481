-- The run over threads as the code holds them.
use Rattle.std.specs.Prelude.{ℕ, ◌-◌, List, [], ◌∷◌, ◌++◌, length, get_or, replicate}
use Rattle.std.proofs.Math.Option.{Option, map}
use Rattle.thread.specs.declared.Model.{Model}
use Rattle.thread.specs.Sizes.{most_waiting, most_threads}
use Rattle.thread.specs.Numbers.{zeros}
use Rattle.thread.specs.Table.{line, instr_at}
use Rattle.runs.specs.Run.{Ended, In, Stand, end_of}
use Rattle.shown.specs.declared.ThreadState.{ThreadState}
use Rattle.buffer.specs.declared.Moved.{Moved}
use Rattle.buffer.specs.Step.{stepped}
use Rattle.shown.specs.declared.Ran.{Ran}
use Rattle.shown.specs.Ran.{cut, nobody_state}

-- a thread with nothing waiting, at line 0
abbrev pub empty_core : List ℕ → ThreadState
empty_core regs = record { line = line 0; registers = regs; names = zeros most_waiting; values = zeros most_waiting; count = 0 }

-- all four at their start
abbrev pub start_cores : List ℕ → List ThreadState
start_cores all = empty_core (cut all 0) ∷ empty_core (cut all 1) ∷ empty_core (cut all 2) ∷ empty_core (cut all 3) ∷ []

-- what a step in code leaves
abbrev pub after : Moved → In ThreadState
after m = record { memory = m.memory; own = m.core }

-- thread t, with its own table, takes choice c
unfoldable pub core_step : Model → List (List ℕ) → ℕ → ℕ → In ThreadState → Option (In ThreadState)
unfolding stepped instr_at
core_step m tables t c s = map after (stepped m (instr_at (get_or tables t []) s.own.line) c s.memory s.own)

-- a run's end with the threads that are there
abbrev pub ran_of_present : Ended → List ℕ → List ThreadState → Ran
ran_of_present ended memory threads = record { ended = ended; memory = memory; threads = threads }

-- where the run stands at its end
unfoldable pub reached : Stand ThreadState → Ran
unfolding end_of
reached e = ran_of_present (end_of e) e.world.memory e.world.threads

-- with the threads that are not there
abbrev pub with_absent : Ran → Ran
with_absent r = ran_of_present r.ended r.memory (r.threads ++ replicate (most_threads - length r.threads) nobody_state)

unfoldable pub ran_stand : Stand ThreadState → Ran
unfolding reached
ran_stand e = with_absent (reached e)
