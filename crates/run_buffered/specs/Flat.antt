-- The threads in flat lists: lines and counts by thread, and 16 registers, names and values for each.
use Rattle.std.specs.Prelude.{Bool, ℕ, List, [], ◌∷◌, set}
use Rattle.std.proofs.Math.Option.{map}
use Rattle.thread.specs.declared.Model.{Model}
use Rattle.thread.specs.declared.Instr.{Instr}
use Rattle.thread.specs.Numbers.{◌!◌}
use Rattle.thread.specs.Table.{line}
use Rattle.runs.specs.Run.{World}
use Rattle.runs.specs.Machine.{Turned}
use Rattle.shown.specs.declared.ThreadState.{ThreadState}
use Rattle.shown.specs.Ran.{cut}
use Rattle.chosen.specs.Decide.{thread_of}
use Rattle.buffer.specs.declared.Moved.{Moved}
use Rattle.buffer.specs.Step.{stepped}
use Rattle.run_buffered.specs.declared.Flat.{Flat}

-- thread t
abbrev pub thread_in : Flat → ℕ → ThreadState
thread_in f t = thread_of (line (f.lines ! t)) (f.counts ! t) (cut f.registers t) (cut f.names t) (cut f.values t)

-- all four
abbrev pub threads_in : Flat → List ThreadState
threads_in f = thread_in f 0 ∷ thread_in f 1 ∷ thread_in f 2 ∷ thread_in f 3 ∷ []

-- all four over memory
abbrev pub all_in : Flat → World ThreadState
all_in f = record { memory = f.memory; threads = threads_in f }

-- the same after a step of thread t
abbrev pub after_step : Flat → ℕ → Moved → World ThreadState
after_step f t m = record { memory = m.memory; threads = set (threads_in f) t m.core }

-- a turn in place is the step of thread t, if it has one: what is answered, memory, and the threads, of which all but t are as before
abbrev pub TurnIs : Model → Instr → ℕ → ℕ → Flat → Bool → Flat → Type 0
TurnIs m i t choice f ok f' = Turned (map (after_step f t) (stepped m i choice f.memory (thread_in f t))) (all_in f) ok (all_in f')
