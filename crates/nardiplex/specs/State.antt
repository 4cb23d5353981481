-- The state that a run shows, as 216 numbers.
use Rattle.std.specs.Prelude.{ℕ, List, ◌∷◌, ◌++◌}
use Rattle.graphs.specs.Records.{flat}
use Rattle.shown.specs.declared.ThreadState.{ThreadState}
use Rattle.shown.specs.declared.Ran.{Ran}

-- line, registers, count, names, values
unfoldable pub thread_numbers : ThreadState → List ℕ
thread_numbers s = (s.line.0 ∷ s.registers) ++ (s.count ∷ s.names) ++ s.values

-- memory, then each thread
unfoldable pub state_numbers : Ran → List ℕ
unfolding flat thread_numbers
state_numbers r = r.memory ++ flat thread_numbers r.threads
