-- Four generated threads held flat, the step of one by the search in its own table, and what a turn answers and leaves.
use Rattle.std.specs.Prelude as code
use Rattle.std.specs.Prelude.{◌≡◌, Bool, ℕ, ◌*◌, List, [], get_or, take, drop, set, Some, None, is_some}
use Rattle.std.proofs.Math.Option.{Option, none, some}
use Rattle.thread.specs.Sizes.{most_lines}
use Rattle.thread.specs.Numbers.{◌!◌}
use Rattle.graphs.specs.Records.{node}
use Rattle.runs.specs.Run.{In, World}
use Rattle.runs.specs.Machine.{Turned}
use Rattle.generated.specs.declared.Generated.{Generated}
use Rattle.step.specs.declared.Moved.{Moved}
use Rattle.step.specs.Step.{searched}
use Rattle.shown.specs.Ran.{cut, four, world}
use Rattle.flat.specs.declared.Flat.{Flat}

-- the 64 auxiliary values of thread t, of 256
abbrev pub cut_auxiliaries : List ℕ → ℕ → List ℕ
cut_auxiliaries all t = take most_lines (drop (most_lines * t) all)

-- thread t, of nodes N, registers R and auxiliary values A
abbrev pub thread_at : List ℕ → List ℕ → List ℕ → ℕ → Generated
thread_at N R A t = record { node = node (N ! t); registers = cut R t; auxiliaries = cut_auxiliaries A t }

abbrev pub flat : List ℕ → List ℕ → List ℕ → List Generated
flat N R A = four (thread_at N R A)

-- the same as the code holds them
abbrev pub thread_in : Flat → ℕ → Generated
thread_in f t = thread_at f.nodes f.registers f.auxiliaries t

abbrev pub threads_in : Flat → List Generated
threads_in f = flat f.nodes f.registers f.auxiliaries

-- what a step leaves, as the run has it
unfoldable pub taken : code.Option Moved → Option (In Generated)
taken None = none
taken (Some m) = some (record { memory = m.memory; own = m.own })

-- thread t steps by the edge records of its own table
unfoldable pub sought_step : List (List ℕ) → ℕ → ℕ → In Generated → Option (In Generated)
unfolding searched taken
sought_step tables t c s = taken (searched (get_or tables t []) c s.memory s.own)

-- what a turn answers and leaves, of the first `count` of the threads ts; the others stay as they were
pub record TurnedIn (count : ℕ) (o : Option (World Generated)) (M : List ℕ) (ts : List Generated) (r : Bool) (M' : List ℕ) (ts' : List Generated) : Type 0 where
  pub turned : Turned o (world count M ts) r (world count M' ts')
  pub others : drop count ts' ≡ drop count ts

-- memory and the threads ts, once thread t of them has made a step, if there was one
abbrev pub memory_after : code.Option Moved → List ℕ → List ℕ
memory_after None M = M
memory_after (Some m) M = m.memory

abbrev pub threads_after : code.Option Moved → ℕ → List Generated → List Generated
threads_after None t ts = ts
threads_after (Some m) t ts = set ts t m.own

-- what came of thread t of ts: the answer, memory, and the threads after it
pub record Done (m : code.Option Moved) (t : ℕ) (M : List ℕ) (ts : List Generated) (r : Bool) (M' : List ℕ) (ts' : List Generated) : Type 0 where
  pub ok : r ≡ is_some m
  pub memory : M' ≡ memory_after m M
  pub threads : ts' ≡ threads_after m t ts
