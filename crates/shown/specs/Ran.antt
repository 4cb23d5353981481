-- What a run is given and gives back, as the code holds it.
use Rattle.std.specs.Prelude.{ℕ, ◌*◌, List, [], ◌∷◌, map, take, drop}
use Rattle.thread.specs.Sizes.{registers}
use Rattle.thread.specs.Numbers.{filled}
use Rattle.runs.specs.Run.{Ended, World}
use Rattle.runs.specs.Start.{Start}
use Rattle.runs.specs.Shown.{ShownThread, Shown, nobody}
use Rattle.shown.specs.declared.ThreadState.{ThreadState}
use Rattle.shown.specs.declared.Ran.{Ran}

-- one of each of four
abbrev pub four : {A : Type 0} → (ℕ → A) → List A
four f = f 0 ∷ f 1 ∷ f 2 ∷ f 3 ∷ []

-- the 16 registers of thread t, of 64
abbrev pub cut : List ℕ → ℕ → List ℕ
cut all t = take registers (drop (registers * t) all)

-- the same of any list; 0 past its end
unfoldable pub part_of : List ℕ → ℕ → List ℕ
unfolding filled
part_of all t = filled registers (cut all t)

-- what a run is given: four tables, of which the first `count` are read, and 16 registers a thread
abbrev pub start_of : ℕ → ℕ → List (List ℕ) → List ℕ → List ℕ → List ℕ → Start
start_of model count tables memory all schedule =
    record {
      model = model;
      count = count;
      tables = tables;
      memory = memory;
      registers = cut all 0 ∷ cut all 1 ∷ cut all 2 ∷ cut all 3 ∷ [];
      schedule = schedule;
    }

-- the present threads over memory
abbrev pub world : {T : Type 0} → ℕ → List ℕ → List T → World T
world count memory threads = record { memory = memory; threads = take count threads }

-- a shown thread, as the code holds it
abbrev pub thread_state : ShownThread → ThreadState
thread_state s = record { line = s.line; registers = s.registers; names = s.names; values = s.values; count = s.count }

-- a thread that is not there
abbrev pub nobody_state : ThreadState
nobody_state = thread_state nobody

abbrev pub ran_of : Ended → Shown → Ran
ran_of ended s = record { ended = ended; memory = s.memory; threads = map thread_state s.threads }
