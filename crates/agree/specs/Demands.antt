-- The three demands, as statements about the definitions of the builder and the two runs. Each is proved in proofs/Demands.antt.
use Rattle.std.specs.Prelude.{Ok, Err, ◌≡◌, ◌↔◌, ◌⊎◌, ℕ, ◌*◌, ◌≤◌, ◌<◌, List, [], get_or, take}
use Rattle.std.proofs.Math.Option.{some}
use Rattle.lists.specs.Lists.{Lowest}
use Rattle.thread.specs.declared.Line.{Line}
use Rattle.thread.specs.declared.Refusal.{Refusal}
use Rattle.thread.specs.declared.Refusal.TheVariants as R
use Rattle.thread.specs.Sizes.{most_threads}
use Rattle.thread.specs.Numbers.{◌!◌, zeros}
use Rattle.thread.specs.Table.{Prog, instr_at, lines_of, var_at}
use Rattle.thread.specs.Table.{line as to_line}
use Rattle.checks.specs.Lines.{Cycle}
use Rattle.checks.specs.Checks.{admission, model_of}
use Rattle.checks.specs.Given.{before_loops, conditions, GivenBy, LowestLine}
use Rattle.graphs.specs.Build.{counted, build, build_answer}
use Rattle.graphs.specs.Given.{GivenBuild}
use Rattle.graphs.specs.TheGraph.{TheGraph}
use Rattle.runs.specs.declared.Unfinished.TheVariants as U
use Rattle.runs.specs.Run.{run_answer}
use Rattle.runs.specs.Start.{Start, table_of}
use Rattle.runs.specs.Shown.{ShownThread, nobody, zero_state}
use Rattle.buffered.specs.RunBuffered.{run_buffered}
use Rattle.generated.specs.RunGenerated.{Rooms, node_room, edge_room, built_for, run_generated}

-- 1. "Every table .. and lent room gets an answer. A bad one is refused by number and place, in the paper's order, and each refusal writes what the paper says."

-- the builder: r is answered exactly when it is given, and then both rooms are zero; where none is given a graph is answered
pub record Demand1 (m : ℕ) (t : List ℕ) (nodes edges : ℕ) : Type 0 where
  pub refused : (r : Refusal) → ((build m t nodes edges).answer ≡ Err r) ↔ GivenBuild m t nodes edges r
  pub one : (r q : Refusal) → GivenBuild m t nodes edges r → GivenBuild m t nodes edges q → r ≡ q
  pub zeroed : (r : Refusal) → GivenBuild m t nodes edges r → ((build m t nodes edges).nodes ≡ zeros nodes) × ((build m t nodes edges).edges ≡ zeros edges)
  pub built : ((r : Refusal) → GivenBuild m t nodes edges r → ⊥) → (n : ℕ) × (e : ℕ) × ((build m t nodes edges).answer ≡ Ok (counted n e))

-- thread t is refused with r: 14 names thread 0; else t is the lowest thread of the count for which a refusal is given
abbrev pub GivenRun : (ℕ → Refusal → Type 0) → ℕ → ℕ → Refusal → Type 0
GivenRun given count t r =
    (((count ≡ 0) ⊎ (most_threads < count)) × (t ≡ 0) × (r ≡ R.BadThreads))
    ⊎ ((0 < count) × (count ≤ most_threads) × Lowest (λ k. (q : Refusal) × given k q) count t × given t r)

-- the runs: a thread is refused exactly when that is given, and then all is zero
pub record Demand1Buffered (s : Start) : Type 0 where
  pub refused : (t : ℕ) (r : Refusal) → ((run_buffered s).ended ≡ Err (U.Refused t r)) ↔ GivenRun (λ k. GivenBy (conditions s.model (table_of s k))) s.count t r
  pub zeroed : (t : ℕ) (r : Refusal) → (run_buffered s).ended ≡ Err (U.Refused t r) → (run_buffered s).state ≡ zero_state

pub record Demand1Generated (s : Start) (rooms : Rooms) : Type 0 where
  pub refused : (t : ℕ) (r : Refusal) → ((run_generated s rooms).ended ≡ Err (U.Refused t r)) ↔ GivenRun (λ k. GivenBuild s.model (table_of s k) (node_room rooms k) (edge_room rooms k)) s.count t r
  pub zeroed : (t : ℕ) (r : Refusal) → (run_generated s rooms).ended ≡ Err (U.Refused t r)
      → ((run_generated s rooms).state ≡ zero_state)
      × ((k : ℕ) → k < most_threads → (get_or (run_generated s rooms).nodes k [] ≡ zeros (node_room rooms k)) × (get_or (run_generated s rooms).edges k [] ≡ zeros (edge_room rooms k)))

-- the eight rooms where no thread is refused, at 15 too: the graphs stay, "rooms beyond it become zero"
abbrev pub Demand1Rooms : Start → Rooms → Type 0
Demand1Rooms s rooms = ((t : ℕ) (r : Refusal) → (run_generated s rooms).ended ≡ Err (U.Refused t r) → ⊥) → (k : ℕ) → k < most_threads
    → (k < s.count → (get_or (run_generated s rooms).nodes k [] ≡ (built_for s rooms k).nodes) × (get_or (run_generated s rooms).edges k [] ≡ (built_for s rooms k).edges))
    × (s.count ≤ k → (get_or (run_generated s rooms).nodes k [] ≡ zeros (node_room rooms k)) × (get_or (run_generated s rooms).edges k [] ≡ zeros (edge_room rooms k)))

-- 2. "The table built is THE store buffer graph: every reachable node, every edge, no others, numbered in one way."
abbrev pub Demand2 : ℕ → List ℕ → ℕ → ℕ → Type 0
Demand2 m t nodes edges = (n e : ℕ) → (build m t nodes edges).answer ≡ Ok (counted n e) → TheGraph (model_of m) (instr_at t) n e (build m t nodes edges).nodes (build m t nodes edges).edges

-- no fault of 2 to 9
abbrev pub NoEarlier : ℕ → List ℕ → Type 0
NoEarlier m t = (r : Refusal) → GivenBy (before_loops m t) r → ⊥

-- "In a table with no earlier fault a loop is refused as unfenced exactly when a reachable cycle of lines holds a store but neither fence nor cas", at the lowest such store
abbrev pub Demand2Loops : ℕ → List ℕ → Type 0
Demand2Loops m t = NoEarlier m t → (l : Line) → (admission m t ≡ some (R.UnfencedLoop l)) ↔ LowestLine (Cycle (instr_at t)) (lines_of t) l

-- 3. "For 1 to 4 accepted threads, one model, equal starts, and any list of choices: the buffered run can carry it out exactly if the generated run can,
-- and after each step memory, registers, lines and waiting values in order are equal."

-- the builder accepts each thread in its room
pub record AllAccepted (s : Start) (rooms : Rooms) : Type 0 where
  pub some_threads : 0 < s.count
  pub few_threads : s.count ≤ most_threads
  pub accepted : (t : ℕ) → t < s.count → (build_answer (built_for s rooms t).answer).number ≡ 0

-- what a buffered and a generated thread show: "the line's variable is the pair's, the values are equal, in order"
pub record SameThread (prog : Prog) (b g : ShownThread) : Type 0 where
  pub line : b.line ≡ g.line
  pub registers : b.registers ≡ g.registers
  pub count : b.count ≡ g.count
  pub values : b.values ≡ g.values
  pub variables : (i : ℕ) → i < g.count → b.names ! i ≡ var_at prog (to_line (g.names ! i))

pub record Agree (s : Start) (rooms : Rooms) : Type 0 where
  -- number, place, thread and steps
  pub ended : run_answer (run_buffered s).ended ≡ run_answer (run_generated s rooms).ended
  pub memory : (run_buffered s).state.memory ≡ (run_generated s rooms).state.memory
  pub threads : (t : ℕ) → t < most_threads → SameThread (instr_at (table_of s t)) (get_or (run_buffered s).state.threads t nobody) (get_or (run_generated s rooms).state.threads t nobody)

-- the same start with the first k items of its schedule
abbrev pub up_to : ℕ → Start → Start
up_to k s = record { model = s.model; count = s.count; tables = s.tables; memory = s.memory; registers = s.registers; schedule = take (2 * k) s.schedule }

abbrev pub Demand3 : Start → Rooms → Type 0
Demand3 s rooms = AllAccepted s rooms → Agree s rooms × ((k : ℕ) → Agree (up_to k s) rooms)

-- All of it.
pub record AllDemands : Type 0 where
  pub refusals : (m : ℕ) (t : List ℕ) (nodes edges : ℕ) → Demand1 m t nodes edges
  pub refusals_buffered : (s : Start) → Demand1Buffered s
  pub refusals_generated : (s : Start) (rooms : Rooms) → Demand1Generated s rooms
  pub rooms : (s : Start) (rooms : Rooms) → Demand1Rooms s rooms
  pub graphs : (m : ℕ) (t : List ℕ) (nodes edges : ℕ) → Demand2 m t nodes edges
  pub loops : (m : ℕ) (t : List ℕ) → Demand2Loops m t
  pub runs : (s : Start) (rooms : Rooms) → Demand3 s rooms
