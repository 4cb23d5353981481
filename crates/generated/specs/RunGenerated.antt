-- The run of generated threads: its answer, the state it shows and the full contents of the eight lent rooms, for every input.
use Rattle.std.specs.Prelude.{Err, cond, ℕ, ◌*◌, List, [], map, get_or, take, ltb}
use Rattle.std.proofs.Math.Option.{Option, none, some}
use Rattle.lists.specs.Lists.{each, collect}
use Rattle.thread.specs.declared.Line.{Line}
use Rattle.thread.specs.declared.Refusal.{Refusal}
use Rattle.thread.specs.Sizes.{most_lines, most_threads, edge_width}
use Rattle.thread.specs.Numbers.{zeros}
use Rattle.runs.specs.declared.Unfinished.TheVariants as U
use Rattle.runs.specs.Run.{Ended, Stand, items, run, threads_refused, end_of}
use Rattle.runs.specs.Start.{Start, table_of, registers_of, start_world}
use Rattle.runs.specs.Shown.{Waited, ShownThread, Shown, shown_thread, shown_state, zero_state}
use Rattle.graphs.specs.Records.{node, node_at}
use Rattle.graphs.specs.Graph.{Standing}
use Rattle.graphs.specs.Build.{Result, build, refusal, build_answer}
use Rattle.generated.specs.declared.Generated.{Generated}
use Rattle.generated.specs.Machine.{waiting_value, generated_step}

-- how many numbers are lent for the nodes and edges of each thread
pub record Rooms : Type 0 where
  pub nodes : List ℕ
  pub edges : List ℕ

abbrev pub node_room : Rooms → ℕ → ℕ
node_room rooms t = get_or rooms.nodes t 0

abbrev pub edge_room : Rooms → ℕ → ℕ
edge_room rooms t = get_or rooms.edges t 0

-- what the builder makes of thread t in its room
unfoldable pub built_for : Start → Rooms → ℕ → Result
unfolding build
built_for s rooms t = build s.model (table_of s t) (node_room rooms t) (edge_room rooms t)

-- the edge records built: the zeros behind them are no records
unfoldable pub edge_table : Result → List ℕ
unfolding build_answer
edge_table b = take (edge_width * (build_answer b.answer).edges) b.edges

-- "Every store line l owns one auxiliary value, 0 at start"
unfoldable pub start_generated : Start → ℕ → Generated
start_generated s t = record { node = node 0; registers = registers_of s t; auxiliaries = zeros most_lines }

abbrev pub line_shown : List ℕ → Line → Waited
line_shown A l = record { name = l.0; value = waiting_value A l }

-- "a generated thread shows the store lines of its node with their auxiliary values"
unfoldable pub shown_at : Standing → Generated → ShownThread
unfolding shown_thread
shown_at n g = shown_thread n.line g.registers (map (line_shown g.auxiliaries) n.waiting)

unfoldable pub shown_generated : List ℕ → Generated → ShownThread
unfolding shown_at node_at
shown_generated nodes g = shown_at (node_at nodes g.node) g

-- the lent rooms of each thread after the run: "rooms beyond it become zero"
unfoldable pub rooms_after : (ℕ → ℕ) → (ℕ → List ℕ) → ℕ → List (List ℕ)
unfolding collect
rooms_after room table count = collect (λ t. some (cond (ltb t count) (table t) (zeros (room t)))) 0 most_threads

pub record GeneratedResult : Type 0 where
  pub ended : Ended
  pub state : Shown
  pub nodes : List (List ℕ)
  pub edges : List (List ℕ)

unfoldable pub stand_generated : Start → Rooms → Stand Generated
unfolding run items generated_step edge_table built_for start_world start_generated
stand_generated s rooms = run (λ t. generated_step (edge_table (built_for s rooms t))) (items s.schedule) 0 (start_world (start_generated s) s)

unfoldable pub result_generated : Start → Rooms → Stand Generated → GeneratedResult
unfolding end_of shown_state each shown_generated built_for rooms_after
result_generated s rooms e =
    record {
      ended = end_of e;
      state = shown_state e.world.memory (each (λ t. shown_generated (built_for s rooms t).nodes) e.world.threads);
      nodes = rooms_after (node_room rooms) (λ t. (built_for s rooms t).nodes) s.count;
      edges = rooms_after (edge_room rooms) (λ t. (built_for s rooms t).edges) s.count;
    }

-- "14, then .. 2 to 13 for one thread, against that thread's lent room, before it looks at the next", then the steps
unfoldable pub thread_refusal : Start → Rooms → ℕ → Option Refusal
unfolding refusal
thread_refusal s rooms t = refusal s.model (table_of s t) (node_room rooms t) (edge_room rooms t)

unfoldable pub run_generated : Start → Rooms → GeneratedResult
unfolding threads_refused thread_refusal stand_generated result_generated rooms_after
run_generated s rooms =
    elim (threads_refused (thread_refusal s rooms) s.count) [
      | some b ↦ record {
        ended = Err (U.Refused b.thread b.refusal);
        state = zero_state;
        nodes = rooms_after (node_room rooms) (λ t. []) 0;
        edges = rooms_after (edge_room rooms) (λ t. []) 0;
      }
      | none ↦ result_generated s rooms (stand_generated s rooms)
    ]
