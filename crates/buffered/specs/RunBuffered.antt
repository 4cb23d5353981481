-- The run of buffered threads: its answer and the state it shows, for every model, count, tables, start and schedule.
use Rattle.std.proofs.Math.Option.{none, some}
use Rattle.std.specs.Prelude.{Err, ℕ, [], map}
use Rattle.thread.specs.Table.{line, instr_at}
use Rattle.checks.specs.Checks.{admission, model_of}
use Rattle.runs.specs.declared.Unfinished.TheVariants as U
use Rattle.runs.specs.Run.{Ended, Stand, items, run, threads_refused, end_of}
use Rattle.runs.specs.Start.{Start, table_of, registers_of, start_world}
use Rattle.runs.specs.Shown.{Waited, ShownThread, Shown, shown_thread, shown_state, zero_state}
use Rattle.buffered.specs.Machine.{Pair, Buffered, buffered_step}

unfoldable pub start_thread : Start → ℕ → Buffered
start_thread s t = record { line = line 0; registers = registers_of s t; waiting = [] }

abbrev pub pair_shown : Pair → Waited
pair_shown p = record { name = p.var; value = p.val }

unfoldable pub shown_buffered : Buffered → ShownThread
unfolding shown_thread
shown_buffered b = shown_thread b.line b.registers (map pair_shown b.waiting)

pub record BufferedResult : Type 0 where
  pub ended : Ended
  pub state : Shown

unfoldable pub stand_buffered : Start → Stand Buffered
unfolding run items buffered_step start_world start_thread model_of instr_at
stand_buffered s = run (λ t. buffered_step (model_of s.model) (instr_at (table_of s t))) (items s.schedule) 0 (start_world (start_thread s) s)

unfoldable pub result_buffered : Stand Buffered → BufferedResult
unfolding end_of shown_state shown_buffered
result_buffered e = record { ended = end_of e; state = shown_state e.world.memory (map shown_buffered e.world.threads) }

-- "14, then 2 to 10 thread by thread", then the steps
unfoldable pub run_buffered : Start → BufferedResult
unfolding threads_refused admission stand_buffered result_buffered
run_buffered s =
    elim (threads_refused (λ t. admission s.model (table_of s t)) s.count) [
      | some b ↦ record { ended = Err (U.Refused b.thread b.refusal); state = zero_state }
      | none ↦ result_buffered (stand_buffered s)
    ]
