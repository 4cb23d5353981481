-- The run over threads as the code holds them is the run of buffered threads, and shows the same.
use Rattle.std.specs.Prelude.{Err}
use mathlib.Core.Path.{◌≡◌, refl, sym, ap, ◌∙◌}
use mathlib.Core.Option
use mathlib.Core.Option.{Option, none, some}
use Prim.Native.Nat.{ℕ, zero, suc, ◌+◌, ◌-◌, ◌<◌}
use native.Mathlib.Nat.{zero-add}
use native.Mathlib.Omega.{arith}
use mathlib.Core.List.{List, [], ◌∷◌, ◌++◌, map, map-map}
use lib.ListN.{length, get_or, replicate, length-map}
use Rattle.lists.specs.Lists.{each}
use Rattle.lists.proofs.Lists.{Holds}
use Rattle.thread.specs.declared.Model.{Model}
use Rattle.thread.specs.declared.Refusal.{Refusal}
use Rattle.thread.specs.Sizes.{most_threads, most_waiting}
use Rattle.thread.specs.Word.{word}
use Rattle.thread.specs.Numbers.{filled}
use Rattle.thread.specs.Table.{Prog, instr_at, lines_of}
use Rattle.checks.specs.Lines.{follows}
use Rattle.checks.specs.Checks.{admission, model_of}
use Rattle.checks.proofs.Loops.{leads-inside}
use Rattle.checks.proofs.Given.{Admitted, admitted}
use Rattle.runs.specs.Run.{In, Stand, items, run, Bad, threads_refused, end_of}
use Rattle.runs.specs.Start.{Start, table_of, registers_of, start_world}
use Rattle.runs.specs.declared.Unfinished.TheVariants as U
use Rattle.runs.specs.Shown.{name_of, value_of, nobody, shown_thread, shown_state, zero_state}
use Rattle.runs.proofs.Worlds.{within, Each, view_world, view_stand, same_runs}
use Rattle.buffered.specs.Machine.{var_of, Buffered, buffered_step, Comes, comes_start, comes_step}
use Rattle.buffered.specs.RunBuffered.{start_thread, pair_shown, shown_buffered, stand_buffered, result_buffered, run_buffered}
use Rattle.agree.proofs.Middle.{shows}
use Rattle.agree.proofs.Limit.{Mirror, mirrored, never-more, never-differs}
use Rattle.agree.proofs.Whole.{all-collect}
use Rattle.agree.proofs.Refusals.{none-bad}
use Rattle.shown.specs.declared.ThreadState.{ThreadState}
use Rattle.buffer.specs.States.{val_of, core_of}
use Rattle.buffer.specs.Step.{stepped}
use Rattle.buffer.proofs.Steps.{moved_of, step_is}
use Rattle.shown.specs.Ran.{start_of, thread_state, nobody_state, world, ran_of}
use Rattle.run_buffered.specs.Ran.{buffered_ran}
use Rattle.run_buffered.specs.Cores.{start_cores, after, core_step, reached, ran_stand}
use Rattle.run_buffered.proofs.Starts.{begin-cores}

-- One thread that is free of 2 to 10: the code's step is the buffered step.
module _ (m : ℕ) (t : List ℕ) (free : admission m t ≡ none) (model : Model) where
  abbrev prog : Prog
  prog = instr_at t

  -- its lines are those of the table
  line-short : {b : Buffered} → Comes model prog b → b.line.0 + 1 < word
  unfolding shows
  line-short {b} r =
      let q : Mirror m t free model b = mirrored m t free model r in
      let ok : Admitted m t = admitted m t free in
      let e : q.state.standing.line.0 ≡ b.line.0 = ap (λ (x : Buffered). x.line.0) q.shown in
      omega (arith, ok.few_lines, leads-inside (follows prog) (lines_of t) ok.stays ok.some_lines q.good.reached)

  after-moved : (o : Option (In Buffered)) → Option.map after (moved_of o) ≡ Option.map (within core_of) o
  unfolding moved_of
  after-moved none = refl
  after-moved (some s) = refl

  same-core : (c : ℕ) (M : List ℕ) (b : Buffered) → Comes model prog b
      → Option.map (within core_of) (buffered_step model prog c (record { memory = M; own = b })) ≡ Option.map after (stepped model (prog b.line) c M (core_of b))
  same-core c M b r =
      sym (after-moved (buffered_step model prog c (record { memory = M; own = b })))
      ∙ ap (λ (o : Option (In Buffered)). Option.map after (moved_of o)) (sym (never-differs m t free model M c r))
      ∙ ap (Option.map after) (sym (step_is model M b (never-more m t free model r) (line-short r) prog c))

-- All threads.
module _ (s : Start) (free : (t : ℕ) → t < s.count → admission s.model (table_of s t) ≡ none) where
  abbrev model : Model
  model = model_of s.model

  abbrev buffers : ℕ → ℕ → In Buffered → Option (In Buffered)
  buffers t = buffered_step model (instr_at (table_of s t))

  -- what stays true of a thread
  abbrev Alive : ℕ → Buffered → Type 0
  Alive t b = (admission s.model (table_of s t) ≡ none) × Comes model (instr_at (table_of s t)) b

  same_step : (t c : ℕ) (x : In Buffered) → Alive t x.own → Option.map (within core_of) (buffers t c x) ≡ core_step model s.tables t c (within core_of x)
  unfolding core_step core_of
  same_step t c x a = same-core s.model (table_of s t) a.0 model c x.memory x.own a.1

  stays-alive : (t c : ℕ) (x : In Buffered) → Alive t x.own → Holds (λ r. Alive t r.own) (buffers t c x)
  stays-alive t c x a = go (buffers t c x) refl
    where
      go : (o : Option (In Buffered)) → buffers t c x ≡ o → Holds (λ r. Alive t r.own) o
      go none e = tt
      go (some r) e = (a.0, comes_step x.memory c r a.1 e)

  starts-alive : Each Alive (start_world (start_thread s) s).threads
  unfolding start_world start_thread
  starts-alive = all-collect Alive (start_thread s) 0 s.count (λ t h. rw zero-add (free t h, comes_start (registers_of s t)))

  -- the runs agree after every item
  pub core-runs : view_stand (λ t b. core_of b) (stand_buffered s) ≡ run (core_step model s.tables) (items s.schedule) 0 (view_world (λ t b. core_of b) (start_world (start_thread s) s))
  unfolding stand_buffered
  core-runs = same_runs (λ t b. core_of b) Alive buffers (core_step model s.tables) same_step stays-alive (items s.schedule) 0 (start_world (start_thread s) s) starts-alive

-- What is shown.
core-shown : (b : Buffered) → thread_state (shown_buffered b) ≡ core_of b
unfolding shown_buffered shown_thread core_of
core-shown b =
    let xs : filled most_waiting (map name_of (map pair_shown b.waiting)) ≡ filled most_waiting (map var_of b.waiting) = ap (filled most_waiting) (map-map name_of pair_shown b.waiting) in
    let vs : filled most_waiting (map value_of (map pair_shown b.waiting)) ≡ filled most_waiting (map val_of b.waiting) = ap (filled most_waiting) (map-map value_of pair_shown b.waiting) in
    let n : length (map pair_shown b.waiting) ≡ length b.waiting = length-map b.waiting pair_shown in
    λ i. record { line = b.line; registers = b.registers; names = xs i; values = vs i; count = n i }

shown-absent : (k : ℕ) → map thread_state (replicate k nobody) ≡ replicate k nobody_state
shown-absent zero = refl
shown-absent (suc k) = ap (λ (l : List ThreadState). nobody_state ∷ l) (shown-absent k)

shown-threads : (ts : List Buffered) (k : ℕ) → each (λ t b. core_of b) ts ++ replicate k nobody_state ≡ map thread_state (map shown_buffered ts ++ replicate k nobody)
unfolding each
shown-threads [] k = sym (shown-absent k)
shown-threads (b ∷ ts) k = rw (core-shown b, shown-threads ts k)

each-length : {T U : Type 0} (f : T → U) (ts : List T) → length (each (λ t. f) ts) ≡ length ts
unfolding each
each-length f [] = refl
each-length f (a ∷ ts) = ap suc (each-length f ts)

pub stand-shown : (e : Stand Buffered) → ran_stand (view_stand (λ t b. core_of b) e) ≡ buffered_ran (result_buffered e)
unfolding ran_stand reached result_buffered shown_state end_of
stand-shown e =
    let ts = e.world.threads in
    let k : most_threads - length (each (λ t. core_of) ts) ≡ most_threads - length (map shown_buffered ts) = rw (each-length core_of ts, length-map) in
    let l = ap (λ (k : ℕ). each (λ t b. core_of b) ts ++ replicate k nobody_state) k ∙ shown-threads ts (most_threads - length (map shown_buffered ts)) in
    λ i. record { ended = end_of e; memory = e.world.memory; threads = l i }

-- The whole run.
module _ (m : ℕ) (tables : List (List ℕ)) (M all sched : List ℕ) (count : ℕ) where
  abbrev start : Start
  start = start_of m count tables M all sched

  abbrev refusals : Option Bad
  refusals = threads_refused (λ t. admission m (get_or tables t [])) count

  -- 14, or 2 to 10
  pub ran-refused : (t : ℕ) (r : Refusal) → refusals ≡ some (record { thread = t; refusal = r }) → ran_of (Err (U.Refused t r)) zero_state ≡ buffered_ran (run_buffered start)
  unfolding run_buffered
  ran-refused t r e = rw (e, run_buffered)

  -- else the steps
  pub ran-steps : refusals ≡ none → ran_stand (run (core_step (model_of m) tables) (items sched) 0 (world count M (start_cores all))) ≡ buffered_ran (run_buffered start)
  unfolding run_buffered start_world
  ran-steps e =
      let p = (none-bad (λ t. admission m (get_or tables t [])) count).0 e in
      ap (λ (ts : List ThreadState). ran_stand (run (core_step (model_of m) tables) (items sched) 0 (record { memory = M; threads = ts }))) (begin-cores all m tables M sched count p.1)
      ∙ ap ran_stand (sym (core-runs start p.2))
      ∙ stand-shown (stand_buffered start)
      ∙ rw (e, run_buffered)
