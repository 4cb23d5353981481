-- Law L7, demand 3: the run of the generated threads, shown, is the run of the buffered threads.
use mathlib.Core.Path.{◌≡◌, refl, ap, ◌∙◌, sym, subst}
use mathlib.Core.Option.{Option, none, some}
use Prim.Native.Nat.{ℕ, zero, suc, ◌+◌, ◌-◌, ◌≤◌, ◌<◌}
use native.Mathlib.Nat.{zero-add, add-zero, add-suc, suc-add}
use native.Mathlib.Omega.{arith}
use mathlib.Core.List.{List, [], ◌∷◌, ◌++◌, map}
use lib.ListN.{length, get_or, replicate, length-replicate}
use Rattle.lists.specs.Lists.{each, listed, collect}
use Rattle.thread.specs.Sizes.{most_threads}
use Rattle.thread.specs.Table.{Prog, instr_at}
use Rattle.checks.specs.Checks.{admission, model_of}
use Rattle.graphs.specs.Graph.{Standing, begin, edges_of}
use Rattle.graphs.specs.Build.{refusal, build, build_answer}
use Rattle.graphs.specs.Records.{node_at}
use Rattle.graphs.proofs.Given.{Accepted, accepted-when}
use Rattle.graphs.proofs.Tables.{number_by, reads}
use Rattle.runs.specs.Run.{In, Stand, items, run, threads_refused, end_of, run_answer}
use Rattle.runs.specs.Start.{Start, table_of, start_world}
use Rattle.runs.specs.Shown.{ShownThread, nobody, shown_state}
use Rattle.runs.proofs.Worlds.{Each, view_world, view_stand, same_runs, run-keeps}
use Rattle.buffered.specs.Machine.{Buffered, buffered_step}
use Rattle.buffered.specs.RunBuffered.{start_thread, shown_buffered, stand_buffered, result_buffered, run_buffered}
use Rattle.generated.specs.declared.Generated.{Generated}
use Rattle.generated.specs.Machine.{generated_step}
use Rattle.generated.specs.RunGenerated.{Rooms, node_room, edge_room, built_for, edge_table, start_generated, shown_at, shown_generated, stand_generated, result_generated, thread_refusal, run_generated}
use Rattle.agree.specs.Demands.{SameThread, Agree, up_to, Demand3}
use Rattle.agree.proofs.Middle.{shows}
use Rattle.agree.proofs.Numbers.{named}
use Rattle.agree.proofs.Threads.{nodes_of, view_by, view, Alive, nodes-are, same-thread, stays-alive}
use Rattle.thread.proofs.Filled.{padded}
use Rattle.agree.proofs.Shown.{same-shown, same-each}
use Rattle.agree.proofs.Refusals.{none-bad}

-- an answer with number 0 is no refusal
pub number-none : (m : ℕ) (t : List ℕ) (nodes edges : ℕ) → (build_answer (build m t nodes edges).answer).number ≡ 0 → refusal m t nodes edges ≡ none
unfolding build
number-none m t = number_by (edges_of (model_of m) (instr_at t)) m t

-- Lists of the present threads.
pub each-collect : {T U : Type 0} (f : ℕ → T → U) (a : ℕ → T) (b : ℕ → U) (k n : ℕ) → ((i : ℕ) → i < n → f i (a (k + i)) ≡ b (k + i))
    → each f (collect (λ t. some (a t)) k n) ≡ collect (λ t. some (b t)) k n
unfolding each collect listed
each-collect f a b k zero h = refl
each-collect f a b k (suc n) h =
    let e : f 0 (a k) ≡ b k = rw add-zero at (h 0 (omega arith)) in
    rw (e, each-collect (λ i. f (suc i)) a b (suc k) n (λ i lt. rw (suc-add, ← add-suc) (h (suc i) (omega arith))))

pub all-collect : {T : Type 0} (G : ℕ → T → Type 0) (a : ℕ → T) (k n : ℕ) → ((i : ℕ) → i < n → G i (a (k + i))) → Each G (collect (λ t. some (a t)) k n)
unfolding collect listed
all-collect G a k zero h = tt
all-collect G a k (suc n) h = (rw add-zero at (h 0 (omega arith)), all-collect (λ i. G (suc i)) a (suc k) n (λ i lt. rw (suc-add, ← add-suc) (h (suc i) (omega arith))))

map_each : {T U W : Type 0} (g : U → W) (f : ℕ → T → U) (ts : List T) → map g (each f ts) ≡ each (λ t a. g (f t a)) ts
unfolding each
map_each g f [] = refl
map_each g f (a ∷ ts) = rw (map_each g (λ k. f (suc k)) ts)

-- a node that is read is the one that the number names
same-standing : (prog : Prog) (ns : List Standing) (N : List ℕ) (a : Generated) → node_at N a.node ≡ get_or ns a.node.0 begin → SameThread prog (shown_buffered (view_by prog ns a)) (shown_generated N a)
unfolding shown_buffered view_by shows named shown_generated shown_at
same-standing prog ns N a p =
    let n : Standing = get_or ns a.node.0 begin in
    subst (λ (k : Standing). SameThread prog (shown_buffered (view_by prog ns a)) (shown_at k a)) (sym p) (same-shown prog a.auxiliaries a.registers n.line n.waiting)

module _ (s : Start) (rooms : Rooms) (free : (t : ℕ) → t < s.count → thread_refusal s rooms t ≡ none) where
  abbrev view_of : ℕ → Generated → Buffered
  view_of t = view s.model (table_of s t) (node_room rooms t) (edge_room rooms t)

  abbrev AliveAt : ℕ → Generated → Type 0
  AliveAt t = Alive s.model (table_of s t) (node_room rooms t) (edge_room rooms t)

  module _ (t : ℕ) (h : t < s.count) where
    refusal-none : refusal s.model (table_of s t) (node_room rooms t) (edge_room rooms t) ≡ none
    unfolding thread_refusal
    refusal-none = free t h

    acc : Accepted s.model (table_of s t) (node_room rooms t) (edge_room rooms t)
    acc = accepted-when s.model (table_of s t) (node_room rooms t) (edge_room rooms t) refusal-none

    nodes-first : (rest : List Standing) × (nodes_of s.model (table_of s t) (node_room rooms t) (edge_room rooms t) ≡ begin ∷ rest)
    nodes-first = (acc.right.rest, nodes-are s.model (table_of s t) (node_room rooms t) (edge_room rooms t) acc ∙ acc.right.first)

    start-shown : view_of t (start_generated s t) ≡ start_thread s t
    unfolding view_by named shows start_generated start_thread
    start-shown = rw nodes-first.1

    start-alive : AliveAt t (start_generated s t)
    unfolding start_generated
    start-alive = record { free = refusal-none; known = rw nodes-first.1 (omega arith); room = rw length-replicate (omega arith) }

  -- at their start the threads show the buffered start, and they are alive
  starts-shown : view_world view_of (start_world (start_generated s) s) ≡ start_world (start_thread s) s
  unfolding start_world
  starts-shown = rw (each-collect view_of (start_generated s) (start_thread s) 0 s.count (λ t h. rw zero-add (start-shown t h)))

  starts-alive : Each AliveAt (start_world (start_generated s) s).threads
  unfolding start_world
  starts-alive = all-collect AliveAt (start_generated s) 0 s.count (λ t h. rw zero-add (start-alive t h))

  abbrev steps : ℕ → ℕ → In Generated → Option (In Generated)
  steps t = generated_step (edge_table (built_for s rooms t))

  abbrev buffered_steps : ℕ → ℕ → In Buffered → Option (In Buffered)
  buffered_steps t = buffered_step (model_of s.model) (instr_at (table_of s t))

  pub stands_same : view_stand view_of (stand_generated s rooms) ≡ stand_buffered s
  unfolding stand_generated stand_buffered built_for
  stands_same =
      same_runs view_of AliveAt steps buffered_steps
      (λ t c r g. same-thread s.model (table_of s t) (node_room rooms t) (edge_room rooms t) r g c)
      (λ t c r g. stays-alive s.model (table_of s t) (node_room rooms t) (edge_room rooms t) r g c)
      (items s.schedule) 0 (start_world (start_generated s) s) starts-alive
      ∙ ap (run buffered_steps (items s.schedule) 0) starts-shown

  pub end-alive : Each AliveAt (stand_generated s rooms).world.threads
  unfolding stand_generated built_for
  end-alive =
      run-keeps view_of AliveAt steps buffered_steps
      (λ t c r g. same-thread s.model (table_of s t) (node_room rooms t) (edge_room rooms t) r g c)
      (λ t c r g. stays-alive s.model (table_of s t) (node_room rooms t) (edge_room rooms t) r g c)
      (items s.schedule) 0 (start_world (start_generated s) s) starts-alive

  -- a thread that is alive shows the same on both sides
  same-one : (t : ℕ) (a : Generated) → AliveAt t a → SameThread (instr_at (table_of s t)) (shown_buffered (view_of t a)) (shown_generated (built_for s rooms t).nodes a)
  unfolding built_for
  same-one t a g =
      let m : ℕ = s.model in
      let tab : List ℕ = table_of s t in
      let nr : ℕ = node_room rooms t in
      let er : ℕ = edge_room rooms t in
      let ac : Accepted m tab nr er = accepted-when m tab nr er g.free in
      let ns : nodes_of m tab nr er ≡ ac.graph.nodes = nodes-are m tab nr er ac in
      let lt : a.node.0 < length ac.graph.nodes = subst (λ (l : List Standing). a.node.0 < length l) ns g.known in
      let n : Standing = get_or ac.graph.nodes a.node.0 begin in
      let p : node_at (build m tab nr er).nodes a.node ≡ n = (reads m tab nr er ac g.free).nodes a.node.0 lt in
      same-standing (instr_at tab) (nodes_of m tab nr er) (build m tab nr er).nodes a (p ∙ ap (λ (l : List Standing). get_or l a.node.0 begin) (sym ns))

  -- the two results, where no thread is refused
  pub buffered-result : threads_refused (λ t. admission s.model (table_of s t)) s.count ≡ none → run_buffered s ≡ result_buffered (stand_buffered s)
  unfolding run_buffered
  buffered-result e = rw (e, run_buffered)

  pub generated-result : threads_refused (thread_refusal s rooms) s.count ≡ none → run_generated s rooms ≡ result_generated s rooms (stand_generated s rooms)
  unfolding run_generated
  generated-result e = rw (e, run_generated)

  -- they show the same
  shown-threads : (t : ℕ) → SameThread (instr_at (table_of s t)) (get_or (result_buffered (stand_buffered s)).state.threads t nobody) (get_or (result_generated s rooms (stand_generated s rooms)).state.threads t nobody)
  unfolding result_buffered result_generated shown_state
  shown-threads t =
      let ts : List Generated = (stand_generated s rooms).world.threads in
      let b : ℕ → Generated → ShownThread = λ t a. shown_buffered (view_of t a) in
      let g : ℕ → Generated → ShownThread = λ t. shown_generated (built_for s rooms t).nodes in
      let e : map shown_buffered (stand_buffered s).world.threads ≡ each b ts = ap (λ (r : Stand Buffered). map shown_buffered r.world.threads) (sym stands_same) ∙ map_each shown_buffered view_of ts in
      let p : get_or (map shown_buffered (stand_buffered s).world.threads ++ replicate (most_threads - length (map shown_buffered (stand_buffered s).world.threads)) nobody) t nobody ≡ get_or (each b ts) t nobody =
      padded (map shown_buffered (stand_buffered s).world.threads) (most_threads - length (map shown_buffered (stand_buffered s).world.threads)) t nobody ∙ ap (λ (l : List ShownThread). get_or l t nobody) e in
      let q : get_or (each g ts ++ replicate (most_threads - length (each g ts)) nobody) t nobody ≡ get_or (each g ts) t nobody = padded (each g ts) (most_threads - length (each g ts)) t nobody in
      subst (λ (x : ShownThread). SameThread (instr_at (table_of s t)) x (get_or (each g ts ++ replicate (most_threads - length (each g ts)) nobody) t nobody)) (sym p)
      (subst (λ (x : ShownThread). SameThread (instr_at (table_of s t)) (get_or (each b ts) t nobody) x) (sym q) (same-each (λ k. instr_at (table_of s k)) AliveAt b g same-one ts end-alive t))

  same_end : end_of (stand_buffered s) ≡ end_of (stand_generated s rooms)
  unfolding end_of
  same_end = ap (λ (r : Stand Buffered). end_of r) (sym stands_same)

  pub agree : 0 < s.count → s.count ≤ most_threads → Agree s rooms
  unfolding result_buffered result_generated shown_state
  agree lo hi =
      let g = generated-result ((none-bad (thread_refusal s rooms) s.count).1 (lo, hi, free)) in
      let b = buffered-result ((none-bad (λ t. admission s.model (table_of s t)) s.count).1 (lo, hi, λ t h. (acc t h).free)) in
      record {
        ended = rw (b, g) (ap run_answer same_end);
        memory = rw (b, g) (ap (λ (r : Stand Buffered). r.world.memory) (sym stands_same));
        threads = λ t h. rw (b, g) (shown-threads t);
      }

-- Demand 3, for the whole schedule and for each of its beginnings.
pub demand3 : (s : Start) (rooms : Rooms) → Demand3 s rooms
unfolding built_for thread_refusal
demand3 s rooms a = (
  agree s rooms free a.some_threads a.few_threads,
  λ k. agree (up_to k s) rooms free a.some_threads a.few_threads,
)
  where
    free : (t : ℕ) → t < s.count → refusal s.model (table_of s t) (node_room rooms t) (edge_room rooms t) ≡ none
    free t h = number-none s.model (table_of s t) (node_room rooms t) (edge_room rooms t) (a.accepted t h)
