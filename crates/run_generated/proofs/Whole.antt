-- The whole run: what is answered, shown and left in the rooms is what the definition says.
use Rattle.std.specs.Prelude.{Err}
use mathlib.Core.Path.{◌≡◌, refl, sym, ap, subst, ◌∙◌}
use mathlib.Core.Bool.{Bool, true, false, cond}
use mathlib.Core.Option
use mathlib.Core.Option.{Option, none, some}
use Prim.Native.Nat.{ℕ, zero, suc, ◌*◌, ◌≤◌, ◌<◌}
use native.Mathlib.Omega.{arith}
use mathlib.Core.List.{List, [], ◌∷◌, map}
use lib.ListN.{length, get_or, take}
use lib.Seq.{length-take-le}
use lib.Dec.{ltb}
use Rattle.lists.specs.Lists.{each, listed, collect}
use Rattle.lists.proofs.Lists.{Holds, not_some}
use Rattle.lists.proofs.Tests.{lt-true}
use Rattle.thread.specs.declared.Refusal.{Refusal}
use Rattle.thread.specs.declared.Refusal.TheVariants as R
use Rattle.thread.specs.Numbers.{zeros}
use Rattle.runs.specs.Run.{In, World, Stand, Item, Bad, items, run, bad_threads, threads_refused, end_of}
use Rattle.runs.specs.Start.{Start, start_world}
use Rattle.runs.specs.declared.Unfinished.TheVariants as U
use Rattle.runs.specs.Shown.{shown_state, zero_state}
use Rattle.runs.proofs.Worlds.{within, Each, view_stand, view_world, same_runs}
use Rattle.graphs.specs.Build.{Result, build}
use Rattle.edges.specs.Sought.{Sorted}
use Rattle.edges.proofs.Order.{sorted-built}
use Rattle.generated.specs.declared.Generated.{Generated}
use Rattle.generated.specs.Machine.{generated_step}
use Rattle.generated.specs.RunGenerated.{Rooms, node_room, edge_room, built_for, edge_table, start_generated, shown_generated, rooms_after, GeneratedResult, stand_generated, result_generated, thread_refusal, run_generated}
use Rattle.step.specs.Step.{moved_of, searched}
use Rattle.step.proofs.Laws.{steps-sought}
use Rattle.agree.proofs.Refusals.{none-bad}
use Rattle.agree.proofs.Threads.{Alive}
use Rattle.agree.proofs.Whole.{generated-result, end-alive}
use Rattle.shown.specs.declared.ThreadState.{ThreadState}
use Rattle.shown.specs.declared.Ran.{Ran}
use Rattle.shown.specs.Ran.{four, start_of, thread_state, ran_of, world}
use Rattle.room.specs.Room.{made}
use Rattle.rooms.specs.Graphs.{rooms_of, made_for, edge_count, refused_in, Refuses, Fills, first_edges}
use Rattle.rooms.proofs.Rooms.{few_threads, made-within, made-nodes, made-edges}
use Rattle.flat.specs.Flat.{taken, sought_step}
use Rattle.run_generated.specs.Threads.{start_four}
use Rattle.states.specs.States.{state_at, four_states}
use Rattle.states.proofs.States.{state-is, alive-readable, four-shown}
use Rattle.run_generated.specs.Ran.{Goes, Runs}

-- The search leads to the step.
module _ (table : List ℕ) (sorted : Sorted table) where
  same-search : (c : ℕ) (s : In Generated) → taken (searched table c s.memory s.own) ≡ generated_step table c s
  unfolding searched taken moved_of
  same-search c s = ap taken (steps-sought table c s.memory s.own sorted) ∙ go (generated_step table c s)
    where
      go : (o : Option (In Generated)) → taken (moved_of o) ≡ o
      go none = refl
      go (some x) = refl

same-each : {T : Type 0} (ts : List T) → each (λ t a. a) ts ≡ ts
unfolding each
same-each [] = refl
same-each (a ∷ ts) = ap (λ (l : List _). a ∷ l) (same-each ts)

same-within : {T : Type 0} (o : Option (In T)) → Option.map (within (λ a. a)) o ≡ o
same-within none = refl
same-within (some s) = refl

all-below : {T : Type 0} (P : ℕ → Type 0) (ts : List T) → ((t : ℕ) → t < length ts → P t) → Each (λ t a. P t) ts
all-below P [] h = tt
all-below P (a ∷ ts) h = (h 0 (omega arith), all-below (λ k. P (suc k)) ts (λ t l. h (suc t) (omega arith)))

both-each : {T : Type 0} (P Q : ℕ → T → Type 0) (ts : List T) → Each P ts → Each Q ts → Each (λ t a. P t a × Q t a) ts
both-each P Q [] p q = tt
both-each P Q (a ∷ ts) p q = ((p.0, q.0), both-each (λ k. P (suc k)) (λ k. Q (suc k)) ts p.1 q.1)

still : {T : Type 0} (P : Type 0) (o : Option (In T)) → P → Holds (λ r. P) o
still P none p = tt
still P (some s) p = p

-- steps that are the same for each present thread make the same run
module _ {T : Type 0} (count : ℕ) (f g : ℕ → ℕ → In T → Option (In T)) (same : (t c : ℕ) (s : In T) → t < count → f t c s ≡ g t c s) where
  same-stand : (e : Stand T) → view_stand (λ t a. a) e ≡ e
  same-stand e = λ i. record { world = record { memory = e.world.memory; threads = same-each e.world.threads i }; steps = e.steps; stopped = e.stopped }

  same-world : (w : World T) → view_world (λ t a. a) w ≡ w
  same-world w = λ i. record { memory = w.memory; threads = same-each w.threads i }

  run-same : (ks : List Item) (n : ℕ) (w : World T) → length w.threads ≤ count → run f ks n w ≡ run g ks n w
  run-same ks n w h =
      sym (same-stand (run f ks n w))
      ∙ same_runs (λ t a. a) (λ t a. t < count) f g (λ t c s l. same-within (f t c s) ∙ same t c s l) (λ t c s l. still (t < count) (f t c s) l) ks n w
      (all-below (λ t. t < count) w.threads (λ t l. omega arith))
      ∙ ap (run g ks n) (same-world w)

-- the present threads at their start
starts : (m : ℕ) (tables : List (List ℕ)) (M all sched : List ℕ) (count : ℕ) → count ≤ 4
    → take count (start_four all) ≡ collect (λ t. some (start_generated (start_of m count tables M all sched) t)) 0 count
unfolding collect listed start_generated
starts m tables M all sched zero h = refl
starts m tables M all sched (suc zero) h = refl
starts m tables M all sched (suc (suc zero)) h = refl
starts m tables M all sched (suc (suc (suc zero))) h = refl
starts m tables M all sched (suc (suc (suc (suc zero)))) h = refl
starts m tables M all sched (suc (suc (suc (suc (suc n))))) h = absurd (omega arith)

at-four : {A : Type 0} (f : ℕ → A) (d : A) (t : ℕ) → t < 4 → get_or (four f) t d ≡ f t
at-four f d zero h = refl
at-four f d (suc zero) h = refl
at-four f d (suc (suc zero)) h = refl
at-four f d (suc (suc (suc zero))) h = refl
at-four f d (suc (suc (suc (suc t)))) h = absurd (omega arith)

-- The whole run, of four tables and eight rooms.
module _ (m count : ℕ) (tables : List (List ℕ)) (n0 n1 n2 n3 e0 e1 e2 e3 M all sched : List ℕ) where
  abbrev start : Start
  start = start_of m count tables M all sched

  abbrev rooms : Rooms
  rooms = rooms_of (n0 ∷ n1 ∷ n2 ∷ n3 ∷ []) (e0 ∷ e1 ∷ e2 ∷ e3 ∷ [])

  abbrev b : ℕ → Result
  b = made_for m count tables rooms

  abbrev result : GeneratedResult
  result = run_generated start rooms

  refused-is : refused_in m count tables rooms ≡ threads_refused (thread_refusal start rooms) count
  unfolding thread_refusal
  refused-is = refl

  -- a refusal
  pub ran-refused : (t : ℕ) (r : Refusal) (ns' es' : List (List ℕ)) → Refuses m count tables rooms ns' es' t r → (x : Ran) → x ≡ ran_of (Err (U.Refused t r)) zero_state → Runs result ns' es' x
  unfolding run_generated rooms_after collect listed
  ran-refused t r ns' es' h x e =
      let f : threads_refused (thread_refusal start rooms) count ≡ some (record { thread = t; refusal = r }) = sym refused-is ∙ h.refused in
      rw (f, run_generated) (record { ran = e; nodes = h.nodes; edges = h.edges })

  -- no refusal
  module _ (ns' es' : List (List ℕ)) (cs : List ℕ) (g : Fills m count tables rooms ns' es' cs) where
    none-refused : threads_refused (thread_refusal start rooms) count ≡ none
    none-refused = sym refused-is ∙ g.fine

    pub few : count ≤ 4
    unfolding threads_refused
    few = few_threads count (go (bad_threads count) refl)
      where
        go : (b : Bool) → bad_threads count ≡ b → bad_threads count ≡ false
        go true e = let z : ◌≡◌ {A = Option Bad} none (some (record { thread = 0; refusal = R.BadThreads })) = sym none-refused ∙ rw (e, threads_refused) in absurd (not_some z)
        go false e = e

    free : (t : ℕ) → t < count → thread_refusal start rooms t ≡ none
    free = ((none-bad (thread_refusal start rooms) count).0 none-refused).2

    is-built : (t : ℕ) → t < count → b t ≡ built_for start rooms t
    unfolding made built_for
    is-built t h = rw (lt-true t count h)

    is_sorted : (t : ℕ) → t < count → Sorted (edge_table (built_for start rooms t))
    unfolding built_for thread_refusal
    is_sorted t h = sorted-built m (get_or tables t []) (node_room rooms t) (edge_room rooms t) (free t h)

    same_step : (t c : ℕ) (s : In Generated) → t < count → sought_step (four (λ t. edge_table (b t))) t c s ≡ generated_step (edge_table (built_for start rooms t)) c s
    unfolding sought_step
    same_step t c s h =
        let l : count ≤ 4 = few in
        let e : get_or (four (λ t. edge_table (b t))) t [] ≡ edge_table (built_for start rooms t) = at-four (λ t. edge_table (b t)) [] t (omega arith) ∙ ap edge_table (is-built t h) in
        ap (λ (table : List ℕ). taken (searched table c s.memory s.own)) e ∙ same-search (edge_table (built_for start rooms t)) (is_sorted t h) c s

    abbrev stand : Stand Generated
    stand = run (sought_step (four (λ t. edge_table (b t)))) (items sched) 0 (world count M (start_four all))

    same-stands : stand ≡ stand_generated start rooms
    unfolding stand_generated start_world
    same-stands =
        let l : count ≤ 4 = few in
        run-same count (sought_step (four (λ t. edge_table (b t)))) (λ t. generated_step (edge_table (built_for start rooms t))) same_step (items sched) 0 (world count M (start_four all)) (rw (length-take-le count (start_four all) l) (omega arith))
        ∙ ap (λ (ts : List Generated). run (λ t. generated_step (edge_table (built_for start rooms t))) (items sched) 0 (record { memory = M; threads = ts })) (starts m tables M all sched count l)

    -- the rooms
    rooms-nodes : four (λ t. (b t).nodes) ≡ rooms_after (node_room rooms) (λ t. (built_for start rooms t).nodes) count
    unfolding rooms_after collect listed built_for
    rooms-nodes = rw (at 0, at 1, at 2, at 3)
      where
        at : (t : ℕ) → (b t).nodes ≡ cond (ltb t count) (built_for start rooms t).nodes (zeros (node_room rooms t))
        at t = made-nodes m (get_or tables t []) (node_room rooms t) (edge_room rooms t) (ltb t count)

    rooms-edges : four (λ t. (b t).edges) ≡ rooms_after (edge_room rooms) (λ t. (built_for start rooms t).edges) count
    unfolding rooms_after collect listed built_for
    rooms-edges = rw (at 0, at 1, at 2, at 3)
      where
        at : (t : ℕ) → (b t).edges ≡ cond (ltb t count) (built_for start rooms t).edges (zeros (edge_room rooms t))
        at t = made-edges m (get_or tables t []) (node_room rooms t) (edge_room rooms t) (ltb t count)

    -- what is shown
    abbrev AliveAt : ℕ → Generated → Type 0
    AliveAt t a = (t < count) × Alive m (get_or tables t []) (node_room rooms t) (edge_room rooms t) a

    shows : (t : ℕ) (a : Generated) → AliveAt t a → state_at (get_or (four (λ t. (b t).nodes)) t []) a ≡ thread_state (shown_generated (built_for start rooms t).nodes a)
    unfolding built_for
    shows t a h =
        let l : count ≤ 4 = few in
        let k = h.0 in
        let e : get_or (four (λ t. (b t).nodes)) t [] ≡ (build m (get_or tables t []) (node_room rooms t) (edge_room rooms t)).nodes = at-four (λ t. (b t).nodes) [] t (omega arith) ∙ ap (λ (x : Result). x.nodes) (is-built t k) in
        rw e (state-is (build m (get_or tables t []) (node_room rooms t) (edge_room rooms t)).nodes a (alive-readable m (get_or tables t []) (node_room rooms t) (edge_room rooms t) a h.1))

    stands-alive : length (stand_generated start rooms).world.threads ≡ count → Each AliveAt (stand_generated start rooms).world.threads
    stands-alive e =
        let ts = (stand_generated start rooms).world.threads in
        both-each (λ t a. t < count) (λ t. Alive m (get_or tables t []) (node_room rooms t) (edge_room rooms t)) ts (all-below (λ t. t < count) ts (λ t l. omega arith)) (end-alive start rooms free)

    module _ (x : Ran) (h : Goes count (λ t. get_or (four (λ t. (b t).nodes)) t []) (stand_generated start rooms) x) where
      abbrev N : ℕ → List ℕ
      N t = get_or (four (λ t. (b t).nodes)) t []

      abbrev threads : List Generated
      threads = (stand_generated start rooms).world.threads

      shown-all : four_states count N threads ≡ map thread_state (result_generated start rooms (stand_generated start rooms)).state.threads
      unfolding result_generated shown_state
      shown-all =
          let l : count ≤ 4 = few in
          let p : length threads ≡ count = h.present in
          ap (λ (k : ℕ). four_states k N threads) (sym p)
          ∙ four-shown N (λ t. shown_generated (built_for start rooms t).nodes) AliveAt shows threads (omega arith) (stands-alive p)

      ran-is : x ≡ ran_of (result_generated start rooms (stand_generated start rooms)).ended (result_generated start rooms (stand_generated start rooms)).state
      unfolding result_generated shown_state
      ran-is = h.ran ∙ ap (λ (l : List ThreadState). record { ended = end_of (stand_generated start rooms); memory = (stand_generated start rooms).world.memory; threads = l }) shown-all

      whole : Runs result ns' es' x
      unfolding result_generated
      whole = rw (generated-result start rooms free none-refused) (record { ran = ran-is; nodes = g.nodes ∙ rooms-nodes; edges = g.edges ∙ rooms-edges })

    -- the steps were taken, by the first so many records of each table
    pub ran-steps : (tabs : List (List ℕ)) → tabs ≡ four (λ t. edge_table (b t)) → (x : Ran)
        → Goes count (λ t. get_or ns' t []) (run (sought_step tabs) (items sched) 0 (world count M (start_four all))) x → Runs result ns' es' x
    ran-steps tabs e x h =
        let k : Goes count (λ t. get_or (four (λ t. (b t).nodes)) t []) (run (sought_step tabs) (items sched) 0 (world count M (start_four all))) x =
        subst (λ (l : List (List ℕ)). Goes count (λ t. get_or l t []) (run (sought_step tabs) (items sched) 0 (world count M (start_four all))) x) g.nodes h in
        let j : Goes count (λ t. get_or (four (λ t. (b t).nodes)) t []) stand x =
        subst (λ (l : List (List ℕ)). Goes count (λ t. get_or (four (λ t. (b t).nodes)) t []) (run (sought_step l) (items sched) 0 (world count M (start_four all))) x) e k in
        whole x (subst (λ (s : Stand Generated). Goes count (λ t. get_or (four (λ t. (b t).nodes)) t []) s x) same-stands j)

-- The first so many records of each table are those built.
module _ (b : ℕ → Result) (e0 e1 e2 e3 : List ℕ) (cs : List ℕ) (p : e0 ∷ e1 ∷ e2 ∷ e3 ∷ [] ≡ four (λ t. (b t).edges)) (q : cs ≡ four (λ t. edge_count (b t))) where
  pub cut-tables : first_edges (get_or cs 0 0) e0 ∷ first_edges (get_or cs 1 0) e1 ∷ first_edges (get_or cs 2 0) e2 ∷ first_edges (get_or cs 3 0) e3 ∷ [] ≡ four (λ t. edge_table (b t))
  unfolding edge_table
  cut-tables =
      let p0 : e0 ≡ (b 0).edges = cc in
      let p1 : e1 ≡ (b 1).edges = cc in
      let p2 : e2 ≡ (b 2).edges = cc in
      let p3 : e3 ≡ (b 3).edges = cc in
      let q0 : get_or cs 0 0 ≡ edge_count (b 0) = ap (λ (l : List ℕ). get_or l 0 0) q in
      let q1 : get_or cs 1 0 ≡ edge_count (b 1) = ap (λ (l : List ℕ). get_or l 1 0) q in
      let q2 : get_or cs 2 0 ≡ edge_count (b 2) = ap (λ (l : List ℕ). get_or l 2 0) q in
      let q3 : get_or cs 3 0 ≡ edge_count (b 3) = ap (λ (l : List ℕ). get_or l 3 0) q in
      rw (p0, p1, p2, p3, q0, q1, q2, q3)

  pub cuts-within : ((t : ℕ) → 7 * edge_count (b t) ≤ length (b t).edges) → (7 * get_or cs 0 0 ≤ length e0) × (7 * get_or cs 1 0 ≤ length e1) × (7 * get_or cs 2 0 ≤ length e2) × (7 * get_or cs 3 0 ≤ length e3)
  cuts-within h =
      let p0 : e0 ≡ (b 0).edges = cc in
      let p1 : e1 ≡ (b 1).edges = cc in
      let p2 : e2 ≡ (b 2).edges = cc in
      let p3 : e3 ≡ (b 3).edges = cc in
      let q0 : get_or cs 0 0 ≡ edge_count (b 0) = ap (λ (l : List ℕ). get_or l 0 0) q in
      let q1 : get_or cs 1 0 ≡ edge_count (b 1) = ap (λ (l : List ℕ). get_or l 1 0) q in
      let q2 : get_or cs 2 0 ≡ edge_count (b 2) = ap (λ (l : List ℕ). get_or l 2 0) q in
      let q3 : get_or cs 3 0 ≡ edge_count (b 3) = ap (λ (l : List ℕ). get_or l 3 0) q in
      (rw (p0, q0) (h 0), rw (p1, q1) (h 1), rw (p2, q2) (h 2), rw (p3, q3) (h 3))

-- From what the rooms hold: the tables may be cut, and the run by them is the run.
module _ (m count : ℕ) (tables : List (List ℕ)) (n0 n1 n2 n3 e0 e1 e2 e3 M all sched : List ℕ) (ns : List (List ℕ)) (d0 d1 d2 d3 : List ℕ) (cs : List ℕ)
    (g : Fills m count tables (rooms m count tables n0 n1 n2 n3 e0 e1 e2 e3 M all sched) ns (d0 ∷ d1 ∷ d2 ∷ d3 ∷ []) cs) where
  abbrev lent : Rooms
  lent = rooms m count tables n0 n1 n2 n3 e0 e1 e2 e3 M all sched

  pub go-within : (count ≤ 4) × (7 * get_or cs 0 0 ≤ length d0) × (7 * get_or cs 1 0 ≤ length d1) × (7 * get_or cs 2 0 ≤ length d2) × (7 * get_or cs 3 0 ≤ length d3)
  go-within =
      let w = cuts-within (made_for m count tables lent) d0 d1 d2 d3 cs g.edges g.counts (λ t. made-within m (get_or tables t []) (node_room lent t) (edge_room lent t) (ltb t count)) in
      (few m count tables n0 n1 n2 n3 e0 e1 e2 e3 M all sched ns (d0 ∷ d1 ∷ d2 ∷ d3 ∷ []) cs g, w.0, w.1, w.2, w.3)

  pub ran-gone : (x : Ran)
      → Goes count (λ t. get_or ns t []) (run (sought_step (first_edges (get_or cs 0 0) d0 ∷ first_edges (get_or cs 1 0) d1 ∷ first_edges (get_or cs 2 0) d2 ∷ first_edges (get_or cs 3 0) d3 ∷ [])) (items sched) 0 (world count M (start_four all))) x
      → Runs (result m count tables n0 n1 n2 n3 e0 e1 e2 e3 M all sched) ns (d0 ∷ d1 ∷ d2 ∷ d3 ∷ []) x
  ran-gone x h =
      ran-steps m count tables n0 n1 n2 n3 e0 e1 e2 e3 M all sched ns (d0 ∷ d1 ∷ d2 ∷ d3 ∷ []) cs g _ (cut-tables (made_for m count tables lent) d0 d1 d2 d3 cs g.edges g.counts) x h
