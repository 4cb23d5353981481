-- Demand 1: what is refused by the builder and the two runs is what is given, and a refusal leaves zeros.
use Rattle.std.specs.Prelude.{Ok, Err}
use mathlib.Core.Path.{◌≡◌, refl, sym, ap, subst, ◌∙◌}
use mathlib.Core.Logic.Iff
use mathlib.Core.Logic.{◌↔◌, ◌⊎◌, inl, inr, ⊎_elim}
use mathlib.Core.Bool.{Bool, true, false, cond}
use mathlib.Core.Option.{Option, none, some}
use Prim.Native.Nat.{ℕ, zero, suc, ◌+◌, ◌≤◌, ◌<◌}
use native.Mathlib.Nat.{zero-add}
use native.Mathlib.Omega.{arith}
use native.Mathlib.Decide.{dec_lt}
use mathlib.Core.List.{List, []}
use lib.ListN.{get_or, length}
use lib.Dec.{ltb}
use Rattle.lists.specs.Lists.{Lowest}
use Rattle.lists.proofs.Lists.{not_some}
use Rattle.lists.proofs.Tests.{lt-true, lt-false, eq-false}
use Rattle.thread.specs.declared.Refusal.{Refusal}
use Rattle.thread.specs.declared.Refusal.TheVariants as R
use Rattle.thread.specs.Sizes.{most_threads}
use Rattle.thread.specs.Numbers.{zeros}
use Rattle.checks.specs.Checks.{admission}
use Rattle.checks.specs.Given.{conditions, GivenBy}
use Rattle.checks.proofs.Given.{given-iff}
use Rattle.graphs.specs.Build.{counted, Result, refusal, refused, accepted, build}
use Rattle.graphs.specs.Given.{GivenBuild}
use Rattle.graphs.proofs.Given.{given-build, given-build-only, accepted-when}
use Rattle.graphs.proofs.Records.{collect-at}
use Rattle.graphs.proofs.Tables.{when-refused, when-accepted}
use Rattle.runs.specs.declared.Unfinished.TheVariants as U
use Rattle.runs.specs.Run.{Ended, Stand, bad_threads, Bad, first_bad, threads_refused, end_of}
use Rattle.runs.specs.Start.{Start, table_of}
use Rattle.runs.specs.Shown.{zero_state}
use Rattle.buffered.specs.RunBuffered.{BufferedResult, stand_buffered, result_buffered, run_buffered}
use Rattle.generated.specs.RunGenerated.{Rooms, node_room, edge_room, built_for, rooms_after, GeneratedResult, stand_generated, result_generated, thread_refusal, run_generated}
use Rattle.agree.specs.Demands.{Demand1, GivenRun, Demand1Buffered, Demand1Generated, Demand1Rooms}

-- The builder.

module _ (m : ℕ) (t : List ℕ) (nodes edges : ℕ) where
  built-when : refusal m t nodes edges ≡ none → (n : ℕ) × (e : ℕ) × ((build m t nodes edges).answer ≡ Ok (counted n e))
  unfolding accepted
  built-when e =
      let a = accepted-when m t nodes edges e in
      (length a.graph.nodes, length a.graph.edges, ap (λ (b : Result). b.answer) (when-accepted m t nodes edges a e))

  refused-when : (r : Refusal) → refusal m t nodes edges ≡ some r → (build m t nodes edges).answer ≡ Err r
  unfolding refused
  refused-when r e = ap (λ (b : Result). b.answer) (when-refused m t nodes edges r e)

  when-answered : (r : Refusal) → (build m t nodes edges).answer ≡ Err r → refusal m t nodes edges ≡ some r
  when-answered r h = go (refusal m t nodes edges) refl
    where
      go : (o : Option Refusal) → refusal m t nodes edges ≡ o → refusal m t nodes edges ≡ some r
      go none e = let b = built-when e in let g = b.2 in cc
      go (some q) e = let f = refused-when q e in cc

  zeros-when : (r : Refusal) → refusal m t nodes edges ≡ some r → ((build m t nodes edges).nodes ≡ zeros nodes) × ((build m t nodes edges).edges ≡ zeros edges)
  unfolding refused
  zeros-when r e = rw (when-refused m t nodes edges r e) (refl, refl)

pub demand1 : (m : ℕ) (t : List ℕ) (nodes edges : ℕ) → Demand1 m t nodes edges
demand1 m t nodes edges = record {
  refused = λ r. Iff.trans (when-answered m t nodes edges r, refused-when m t nodes edges r) (given-build m t nodes edges r);
  one = given-build-only m t nodes edges;
  zeroed = λ r g. zeros-when m t nodes edges r ((given-build m t nodes edges r).1 g);
  built = λ n. go n (refusal m t nodes edges) refl;
}
  where
    go : ((r : Refusal) → GivenBuild m t nodes edges r → ⊥) → (o : Option Refusal) → refusal m t nodes edges ≡ o → (n : ℕ) × (e : ℕ) × ((build m t nodes edges).answer ≡ Ok (counted n e))
    go n none e = built-when m t nodes edges e
    go n (some r) e = absurd (n r ((given-build m t nodes edges r).0 e))

-- The threads of a run, by any refusal of each.

module _ (refusal : ℕ → Option Refusal) where
  -- b is the first that is refused, of the n threads from k on
  record First (k n : ℕ) (b : Bad) : Type 0 where
    from : k ≤ b.thread
    below : b.thread < k + n
    given : refusal b.thread ≡ some b.refusal
    before : (j : ℕ) → k ≤ j → j < b.thread → refusal j ≡ none

  -- what an answer says of the n threads from k on
  abbrev Says : ℕ → ℕ → Option Bad → Type 0
  Says k n none = (j : ℕ) → k ≤ j → j < k + n → refusal j ≡ none
  Says k n (some b) = First k n b

  -- thread k is not refused either
  silent-before : (k j : ℕ) → refusal k ≡ none → k ≤ j → (suc k ≤ j → refusal j ≡ none) → refusal j ≡ none
  silent-before k j e h f = go (dec_lt k j)
    where
      go : Dec (k < j) → refusal j ≡ none
      go (yes l) = f l
      go (no l) = let q : j ≡ k = omega arith in rw q e

  says-more : (k n : ℕ) (o : Option Bad) → refusal k ≡ none → Says (suc k) n o → Says k (suc n) o
  says-more k n none e s = λ j h l. silent-before k j e h (λ g. s j g (omega arith))
  says-more k n (some b) e s = record {
    from = omega (arith, s.from);
    below = omega (arith, s.below);
    given = s.given;
    before = λ j h l. silent-before k j e h (λ g. s.before j g l);
  }

  first_says : (k n : ℕ) → Says k n (first_bad refusal k n)
  unfolding first_bad
  first_says k zero = λ j h l. absurd (omega arith)
  first_says k (suc n) = go (refusal k) refl (first_says (suc k) n)
    where
      go : (o : Option Refusal) → refusal k ≡ o → Says (suc k) n (first_bad refusal (suc k) n)
          → Says k (suc n) (elim o [ some r ↦ some (record { thread = k; refusal = r }) | none ↦ first_bad refusal (suc k) n ])
      go none e s = says-more k n (first_bad refusal (suc k) n) e s
      go (some r) e s = record { from = omega arith; below = omega arith; given = e; before = λ j h l. absurd (omega arith) }

  not-both : (j : ℕ) (r : Refusal) → refusal j ≡ none → refusal j ≡ some r → ⊥
  not-both j r e f = not_some (sym e ∙ f)

  same_first : (k n : ℕ) (b c : Bad) → First k n b → First k n c → b ≡ c
  same_first k n b c f g = go (dec_lt b.thread c.thread) (dec_lt c.thread b.thread)
    where
      go : Dec (b.thread < c.thread) → Dec (c.thread < b.thread) → b ≡ c
      go (yes l) d = absurd (not-both b.thread b.refusal (g.before b.thread f.from l) f.given)
      go (no l) (yes h) = absurd (not-both c.thread c.refusal (f.before c.thread g.from h) g.given)
      go (no l) (no h) =
          let q : b.thread ≡ c.thread = omega arith in
          let e : refusal b.thread ≡ some c.refusal = rw q g.given in
          let f' = f.given in
          let p : b.refusal ≡ c.refusal = cc in
          λ i. record { thread = q i; refusal = p i }

  -- only one answer says what is so
  says-only : (k n : ℕ) (o p : Option Bad) → Says k n o → Says k n p → o ≡ p
  says-only k n none none s u = refl
  says-only k n none (some c) s u = absurd (not-both c.thread c.refusal (s c.thread u.from u.below) u.given)
  says-only k n (some b) none s u = absurd (not-both b.thread b.refusal (u b.thread s.from s.below) s.given)
  says-only k n (some b) (some c) s u = ap some (same_first k n b c s u)

abbrev Wrong : ℕ → Type 0
Wrong count = (count ≡ 0) ⊎ (most_threads < count)

wrong-or-right : (count : ℕ) → Wrong count ⊎ ((0 < count) × (count ≤ most_threads))
wrong-or-right count = go (dec_lt 0 count) (dec_lt most_threads count)
  where
    go : Dec (0 < count) → Dec (most_threads < count) → Wrong count ⊎ ((0 < count) × (count ≤ most_threads))
    go (no l) d = inl (inl (omega arith))
    go (yes l) (yes h) = inl (inr h)
    go (yes l) (no h) = inr (l, omega arith)

abbrev bad : ℕ → Refusal → Bad
bad t r = record { thread = t; refusal = r }

module _ (refusal : ℕ → Option Refusal) (count : ℕ) where
  wrong-count : Wrong count → threads_refused refusal count ≡ some (bad 0 R.BadThreads)
  unfolding threads_refused bad_threads
  wrong-count = ⊎_elim (λ (e : count ≡ 0). rw (e, threads_refused)) (λ (l : most_threads < count). rw (eq-false count 0 (λ e. omega arith), lt-true most_threads count l, threads_refused))

  right-count : 0 < count → count ≤ most_threads → threads_refused refusal count ≡ first_bad refusal 0 count
  unfolding threads_refused bad_threads
  right-count h l = rw (eq-false count 0 (λ e. omega arith), lt-false most_threads count l, threads_refused)

  pub none-bad : (threads_refused refusal count ≡ none) ↔ ((0 < count) × (count ≤ most_threads) × ((k : ℕ) → k < count → refusal k ≡ none))
  none-bad = (
    λ e. ⊎_elim (λ (w : Wrong count). absurd (not_some (sym e ∙ wrong-count w))) (λ (p : (0 < count) × (count ≤ most_threads)). (p.0, p.1, silent (sym (right-count p.0 p.1) ∙ e))) (wrong-or-right count),
    λ p. right-count p.0 p.1 ∙ says-only refusal 0 count (first_bad refusal 0 count) none (first_says refusal 0 count) (λ j h l. p.2 j (omega arith)),
  )
    where
      silent : first_bad refusal 0 count ≡ none → (k : ℕ) → k < count → refusal k ≡ none
      silent e k l = subst (Says refusal 0 count) e (first_says refusal 0 count) k (omega arith) (omega arith)

  -- the first that is refused is the lowest for which a refusal is given
  pub bad-iff : (given : ℕ → Refusal → Type 0) → ((k : ℕ) (r : Refusal) → (refusal k ≡ some r) ↔ given k r)
      → (t : ℕ) (r : Refusal) → (threads_refused refusal count ≡ some (record { thread = t; refusal = r })) ↔ GivenRun given count t r
  bad-iff given iff t r = (
    λ e. ⊎_elim (λ (w : Wrong count). named w (sym (wrong-count w) ∙ e)) (λ (p : (0 < count) × (count ≤ most_threads)). found p (sym (right-count p.0 p.1) ∙ e)) (wrong-or-right count),
    ⊎_elim
        (λ (p : Wrong count × (t ≡ 0) × (r ≡ R.BadThreads)). rw (p.1, p.2) (wrong-count p.0))
        (λ (p : (0 < count) × (count ≤ most_threads) × Lowest (λ k. (q : Refusal) × given k q) count t × given t r).
        right-count p.0 p.1 ∙ says-only refusal 0 count (first_bad refusal 0 count) (some (bad t r)) (first_says refusal 0 count) (first-given p.2 p.3)),
  )
    where
      named : Wrong count → some (bad 0 R.BadThreads) ≡ some (bad t r) → GivenRun given count t r
      named w e = let q : bad t r ≡ bad 0 R.BadThreads = cc in inl (w, ap (λ (b : Bad). b.thread) q, ap (λ (b : Bad). b.refusal) q)

      found : (0 < count) × (count ≤ most_threads) → first_bad refusal 0 count ≡ some (bad t r) → GivenRun given count t r
      found p e =
          let f : First refusal 0 count (bad t r) = subst (Says refusal 0 count) e (first_says refusal 0 count) in
          let g : given t r = (iff t r).0 f.given in
          inr (p.0, p.1, record { below = omega (arith, f.below); holds = (r, g); before = λ k l h. not-both refusal k h.0 (f.before k (omega arith) l) ((iff k h.0).1 h.1) }, g)

      first-given : Lowest (λ k. (q : Refusal) × given k q) count t → given t r → First refusal 0 count (bad t r)
      first-given w g = record { from = omega arith; below = omega (arith, w.below); given = (iff t r).1 g; before = λ j h l. silent j l (refusal j) refl }
        where
          silent : (j : ℕ) → j < t → (o : Option Refusal) → refusal j ≡ o → refusal j ≡ none
          silent j l none e = e
          silent j l (some q) e = absurd (w.before j l (q, (iff j q).0 e))

-- The runs: one that ends otherwise, where no thread is refused, is refused exactly when a thread is.

ended-iff : (o : Option Bad) (x : Ended) → ((b : Bad) → o ≡ some b → x ≡ Err (U.Refused b.thread b.refusal)) → (o ≡ none → (t : ℕ) (r : Refusal) → x ≡ Err (U.Refused t r) → ⊥)
    → (t : ℕ) (r : Refusal) → (x ≡ Err (U.Refused t r)) ↔ (o ≡ some (bad t r))
ended-iff none x h n t r = (λ e. absurd (n refl t r e), λ e. absurd (not_some e))
ended-iff (some b) x h n t r = (λ e. same (h b refl) e, λ e. h (bad t r) e)
  where
    same : x ≡ Err (U.Refused b.thread b.refusal) → x ≡ Err (U.Refused t r) → some b ≡ some (bad t r)
    same f e =
        let p : b.thread ≡ t = cc in
        let q : b.refusal ≡ r = cc in
        λ i. some (record { thread = p i; refusal = q i })

not-refused : {A : Type 0} (s : Stand A) (t : ℕ) (r : Refusal) → end_of s ≡ Err (U.Refused t r) → ⊥
unfolding end_of
not-refused s t r = go s.stopped
  where
    go : (b : Bool) → cond b (Err (U.Stopped s.steps)) (Ok s.steps) ≡ Err (U.Refused t r) → ⊥
    go true e = let z : ◌≡◌ {A = ℕ} 0 1 = cc in omega arith
    go false e = let z : ◌≡◌ {A = ℕ} 0 1 = cc in omega arith

module _ (s : Start) where
  abbrev bad_buffered : Option Bad
  bad_buffered = threads_refused (λ k. admission s.model (table_of s k)) s.count

  buffered-refused : (b : Bad) → bad_buffered ≡ some b → run_buffered s ≡ record { ended = Err (U.Refused b.thread b.refusal); state = zero_state }
  unfolding run_buffered
  buffered-refused b e = rw (e, run_buffered)

  buffered-ran : bad_buffered ≡ none → (run_buffered s).ended ≡ end_of (stand_buffered s)
  unfolding run_buffered result_buffered
  buffered-ran e = rw (e, run_buffered)

  buffered-iff : (t : ℕ) (r : Refusal) → ((run_buffered s).ended ≡ Err (U.Refused t r)) ↔ (bad_buffered ≡ some (bad t r))
  buffered-iff = ended-iff bad_buffered (run_buffered s).ended
      (λ b e. ap (λ (x : BufferedResult). x.ended) (buffered-refused b e))
      (λ e t r f. not-refused (stand_buffered s) t r (sym (buffered-ran e) ∙ f))

  pub demand1-buffered : Demand1Buffered s
  demand1-buffered = record {
    refused = λ t r. Iff.trans (buffered-iff t r) (bad-iff (λ k. admission s.model (table_of s k)) s.count (λ k. GivenBy (conditions s.model (table_of s k))) (λ k. given-iff s.model (table_of s k)) t r);
    zeroed = λ t r e. ap (λ (x : BufferedResult). x.state) (buffered-refused (bad t r) ((buffered-iff t r).0 e));
  }

-- a room after the run: its graph, or zero beyond the count
module _ (room : ℕ → ℕ) (table : ℕ → List ℕ) (count k : ℕ) (h : k < most_threads) where
  room_at : get_or (rooms_after room table count) k [] ≡ cond (ltb k count) (table k) (zeros (room k))
  unfolding rooms_after
  room_at = collect-at (λ t. cond (ltb t count) (table t) (zeros (room t))) [] 0 most_threads k h ∙ rw zero-add

  room-kept : k < count → get_or (rooms_after room table count) k [] ≡ table k
  room-kept l = room_at ∙ rw (lt-true k count l)

  room-zero : count ≤ k → get_or (rooms_after room table count) k [] ≡ zeros (room k)
  room-zero l = room_at ∙ rw (lt-false k count l)

module _ (s : Start) (rooms : Rooms) where
  abbrev bad_generated : Option Bad
  bad_generated = threads_refused (thread_refusal s rooms) s.count

  abbrev zero_generated : Bad → GeneratedResult
  zero_generated b = record {
    ended = Err (U.Refused b.thread b.refusal);
    state = zero_state;
    nodes = rooms_after (node_room rooms) (λ t. []) 0;
    edges = rooms_after (edge_room rooms) (λ t. []) 0;
  }

  generated-refused : (b : Bad) → bad_generated ≡ some b → run_generated s rooms ≡ zero_generated b
  unfolding run_generated
  generated-refused b e = rw (e, run_generated)

  generated-ran : bad_generated ≡ none → (run_generated s rooms).ended ≡ end_of (stand_generated s rooms)
  unfolding run_generated result_generated
  generated-ran e = rw (e, run_generated)

  generated-iff : (t : ℕ) (r : Refusal) → ((run_generated s rooms).ended ≡ Err (U.Refused t r)) ↔ (bad_generated ≡ some (bad t r))
  generated-iff = ended-iff bad_generated (run_generated s rooms).ended
      (λ b e. ap (λ (x : GeneratedResult). x.ended) (generated-refused b e))
      (λ e t r f. not-refused (stand_generated s rooms) t r (sym (generated-ran e) ∙ f))

  thread-given : (k : ℕ) (r : Refusal) → (thread_refusal s rooms k ≡ some r) ↔ GivenBuild s.model (table_of s k) (node_room rooms k) (edge_room rooms k) r
  unfolding thread_refusal
  thread-given k = given-build s.model (table_of s k) (node_room rooms k) (edge_room rooms k)

  pub demand1-generated : Demand1Generated s rooms
  demand1-generated = record {
    refused = λ t r. Iff.trans (generated-iff t r) (bad-iff (thread_refusal s rooms) s.count (λ k. GivenBuild s.model (table_of s k) (node_room rooms k) (edge_room rooms k)) thread-given t r);
    zeroed = λ t r e. rw (generated-refused (bad t r) ((generated-iff t r).0 e)) (refl, λ k h. (room-zero (node_room rooms) (λ t. []) 0 k h (omega arith), room-zero (edge_room rooms) (λ t. []) 0 k h (omega arith)));
  }

  -- the rooms where no thread is refused
  generated-whole : bad_generated ≡ none → run_generated s rooms ≡ result_generated s rooms (stand_generated s rooms)
  unfolding run_generated
  generated-whole e = rw (e, run_generated)

  pub demand1-rooms : Demand1Rooms s rooms
  unfolding result_generated
  demand1-rooms n k h = go bad_generated refl
    where
      go : (o : Option Bad) → bad_generated ≡ o
          → (k < s.count → (get_or (run_generated s rooms).nodes k [] ≡ (built_for s rooms k).nodes) × (get_or (run_generated s rooms).edges k [] ≡ (built_for s rooms k).edges))
          × (s.count ≤ k → (get_or (run_generated s rooms).nodes k [] ≡ zeros (node_room rooms k)) × (get_or (run_generated s rooms).edges k [] ≡ zeros (edge_room rooms k)))
      go (some b) e = absurd (n b.thread b.refusal ((generated-iff b.thread b.refusal).1 e))
      go none e = rw (generated-whole e) (
        λ l. (room-kept (node_room rooms) (λ t. (built_for s rooms t).nodes) s.count k h l, room-kept (edge_room rooms) (λ t. (built_for s rooms t).edges) s.count k h l),
        λ l. (room-zero (node_room rooms) (λ t. (built_for s rooms t).nodes) s.count k h l, room-zero (edge_room rooms) (λ t. (built_for s rooms t).edges) s.count k h l),
      )
