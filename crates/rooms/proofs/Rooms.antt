-- Four graphs, made in order up to the first that is refused: the refusal is that of the threads, and the rooms hold the graphs.
use Rattle.std.specs.Prelude as code
use Rattle.std.specs.Prelude.{Ok, Err}
use mathlib.Core.Path.{◌≡◌, refl, sym, ap, ◌∙◌}
use mathlib.Core.Bool.{Bool, true, false, cond, ◌||◌}
use mathlib.Core.Option.{Option, none, some}
use Prim.Native.Nat.{ℕ, zero, suc, ◌+◌, ◌*◌, ◌≤◌, ◌<◌}
use native.Mathlib.Omega.{arith}
use mathlib.Core.List.{List, []}
use lib.ListN.{length, get_or, length-append, length-map}
use lib.Dec.{ltb, eqb}
use Rattle.lists.proofs.Tests.{lt-true, lt-false, false-lt}
use Rattle.thread.specs.declared.Refusal.{Refusal}
use Rattle.thread.specs.declared.Refusal.TheVariants as R
use Rattle.thread.specs.Numbers.{zeros, filled}
use Rattle.runs.specs.Run.{Bad, bad_threads, first_bad, threads_refused}
use Rattle.graphs.specs.declared.Edge.{Edge}
use Rattle.graphs.specs.Records.{numbered, edge_record, flat}
use Rattle.graphs.specs.Build.{Answer, Result, edges_of_graph, refusal, refused, accepted, build, build_answer}
use Rattle.graphs.proofs.Given.{accepted-when}
use Rattle.graphs.proofs.Tables.{when-refused, when-accepted}
use Rattle.graphs.proofs.Records.{flat-length, all_edges}
use Rattle.room.specs.Room.{made}
use Rattle.generated.specs.RunGenerated.{Rooms, node_room, edge_room}
use Rattle.rooms.specs.Graphs.{edges_or, made_for, refused_by, edge_count, first_refused, refused_in}

-- what the edges of a graph, or its refusal, say of the builder's answer
pub edges-ok : (t : ℕ) (a : Answer) (n : ℕ) → Ok n ≡ edges_or t a → (refused_by a ≡ none) × (n ≡ (build_answer a).edges)
unfolding refused_by build_answer
edges-ok t (Ok b) n e = (refl, cc)
edges-ok t (Err r) n e = cc

abbrev bad_in : code.Result ℕ (ℕ × Refusal) → Option Bad
bad_in (Ok n) = none
bad_in (Err b) = some (record { thread = b.0; refusal = b.1 })

pub edges-err : (t : ℕ) (a : Answer) (b : ℕ × Refusal) → Err b ≡ edges_or t a → (r : Refusal) × (refused_by a ≡ some r) × (some (record { thread = t; refusal = r }) ≡ bad_in (Err b))
unfolding refused_by
edges-err t (Ok g) b e = cc
edges-err t (Err r) b e = (r, refl, ap bad_in (sym e))

-- Thread by thread.
module _ (f : ℕ → Option Refusal) where
  pass : (t n : ℕ) → f t ≡ none → first_bad f t (suc n) ≡ first_bad f (suc t) n
  unfolding first_bad
  pass t n e = rw (e, first_bad)

  stop : (t n : ℕ) (r : Refusal) → f t ≡ some r → first_bad f t (suc n) ≡ some (record { thread = t; refusal = r })
  unfolding first_bad
  stop t n r e = rw (e, first_bad)

  no_more : (t n : ℕ) → ((i : ℕ) → t ≤ i → f i ≡ none) → first_bad f t n ≡ none
  unfolding first_bad
  no_more t zero h = refl
  no_more t (suc n) h = pass t n (h t (omega arith)) ∙ no_more (suc t) n (λ i l. h i (omega arith))

module _ (b : ℕ → Result) where
  abbrev at : ℕ → Option Refusal
  at t = refused_by (b t).answer

  abbrev bad : ℕ → Refusal → Option Bad
  bad t r = some (record { thread = t; refusal = r })

  pub stop-0 : (r : Refusal) → at 0 ≡ some r → first_refused b ≡ bad 0 r
  stop-0 r e = stop at 0 3 r e

  pub stop-1 : (r : Refusal) → at 0 ≡ none → at 1 ≡ some r → first_refused b ≡ bad 1 r
  stop-1 r e f = pass at 0 3 e ∙ stop at 1 2 r f

  pub stop-2 : (r : Refusal) → at 0 ≡ none → at 1 ≡ none → at 2 ≡ some r → first_refused b ≡ bad 2 r
  stop-2 r e f g = pass at 0 3 e ∙ pass at 1 2 f ∙ stop at 2 1 r g

  pub stop-3 : (r : Refusal) → at 0 ≡ none → at 1 ≡ none → at 2 ≡ none → at 3 ≡ some r → first_refused b ≡ bad 3 r
  stop-3 r e f g h = pass at 0 3 e ∙ pass at 1 2 f ∙ pass at 2 1 g ∙ stop at 3 0 r h

  pub no_stop : at 0 ≡ none → at 1 ≡ none → at 2 ≡ none → at 3 ≡ none → first_refused b ≡ none
  unfolding first_bad
  no_stop e f g h = pass at 0 3 e ∙ pass at 1 2 f ∙ pass at 2 1 g ∙ pass at 3 0 h

-- beyond the first n none is refused
up-to : (f g : ℕ → Option Refusal) (t n m : ℕ) → n ≤ m → ((i : ℕ) → t ≤ i → i < t + n → f i ≡ g i) → ((i : ℕ) → t + n ≤ i → f i ≡ none) → first_bad f t m ≡ first_bad g t n
unfolding first_bad
up-to f g t zero m l h k = no_more f t m (λ i j. k i (omega arith))
up-to f g t (suc n) zero l h k = absurd (omega arith)
up-to f g t (suc n) (suc m) l h k = go (g t) refl (up-to f g (suc t) n m (omega arith) (λ i a c. h i (omega arith) (omega arith)) (λ i a. k i (omega arith)))
  where
    go : (o : Option Refusal) → g t ≡ o → first_bad f (suc t) m ≡ first_bad g (suc t) n → first_bad f t (suc m) ≡ first_bad g t (suc n)
    go none e r = pass f t m (h t (omega arith) (omega arith) ∙ e) ∙ r ∙ sym (pass g t n e)
    go (some q) e r = stop f t m q (h t (omega arith) (omega arith) ∙ e) ∙ sym (stop g t n q e)

-- the builder's answer says whether it refuses, and its edges are within the room
module _ (m : ℕ) (t : List ℕ) (node_room edge_room : ℕ) where
  built-refusal : refused_by (build m t node_room edge_room).answer ≡ refusal m t node_room edge_room
  unfolding refused_by refused accepted
  built-refusal = go (refusal m t node_room edge_room) refl
    where
      go : (o : Option Refusal) → refusal m t node_room edge_room ≡ o → refused_by (build m t node_room edge_room).answer ≡ refusal m t node_room edge_room
      go none e = ap (λ (b : Result). refused_by b.answer) (when-accepted m t node_room edge_room (accepted-when m t node_room edge_room e) e) ∙ sym e
      go (some r) e = ap (λ (b : Result). refused_by b.answer) (when-refused m t node_room edge_room r e) ∙ sym e

  built-within : 7 * edge_count (build m t node_room edge_room) ≤ length (build m t node_room edge_room).edges
  unfolding refused accepted build_answer filled
  built-within = go (refusal m t node_room edge_room) refl
    where
      go : (o : Option Refusal) → refusal m t node_room edge_room ≡ o → 7 * edge_count (build m t node_room edge_room) ≤ length (build m t node_room edge_room).edges
      go none e =
          let a = accepted-when m t node_room edge_room e in
          let es : List Edge = edges_of_graph a.graph in
          let n : length (flat edge_record es) ≡ 7 * length a.graph.edges = flat-length edge_record 7 es (all_edges es) ∙ ap (λ (k : ℕ). 7 * k) (length-map a.graph.edges numbered) in
          rw (when-accepted m t node_room edge_room a e) (rw length-append (omega arith))
      go (some r) e = rw (when-refused m t node_room edge_room r e) (omega arith)

  pub made-within : (p : Bool) → 7 * edge_count (made p m t node_room edge_room) ≤ length (made p m t node_room edge_room).edges
  unfolding made build_answer
  made-within true = built-within
  made-within false = omega arith

  pub made-nodes : (p : Bool) → (made p m t node_room edge_room).nodes ≡ cond p (build m t node_room edge_room).nodes (zeros node_room)
  unfolding made
  made-nodes true = refl
  made-nodes false = refl

  pub made-edges : (p : Bool) → (made p m t node_room edge_room).edges ≡ cond p (build m t node_room edge_room).edges (zeros edge_room)
  unfolding made
  made-edges true = refl
  made-edges false = refl

-- the refusal of the threads that are present
pub first-is : (m count : ℕ) (tables : ℕ → List ℕ) (nodes edges : ℕ → ℕ) → count ≤ 4
    → first_refused (λ t. made (ltb t count) m (tables t) (nodes t) (edges t)) ≡ first_bad (λ t. refusal m (tables t) (nodes t) (edges t)) 0 count
unfolding made refused_by
first-is m count tables nodes edges h =
    up-to (λ t. refused_by (made (ltb t count) m (tables t) (nodes t) (edges t)).answer) (λ t. refusal m (tables t) (nodes t) (edges t)) 0 count 4 h
    (λ i l k. let j : i < count = omega arith in rw (lt-true i count j) (built-refusal m (tables i) (nodes i) (edges i)))
    (λ i l. let j : count ≤ i = omega arith in rw (lt-false i count j))

pub few_threads : (count : ℕ) → bad_threads count ≡ false → count ≤ 4
unfolding bad_threads
few_threads count e = false-lt 4 count (second (eqb count 0) (ltb 4 count) e)
  where
    second : (a b : Bool) → a || b ≡ false → b ≡ false
    second true b e = cc
    second false b e = e

-- What the whole answers and leaves, from what was built.
module _ (m count : ℕ) (tables : List (List ℕ)) (rooms : Rooms) where
  abbrev b : ℕ → Result
  b = made_for m count tables rooms

  pub bad-count : bad_threads count ≡ true → refused_in m count tables rooms ≡ some (record { thread = 0; refusal = R.BadThreads })
  unfolding threads_refused
  bad-count e = rw (e, threads_refused)

  pub threads-first : bad_threads count ≡ false → refused_in m count tables rooms ≡ first_refused b
  unfolding threads_refused
  threads-first few = sym (first-is m count (λ t. get_or tables t []) (node_room rooms) (edge_room rooms) (few_threads count few) ∙ rw (few, threads_refused))
