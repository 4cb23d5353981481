-- The records that the builder leaves stand in the order of their nodes, with counts and operations in range: they can be printed.
use Rattle.graphs.proofs.Answers.{same-counts}
use Rattle.std.specs.Prelude.{Ok}
use mathlib.Core.Path.{◌≡◌, refl, sym, ap, ◌∙◌}
use Prim.Native.Nat.{ℕ, zero, suc, ◌+◌, ◌-◌, ◌*◌, ◌/◌, ◌≤◌, ◌<◌}
use native.Mathlib.Nat.{min-le_right}
use native.Mathlib.Decide.{dec_lt}
use native.Mathlib.Omega.{arith}
use mathlib.Core.Option.{none}
use mathlib.Core.List.{List, [], ◌∷◌, ◌++◌, map}
use lib.ListN.{length, get_or, length-append, length-map, get_or-map}
use lib.Seq.{get_or-drop}
use lib.Dec.{lit≤}
use Rattle.lists.specs.Lists.{All}
use Rattle.lists.proofs.Lists.{mem-get_or, all-at}
use Rattle.explore.specs.Explore.{Arc, System, Link, Graph, arc_edge, edges_from}
use Rattle.thread.specs.declared.Op.{Op}
use Rattle.thread.specs.declared.Op.TheVariants as O
use Rattle.thread.specs.Sizes.{most_waiting, most_nodes, node_width}
use Rattle.thread.specs.Numbers.{◌!◌, zeros, filled}
use Rattle.thread.specs.Operation.{op_numbers}
use Rattle.thread.specs.Table.{instr_at}
use Rattle.checks.specs.Checks.{model_of}
use Rattle.checks.proofs.Given.{Admitted, admitted}
use Rattle.graphs.specs.declared.Edge.{Edge}
use Rattle.graphs.specs.Graph.{Standing, begin, graph_system}
use Rattle.graphs.specs.Records.{line_number, numbered, node_record, edge_record, flat}
use Rattle.graphs.specs.Build.{counted, Result, refusal, cap_of, accepted, build}
use Rattle.graphs.proofs.Records.{flat-length, at-record, all-nodes, node-width, all_edges, edge-width}
use Rattle.graphs.proofs.TheGraph.{Fit}
use Rattle.graphs.proofs.Given.{Accepted, accepted-when}
use Rattle.graphs.proofs.Tables.{fit, when-accepted, counts-true}
use Rattle.printed.specs.IsGraph.{IsGraph}
use Rattle.printed.specs.Room.{room_nodes, room_edges, node_room, edge_room}
use Rattle.printed.specs.Graph.{field_count}
use Rattle.printed.specs.SameGraph.{UnusedZero}
use Rattle.printed.proofs.Area.{room-enough}
use Rattle.printed.proofs.Records.{records-back, all-fields}
use Rattle.printable.specs.Printable.{BuiltIsGraph, AlwaysWritten, BuiltReadBack}

-- edges node after node
module _ {A L : Type 0} (S : System A L) (ns : List A) (d : Link L) where
  abbrev from_at : ℕ → List A → ℕ → ℕ
  from_at k xs i = (get_or (edges_from S ns k xs) i d).from

  first_part : (k : ℕ) (ss : List (Arc A L)) (rest : List (Link L)) (i : ℕ) → i < length ss → (get_or (map (arc_edge S ns k) ss ++ rest) i d).from ≡ k
  first_part k [] rest i h = absurd (omega arith)
  first_part k (s ∷ ss) rest zero h = refl
  first_part k (s ∷ ss) rest (suc i) h = first_part k ss rest i (omega arith)

  second-part : (k : ℕ) (ss : List (Arc A L)) (rest : List (Link L)) (i : ℕ) → length ss ≤ i → get_or (map (arc_edge S ns k) ss ++ rest) i d ≡ get_or rest (i - length ss) d
  second-part k [] rest i h = let a : i - 0 ≡ i = omega arith in rw a
  second-part k (s ∷ ss) rest zero h = absurd (omega arith)
  second-part k (s ∷ ss) rest (suc i) h = let a : suc i - suc (length ss) ≡ i - length ss = omega arith in rw a (second-part k ss rest i (omega arith))

  later : (k : ℕ) (x : A) (xs : List A) (i : ℕ) → length (S.succ x) ≤ i → from_at k (x ∷ xs) i ≡ from_at (suc k) xs (i - length (S.succ x))
  later k x xs i h = ap (λ (e : Link L). e.from) (second-part k (S.succ x) (edges_from S ns (suc k) xs) i h)

  parts-length : (k : ℕ) (x : A) (xs : List A) → length (edges_from S ns k (x ∷ xs)) ≡ length (S.succ x) + length (edges_from S ns (suc k) xs)
  parts-length k x xs = length-append (map (arc_edge S ns k) (S.succ x)) (edges_from S ns (suc k) xs) ∙ ap (λ (i : ℕ). i + length (edges_from S ns (suc k) xs)) (length-map (S.succ x) (arc_edge S ns k))

  from-range : (k : ℕ) (xs : List A) (i : ℕ) → i < length (edges_from S ns k xs) → (k ≤ from_at k xs i) × (from_at k xs i < k + length xs)
  from-range k [] i h = absurd (omega arith)
  from-range k (x ∷ xs) i h = go (from-range (suc k) xs (i - length (S.succ x))) (dec_lt i (length (S.succ x)))
    where
      go : (i - length (S.succ x) < length (edges_from S ns (suc k) xs) → (suc k ≤ from_at (suc k) xs (i - length (S.succ x))) × (from_at (suc k) xs (i - length (S.succ x)) < suc k + length xs))
          → Dec (i < length (S.succ x)) → (k ≤ from_at k (x ∷ xs) i) × (from_at k (x ∷ xs) i < k + suc (length xs))
      go ih (yes s) = let q : from_at k (x ∷ xs) i ≡ k = first_part k (S.succ x) (edges_from S ns (suc k) xs) i s in (omega arith, omega arith)
      go ih (no s) =
          let r = ih (omega (arith, parts-length k x xs)) in
          let a = r.0 in
          let b = r.1 in
          let q : from_at k (x ∷ xs) i ≡ from_at (suc k) xs (i - length (S.succ x)) = later k x xs i (omega arith) in
          (omega arith, omega arith)

  from-order : (k : ℕ) (xs : List A) (i j : ℕ) → i ≤ j → j < length (edges_from S ns k xs) → from_at k xs i ≤ from_at k xs j
  from-order k [] i j g h = absurd (omega arith)
  from-order k (x ∷ xs) i j g h =
      go (from-range k (x ∷ xs) j h).0 (from-order (suc k) xs (i - length (S.succ x)) (j - length (S.succ x))) (dec_lt i (length (S.succ x)))
    where
      go : k ≤ from_at k (x ∷ xs) j
          → (i - length (S.succ x) ≤ j - length (S.succ x) → j - length (S.succ x) < length (edges_from S ns (suc k) xs) → from_at (suc k) xs (i - length (S.succ x)) ≤ from_at (suc k) xs (j - length (S.succ x)))
          → Dec (i < length (S.succ x)) → from_at k (x ∷ xs) i ≤ from_at k (x ∷ xs) j
      go low ih (yes s) = let q : from_at k (x ∷ xs) i ≡ k = first_part k (S.succ x) (edges_from S ns (suc k) xs) i s in omega arith
      go low ih (no s) =
          let q : from_at k (x ∷ xs) i ≡ from_at (suc k) xs (i - length (S.succ x)) = later k x xs i (omega arith) in
          let r : from_at k (x ∷ xs) j ≡ from_at (suc k) xs (j - length (S.succ x)) = later k x xs j (omega arith) in
          omega (arith, ih (omega arith) (omega (arith, parts-length k x xs)))

-- operations are 0 to 12
op-most : (o : Op) → op_numbers o ! 0 ≤ 12
unfolding op_numbers
op-most (O.Set r v) = lit≤ tt
op-most (O.Copy r s) = lit≤ tt
op-most (O.Add r s t) = lit≤ tt
op-most (O.Sub r s t) = lit≤ tt
op-most (O.Load r x) = lit≤ tt
op-most (O.Take r l) = lit≤ tt
op-most (O.KeepR l r) = lit≤ tt
op-most (O.KeepC l v) = lit≤ tt
op-most O.Pass = lit≤ tt
op-most (O.Cas r x s t) = lit≤ tt
op-most (O.IfNz r) = lit≤ tt
op-most (O.IfZ r) = lit≤ tt
op-most (O.Put x l) = lit≤ tt

-- stands past the end of a list of edges
abbrev no_link : Link Op
no_link = record { from = 0; to = 0; label = O.Pass }

filled_more : (room : ℕ) (l : List ℕ) → length l ≤ length (filled room l)
unfolding filled
filled_more room l = rw (length-append l (zeros (room - length l))) (omega arith)

module _ (es : List (Link Op)) (room : ℕ) where
  edge-number : (j i : ℕ) → j < length es → i < 7 → filled room (flat edge_record (map numbered es)) ! (7 * j + i) ≡ edge_record (numbered (get_or es j no_link)) ! i
  unfolding filled
  edge-number j i h l =
      let ms : List Edge = map numbered es in
      let n : length ms ≡ length es = length-map es numbered in
      let e : get_or ms j (numbered no_link) ≡ numbered (get_or es j no_link) = get_or-map numbered es j no_link in
      at-record edge_record 7 ms (zeros (room - length (flat edge_record ms))) (numbered no_link) (all_edges ms) j i (omega arith) (rw (edge-width (get_or ms j (numbered no_link))) l)
      ∙ ap (λ (x : Edge). edge_record x ! i) e

  edge-from : (j : ℕ) → j < length es → filled room (flat edge_record (map numbered es)) ! (7 * j) ≡ (get_or es j no_link).from
  unfolding edge_record
  edge-from j h = let a : 7 * j + 0 ≡ 7 * j = omega arith in rw a at (edge-number j 0 h (omega arith))

  edge-op : (j : ℕ) → j < length es → filled room (flat edge_record (map numbered es)) ! (7 * j + 2) ≤ 12
  unfolding edge_record
  edge-op j h = rw (edge-number j 2 h (omega arith)) (op-most (get_or es j no_link).label)

  edges-there : 7 * length es ≤ length (filled room (flat edge_record (map numbered es)))
  edges-there = omega (arith, filled_more room (flat edge_record (map numbered es)), flat-length edge_record 7 (map numbered es) (all_edges (map numbered es)), length-map es numbered)

module _ (ns : List Standing) (room : ℕ) (few : All (λ (s : Standing). length s.waiting ≤ most_waiting) ns) where
  node-count : (k : ℕ) → k < length ns → filled room (flat node_record ns) ! (18 * k + 1) ≤ 16
  unfolding filled node_record
  node-count k h =
      let s : Standing = get_or ns k begin in
      let f : length s.waiting ≤ most_waiting = all-at (λ (s : Standing). length s.waiting ≤ most_waiting) (mem-get_or ns k begin h) few in
      rw (at-record node_record 18 ns (zeros (room - length (flat node_record ns))) begin (all-nodes ns few) k 1 h (rw (node-width s f) (omega arith))) f

  nodes-there : 18 * length ns ≤ length (filled room (flat node_record ns))
  nodes-there = omega (arith, filled_more room (flat node_record ns), flat-length node_record 18 ns (all-nodes ns few))

-- unused numbers are 0
no_number : (l : List ℕ) (n i : ℕ) → length l ≤ i → (l ++ zeros n) ! i ≡ 0
no_number [] zero i h = refl
no_number [] (suc n) zero h = refl
no_number [] (suc n) (suc i) h = no_number [] n i (omega arith)
no_number (x ∷ l) n zero h = absurd (omega arith)
no_number (x ∷ l) n (suc i) h = no_number l n i (omega arith)

op-unused : (o : Op) (i : ℕ) → field_count (op_numbers o ! 0) ≤ i → op_numbers o ! suc i ≡ 0
op-unused o i h =
    let c : ℕ = field_count (op_numbers o ! 0) in
    let q : suc c + (i - c) ≡ suc i = omega arith in
    ap (λ (k : ℕ). op_numbers o ! k) (sym q)
    ∙ sym (get_or-drop (suc c) (op_numbers o) (i - c) 0)
    ∙ ap (λ (l : List ℕ). l ! (i - c)) (all-fields o)
    ∙ no_number [] (4 - c) (i - c) (omega arith)

module _ (es : List (Link Op)) (room : ℕ) where
  edge-unused : (j i : ℕ) → j < length es → field_count (filled room (flat edge_record (map numbered es)) ! (7 * j + 2)) ≤ i → i < 4
      → filled room (flat edge_record (map numbered es)) ! (7 * j + 3 + i) ≡ 0
  unfolding edge_record
  edge-unused j i h f l =
      let o : Op = (get_or es j no_link).label in
      let e : filled room (flat edge_record (map numbered es)) ! (7 * j + 2) ≡ op_numbers o ! 0 = edge-number es room j 2 h (omega arith) in
      let a : 7 * j + 3 + i ≡ 7 * j + suc (suc (suc i)) = omega arith in
      rw a (edge-number es room j (suc (suc (suc i))) h (omega arith) ∙ op-unused o i (rw e at f))

module _ (ns : List Standing) (room : ℕ) (few : All (λ (s : Standing). length s.waiting ≤ most_waiting) ns) where
  node-number : (k i : ℕ) → k < length ns → i < 18 → filled room (flat node_record ns) ! (18 * k + i) ≡ node_record (get_or ns k begin) ! i
  unfolding filled
  node-number k i h l =
      let s : Standing = get_or ns k begin in
      let f : length s.waiting ≤ most_waiting = all-at (λ (s : Standing). length s.waiting ≤ most_waiting) (mem-get_or ns k begin h) few in
      at-record node_record 18 ns (zeros (room - length (flat node_record ns))) begin (all-nodes ns few) k i h (rw (node-width s f) l)

  node-unused : (k i : ℕ) → k < length ns → filled room (flat node_record ns) ! (18 * k + 1) ≤ i → i < 16
      → filled room (flat node_record ns) ! (18 * k + 2 + i) ≡ 0
  unfolding node_record filled
  node-unused k i h f l =
      let s : Standing = get_or ns k begin in
      let w : List ℕ = map line_number s.waiting in
      let e : filled room (flat node_record ns) ! (18 * k + 1) ≡ length s.waiting = node-number k 1 h (omega arith) in
      let a : 18 * k + 2 + i ≡ 18 * k + suc (suc i) = omega arith in
      let n : length w ≤ i = omega (arith, length-map s.waiting line_number) in
      rw a (node-number k (suc (suc i)) h (omega arith) ∙ no_number w (most_waiting - length w) i n)

module _ (model : ℕ) (t : List ℕ) (node_room edge_room : ℕ) (a : Accepted model t node_room edge_room) where
  abbrev its : Graph Standing Op
  its = a.graph

  abbrev its-system : System Standing Op
  its-system = graph_system (model_of model) (instr_at t) (cap_of node_room)

  edge-range : (j : ℕ) → j < length its.edges → (get_or its.edges j no_link).from < length its.nodes
  edge-range j h =
      let e : its.edges ≡ edges_from its-system its.nodes 0 its.nodes = a.right.edges in
      let r = (from-range its-system its.nodes no_link 0 its.nodes j (rw e at h)).1 in
      let q : (get_or its.edges j no_link).from ≡ from_at its-system its.nodes no_link 0 its.nodes j = ap (λ (es : List (Link Op)). (get_or es j no_link).from) e in
      omega arith

  edge_order : (i j : ℕ) → i ≤ j → j < length its.edges → (get_or its.edges i no_link).from ≤ (get_or its.edges j no_link).from
  edge_order i j g h =
      let e : its.edges ≡ edges_from its-system its.nodes 0 its.nodes = a.right.edges in
      let r = from-order its-system its.nodes no_link 0 its.nodes i j g (rw e at h) in
      let q : (get_or its.edges i no_link).from ≡ from_at its-system its.nodes no_link 0 its.nodes i = ap (λ (es : List (Link Op)). (get_or es i no_link).from) e in
      let p : (get_or its.edges j no_link).from ≡ from_at its-system its.nodes no_link 0 its.nodes j = ap (λ (es : List (Link Op)). (get_or es j no_link).from) e in
      omega arith

  accepted-is-graph : IsGraph model (length its.nodes) (length its.edges) (filled node_room (flat node_record its.nodes)) (filled edge_room (flat edge_record (map numbered its.edges)))
  accepted-is-graph =
      let f : Fit its = fit model t node_room edge_room a in
      let ok : Admitted model t = admitted model t a.free in
      record {
        known = ok.model;
        nodes = nodes-there its.nodes node_room f.few;
        edges = edges-there its.edges edge_room;
        counts = λ k h. node-count its.nodes node_room f.few k h;
        ops = λ j h. edge-op its.edges edge_room j h;
        froms = λ j h. rw (edge-from its.edges edge_room j h) (edge-range j h);
        order = λ i j g h. rw (edge-from its.edges edge_room i (omega arith), edge-from its.edges edge_room j h) (edge_order i j g h);
      }

  accepted-unused : UnusedZero (length its.nodes) (length its.edges) (filled node_room (flat node_record its.nodes)) (filled edge_room (flat edge_record (map numbered its.edges)))
  accepted-unused =
      let f : Fit its = fit model t node_room edge_room a in
      record {
        nodes = λ k i h c l. node-unused its.nodes node_room f.few k i h c l;
        edges = λ j i h c l. edge-unused its.edges edge_room j i h c l;
      }

pub built-is-graph : BuiltIsGraph
unfolding accepted
built-is-graph model t node_room edge_room n m e g =
    let a : Accepted model t node_room edge_room = accepted-when model t node_room edge_room e in
    let c : Ok (counted n m) ≡ Ok (counted (length a.graph.nodes) (length a.graph.edges)) = sym g ∙ counts-true model t node_room edge_room a e in
    let p : n ≡ length a.graph.nodes = (same-counts c).0 in
    let q : m ≡ length a.graph.edges = (same-counts c).1 in
    rw (p, q, when-accepted model t node_room edge_room a e) (accepted-is-graph model t node_room edge_room a)

pub always-written : AlwaysWritten
always-written model t n m room e g small-nodes small-edges r =
    let a : Accepted model t node_room edge_room = accepted-when model t node_room edge_room e in
    let built : Result = build model t node_room edge_room in
    let c : Ok (counted n m) ≡ Ok (counted (length a.graph.nodes) (length a.graph.edges)) = sym g ∙ counts-true model t node_room edge_room a e in
    let p : n ≡ length a.graph.nodes = (same-counts c).0 in
    let q : m ≡ length a.graph.edges = (same-counts c).1 in
    let few-nodes : n ≤ room_nodes = omega (arith, a.right.fits, min-le_right most_nodes (node_room / node_width)) in
    let few-edges : m ≤ room_edges = omega (arith, a.fits) in
    room-enough model n m built.nodes built.edges small-nodes small-edges (built-is-graph model t node_room edge_room n m e g) few-nodes few-edges room r

built-unused : (model : ℕ) (t : List ℕ) (a b n m : ℕ) → refusal model t a b ≡ none → (build model t a b).answer ≡ Ok (counted n m)
    → UnusedZero n m (build model t a b).nodes (build model t a b).edges
unfolding accepted
built-unused model t node_room edge_room n m e g =
    let a : Accepted model t node_room edge_room = accepted-when model t node_room edge_room e in
    let c : Ok (counted n m) ≡ Ok (counted (length a.graph.nodes) (length a.graph.edges)) = sym g ∙ counts-true model t node_room edge_room a e in
    let p : n ≡ length a.graph.nodes = (same-counts c).0 in
    let q : m ≡ length a.graph.edges = (same-counts c).1 in
    rw (p, q, when-accepted model t node_room edge_room a e) (accepted-unused model t node_room edge_room a)

pub built-read-back : BuiltReadBack
built-read-back model t a b n m model' t' a' b' n' m' e e' g g' same =
    let r : Result = build model t a b in
    let r' : Result = build model' t' a' b' in
    records-back model n m r.nodes r.edges model' n' m' r'.nodes r'.edges
    (built-is-graph model t a b n m e g) (built-is-graph model' t' a' b' n' m' e' g') (built-unused model t a b n m e g) (built-unused model' t' a' b' n' m' e' g') same
