-- A step along the numbered edge records is a step along the edges of the nodes that the numbers name.
use mathlib.Core.Path.{◌≡◌, refl, ap, ◌∙◌}
use mathlib.Core.Logic.{◌≢◌}
use mathlib.Core.Bool.{Bool, true, false, cond, ◌&&◌}
use mathlib.Core.Option
use mathlib.Core.Option.{Option, none, some}
use Prim.Native.Nat.{ℕ, zero, suc, ◌+◌, ◌<◌}
use native.Mathlib.Omega.{arith}
use mathlib.Core.List.{List, [], ◌∷◌, ◌++◌, map, map-append}
use lib.ListN.{length, get_or, length-set}
use lib.Dec.{eqb}
use Rattle.lists.specs.Lists.{All, first}
use Rattle.lists.proofs.Lists.{Holds, holds-map, holds-imp, all_of, all_first, first-append, first-left, mem-get_or}
use Rattle.lists.proofs.Tests.{eq-true, eq-false}
use Rattle.explore.specs.Explore.{Arc, Graph, Right, index_of, arc_edge, edges_from, reach_step}
use Rattle.thread.specs.declared.Node.{Node}
use Rattle.thread.specs.declared.Op.{Op}
use Rattle.thread.specs.declared.Op.TheVariants as O
use Rattle.thread.specs.Numbers.{◌!◌}
use Rattle.runs.specs.Run.{In}
use Rattle.graphs.specs.Graph.{Standing, NodeEdges, begin, system_of}
use Rattle.graphs.specs.declared.Edge.{Edge}
use Rattle.graphs.specs.Records.{node, numbered, edges_in}
use Rattle.generated.specs.declared.Generated.{Generated}
use Rattle.generated.specs.Machine.{serves, Values, act, follow, same_node, edge_for, generated_step}
use Rattle.agree.proofs.Middle.{Middle, follow_arc, test, step_along}

module _ (succ : NodeEdges) (cap : ℕ) (ns : List Standing) where
  abbrev pub name : Node → Standing
  name n = get_or ns n.0 begin

  abbrev numbered_arc : ℕ → Arc Standing Op → Edge
  numbered_arc i a = numbered (arc_edge (system_of succ cap) ns i a)

  module _ (c : ℕ) (R : List ℕ) (k : ℕ) where
    abbrev leaves : Edge → Bool
    leaves e = same_node e.from (node k) && serves c R e.op

    own_block : (ss : List (Arc Standing Op)) → first leaves (map numbered (map (arc_edge (system_of succ cap) ns k) ss)) ≡ Option.map (numbered_arc k) (first (test c R) ss)
    unfolding first
    own_block [] = refl
    own_block (s ∷ ss) = rw (eq-true k, own_block ss) (go (serves c R s.label))
      where
        go : (b : Bool) → cond b (some (numbered_arc k s)) (Option.map (numbered_arc k) (first (test c R) ss)) ≡ Option.map (numbered_arc k) (cond b (some s) (first (test c R) ss))
        go true = refl
        go false = refl

    other_block : (i : ℕ) → i ≢ k → (ss : List (Arc Standing Op)) → first leaves (map numbered (map (arc_edge (system_of succ cap) ns i) ss)) ≡ none
    unfolding first
    other_block i n [] = refl
    other_block i n (s ∷ ss) = rw (eq-false i k n, other_block i n ss)

    abbrev block : ℕ → Standing → List Edge
    block i x = map numbered (map (arc_edge (system_of succ cap) ns i) (succ x))

    abbrev rest : ℕ → List Standing → List Edge
    rest i xs = map numbered (edges_from (system_of succ cap) ns i xs)

    split : (i : ℕ) (x : Standing) (xs : List Standing) → rest i (x ∷ xs) ≡ block i x ++ rest (suc i) xs
    split i x xs = map-append numbered (map (arc_edge (system_of succ cap) ns i) (succ x)) (edges_from (system_of succ cap) ns (suc i) xs)

    later : (i : ℕ) (xs : List Standing) → k < i → first leaves (rest i xs) ≡ none
    unfolding first
    later i [] lt = refl
    later i (x ∷ xs) lt = ap (first leaves) (split i x xs) ∙ first-append leaves (block i x) (rest (suc i) xs) (other_block i (omega arith) (succ x)) ∙ later (suc i) xs (omega arith)

    -- the first record that leaves node k and serves the choice is that of the first of its edges
    pub found : (i j : ℕ) (xs : List Standing) → k ≡ i + j → j < length xs → first leaves (rest i xs) ≡ Option.map (numbered_arc k) (first (test c R) (succ (get_or xs j begin)))
    found i j [] e lt = absurd (omega arith)
    found i zero (x ∷ xs) e lt =
        let p : k ≡ i = omega arith in
        ap (first leaves) (split i x xs) ∙ first-left leaves (block i x) (rest (suc i) xs) (later (suc i) xs (omega arith)) ∙ rw (← p) (own_block (succ x))
    found i (suc j) (x ∷ xs) e lt =
        ap (first leaves) (split i x xs) ∙ first-append leaves (block i x) (rest (suc i) xs) (other_block i (omega arith) (succ x)) ∙ found (suc i) j xs (omega arith) (omega arith)

-- a thread's graph, and the edge table that holds its records
pub record Linked (succ : NodeEdges) (cap : ℕ) (g : Graph Standing Op) (table : List ℕ) : Type 0 where
  pub right : Right (system_of succ cap) g
  pub reads : edges_in table ≡ map numbered g.edges

-- the generated thread with its node by name
unfoldable pub named : List Standing → Generated → Middle
named ns a = record { standing = get_or ns a.node.0 begin; registers = a.registers; auxiliaries = a.auxiliaries }

-- no operation changes how many auxiliary values there are
aux-same : (b : Bool) (u v : Values) (n : ℕ) → length u.auxiliaries ≡ n → length v.auxiliaries ≡ n → length (cond b u v).auxiliaries ≡ n
aux-same true u v n p q = p
aux-same false u v n p q = q

pub act-length : (o : Op) (M R A : List ℕ) → length (act o M R A).auxiliaries ≡ length A
unfolding act
act-length (O.Set r v) M R A = refl
act-length (O.Copy r s) M R A = refl
act-length (O.Add r s t) M R A = refl
act-length (O.Sub r s t) M R A = refl
act-length (O.Load r x) M R A = refl
act-length (O.Take r l) M R A = refl
act-length (O.KeepR l r) M R A = length-set A l.0 (R ! r)
act-length (O.KeepC l v) M R A = length-set A l.0 v
act-length O.Pass M R A = refl
act-length (O.Cas r x s t) M R A = aux-same (eqb (M ! x) (R ! s)) _ _ (length A) refl refl
act-length (O.IfNz r) M R A = refl
act-length (O.IfZ r) M R A = refl
act-length (O.Put x l) M R A = refl

abbrev pub name_state : List Standing → In Generated → In Middle
name_state ns s = record { memory = s.memory; own = named ns s.own }

module _ (succ : NodeEdges) (cap : ℕ) (g : Graph Standing Op) (table : List ℕ) (ok : Linked succ cap g table) where
  abbrev arcs : ℕ → List (Arc Standing Op)
  arcs k = succ (get_or g.nodes k begin)

  abbrev to_edge : ℕ → Arc Standing Op → Edge
  to_edge k a = numbered_arc succ cap g.nodes k a

  -- the table's edge for a choice is that of the node's edges
  edge-for : (k c : ℕ) (R : List ℕ) → k < length g.nodes → edge_for (edges_in table) (node k) c R ≡ Option.map (to_edge k) (first (test c R) (arcs k))
  unfolding edge_for
  edge-for k c R lt = rw (ok.reads, ok.right.edges) (found succ cap g.nodes c R k 0 k g.nodes (omega arith) lt)

  -- an arc out of a known node leads to a known node
  Leads : Arc Standing Op → Type 0
  Leads a = (index_of (system_of succ cap) g.nodes a.target < length g.nodes) × (get_or g.nodes (index_of (system_of succ cap) g.nodes a.target) begin ≡ a.target)

  all-lead : (k : ℕ) → k < length g.nodes → All Leads (arcs k)
  unfolding Leads
  all-lead k lt = all_of Leads (arcs k) (λ a n. ok.right.numbered a.target (reach_step ((ok.right.nodes (get_or g.nodes k begin)).0 (mem-get_or g.nodes k begin lt)) n))

  follow-named : (s : In Generated) (k : ℕ) (o : Option (Arc Standing Op)) → Holds Leads o
      → Option.map (name_state g.nodes) (Option.map (follow s) (Option.map (to_edge k) o)) ≡ Option.map (follow_arc (name_state g.nodes s)) o
  unfolding Leads follow follow_arc named
  follow-named s k none h = refl
  follow-named s k (some a) h = rw h.1

  -- the step along the records is the step along the edges
  pub same-named : (c : ℕ) (s : In Generated) → s.own.node.0 < length g.nodes → Option.map (name_state g.nodes) (generated_step table c s) ≡ step_along succ c (name_state g.nodes s)
  unfolding generated_step step_along named
  same-named c s lt =
      let k = s.own.node.0 in
      let R = s.own.registers in
      rw (edge-for k c R lt) (follow-named s k (first (test c R) (arcs k)) (all_first Leads (test c R) (arcs k) (all-lead k lt)))

  -- it leads to a known node, and keeps the auxiliary values
  pub step_keeps : (c : ℕ) (s : In Generated) → s.own.node.0 < length g.nodes
      → Holds (λ (r : In Generated). (r.own.node.0 < length g.nodes) × (length r.own.auxiliaries ≡ length s.own.auxiliaries)) (generated_step table c s)
  unfolding generated_step follow Leads
  step_keeps c s lt =
      let k = s.own.node.0 in
      let R = s.own.registers in
      let o = first (test c R) (arcs k) in
      let P : In Generated → Type 0 = λ r. (r.own.node.0 < length g.nodes) × (length r.own.auxiliaries ≡ length s.own.auxiliaries) in
      rw (edge-for k c R lt)
      (holds-map P (follow s) (Option.map (to_edge k) o)
      (holds-map (λ e. P (follow s e)) (to_edge k) o
      (holds-imp Leads (λ a. P (follow s (to_edge k a))) (λ a h. (h.0, act-length a.label s.memory R s.own.auxiliaries)) o
      (all_first Leads (test c R) (arcs k) (all-lead k lt)))))
