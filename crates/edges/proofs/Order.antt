-- Built tables stand in the order of their nodes.
use mathlib.Core.Path.{◌≡◌, sym, ap, subst, ◌∙◌}
use mathlib.Core.Option.{none}
use mathlib.Core.List.{List, [], ◌∷◌, ◌++◌, map, map-append, append-nil}
use Prim.Native.Nat.{ℕ, zero, suc, ◌+◌, ◌*◌, ◌≤◌, ◌<◌}
use native.Mathlib.Nat.{add-zero, mul-div_cancel_left}
use native.Mathlib.Omega.{arith}
use lib.ListN.{length, get_or, take, length-map}
use Rattle.explore.specs.Explore.{Arc, System, Graph, arc_edge, edges_from}
use Rattle.thread.specs.declared.Op.{Op}
use Rattle.thread.specs.Numbers.{◌!◌, filled}
use Rattle.thread.specs.Table.{instr_at}
use Rattle.checks.specs.Checks.{model_of}
use Rattle.graphs.specs.declared.Edge.{Edge}
use Rattle.graphs.specs.Graph.{Standing, graph_system}
use Rattle.graphs.specs.Records.{numbered, edge_record, flat, records_in}
use Rattle.graphs.specs.Build.{Result, cap_of, edges_of_graph, refusal, build, accepted, build_answer}
use Rattle.graphs.proofs.Given.{accepted-when}
use Rattle.graphs.proofs.Tables.{when-accepted}
use Rattle.graphs.proofs.Records.{take-filled, flat-length, at-record, edge-width, all_edges}
use Rattle.generated.specs.RunGenerated.{edge_table}
use Rattle.edges.specs.Sought.{from_at, Sorted}

-- each edge leaves no lower node than b, nor than the edge before it
abbrev Rises : ℕ → List Edge → Type 0
Rises b [] = Unit {0}
Rises b (e ∷ es) = (b ≤ e.from.0) × Rises e.from.0 es

weaken : (a b : ℕ) (es : List Edge) → a ≤ b → Rises b es → Rises a es
weaken a b [] h r = tt
weaken a b (e ∷ es) h r = let l = r.0 in (omega arith, r.1)

module _ {A : Type 0} (S : System A Op) (ns : List A) where
  level : (k : ℕ) (ss : List (Arc A Op)) (es : List Edge) → Rises k es → Rises k (map numbered (map (arc_edge S ns k) ss) ++ es)
  level k [] es r = r
  level k (s ∷ ss) es r = (omega arith, level k ss es r)

  rises : (k : ℕ) (xs : List A) → Rises k (map numbered (edges_from S ns k xs))
  rises k [] = tt
  rises k (x ∷ xs) =
      let later = map numbered (edges_from S ns (suc k) xs) in
      rw (map-append numbered (map (arc_edge S ns k) (S.succ x)) (edges_from S ns (suc k) xs))
      (level k (S.succ x) later (weaken k (suc k) later (omega arith) (rises (suc k) xs)))

above : (b : ℕ) (es : List Edge) (d : Edge) (j : ℕ) → Rises b es → j < length es → b ≤ (get_or es j d).from.0
above b [] d j r h = absurd (omega arith)
above b (e ∷ es) d zero r h = r.0
above b (e ∷ es) d (suc j) r h = let l = above e.from.0 es d j r.1 (omega arith) in let g = r.0 in omega arith

ordered : (b : ℕ) (es : List Edge) (d : Edge) (i j : ℕ) → Rises b es → i ≤ j → j < length es → (get_or es i d).from.0 ≤ (get_or es j d).from.0
ordered b [] d i j r h l = absurd (omega arith)
ordered b (e ∷ es) d zero zero r h l = omega arith
ordered b (e ∷ es) d zero (suc j) r h l = above e.from.0 es d j r.1 (omega arith)
ordered b (e ∷ es) d (suc i) zero r h l = absurd (omega arith)
ordered b (e ∷ es) d (suc i) (suc j) r h l = ordered e.from.0 es d i j r.1 (omega arith) (omega arith)

from-read : (es : List Edge) (d : Edge) (k : ℕ) → k < length es → from_at (flat edge_record es) k ≡ (get_or es k d).from.0
unfolding edge_record
from-read es d k h =
    let at : (flat edge_record es ++ []) ! (7 * k + 0) ≡ edge_record (get_or es k d) ! 0 = at-record edge_record 7 es [] d (all_edges es) k 0 h (rw (edge-width (get_or es k d)) (omega arith)) in
    rw (append-nil, add-zero) at at

records-read : (es : List Edge) → records_in 7 (flat edge_record es) ≡ length es
records-read es = rw (flat-length edge_record 7 es (all_edges es)) (mul-div_cancel_left (length es) (omega arith))

sorted-flat : (es : List Edge) → Rises 0 es → Sorted (flat edge_record es)
sorted-flat [] r i j h l = absurd (omega (arith, records-read []))
sorted-flat (e ∷ es) r i j h l =
    let n = records-read (e ∷ es) in
    let lj : j < length (e ∷ es) = omega arith in
    rw (from-read (e ∷ es) e i (omega arith), from-read (e ∷ es) e j lj) (ordered 0 (e ∷ es) e i j r h lj)

-- the edge table that the builder leaves
pub sorted-built : (m : ℕ) (t : List ℕ) (node_room edge_room : ℕ) → refusal m t node_room edge_room ≡ none → Sorted (edge_table (build m t node_room edge_room))
unfolding edge_table accepted build_answer
sorted-built m t node_room edge_room e =
    let a = accepted-when m t node_room edge_room e in
    let g : Graph Standing Op = a.graph in
    let es : List Edge = edges_of_graph g in
    let n : length (flat edge_record es) ≡ 7 * length g.edges = flat-length edge_record 7 es (all_edges es) ∙ ap (λ (k : ℕ). 7 * k) (length-map g.edges numbered) in
    let front : take (7 * length g.edges) (filled edge_room (flat edge_record es)) ≡ flat edge_record es = rw (← n) (take-filled edge_room (flat edge_record es)) in
    let r : Rises 0 es = rw a.right.edges (rises (graph_system (model_of m) (instr_at t) (cap_of node_room)) g.nodes 0 g.nodes) in
    let s : Sorted (take (7 * length g.edges) (filled edge_room (flat edge_record es))) = rw front (sorted-flat es r) in
    subst (λ (b : Result). Sorted (edge_table b)) (sym (when-accepted m t node_room edge_room a e)) s
