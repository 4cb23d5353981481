-- One accepted thread: its generated step, shown, is the buffered step of what is shown, and goes on being so.
use mathlib.Core.Path.{◌≡◌, ap, ◌∙◌, sym, subst}
use mathlib.Core.Option.{none, map, map-map}
use Prim.Native.Nat.{ℕ, ◌≤◌, ◌<◌}
use native.Mathlib.Omega.{arith}
use mathlib.Core.List.{List}
use lib.ListN.{length, get_or}
use Rattle.lists.proofs.Lists.{Holds, holds-imp, mem-get_or}
use Rattle.explore.specs.Explore.{Outcome}
use Rattle.thread.specs.declared.Op.{Op}
use Rattle.thread.specs.Sizes.{most_lines}
use Rattle.thread.specs.Table.{Prog, instr_at, lines_of}
use Rattle.checks.specs.Lines.{follows}
use Rattle.checks.specs.Checks.{model_of}
use Rattle.checks.proofs.Instructions.{good-var}
use Rattle.checks.proofs.Loops.{leads-inside}
use Rattle.checks.proofs.Given.{Admitted, admitted}
use Rattle.graphs.specs.Graph.{Standing, NodeEdges, begin, edges_of}
use Rattle.graphs.specs.Build.{cap_of, explored_by, graph_found, refusal_by, refusal, build_by, build, accepted, build_answer}
use Rattle.graphs.proofs.Waits.{Good, fresh}
use Rattle.graphs.proofs.Pending.{good}
use Rattle.graphs.proofs.Given.{AcceptedBy, Accepted, accepted-when}
use Rattle.graphs.proofs.Tables.{Among, built-by, fit-by}
use Rattle.graphs.proofs.TheGraph.{read_back}
use Rattle.runs.specs.Run.{In}
use Rattle.runs.proofs.Worlds.{within}
use Rattle.buffered.specs.Machine.{Buffered, buffered_step}
use Rattle.generated.specs.declared.Generated.{Generated}
use Rattle.generated.specs.Machine.{generated_step}
use Rattle.generated.specs.RunGenerated.{edge_table}
use Rattle.agree.proofs.Middle.{shows}
use Rattle.agree.proofs.Same.{Fresh, same_step}
use Rattle.agree.proofs.Numbers.{Linked, named, name_state, same-named, step_keeps}

-- what a generated thread shows as a buffered one, with its nodes by number
unfoldable pub view_by : Prog → List Standing → Generated → Buffered
unfolding shows named
view_by prog ns a = shows prog (named ns a)

-- the nodes of the graph of any edges, in number order
unfoldable pub nodes_by : NodeEdges → ℕ → List Standing
unfolding explored_by graph_found
nodes_by succ node_room = (graph_found (explored_by succ node_room)).nodes

module _ (succ : NodeEdges) (m : ℕ) (t : List ℕ) (node_room edge_room : ℕ) (a : AcceptedBy succ m t node_room edge_room) where
  pub nodes-by : nodes_by succ node_room ≡ a.graph.nodes
  unfolding nodes_by
  nodes-by = ap (λ (o : Outcome Standing Op). (graph_found o).nodes) a.found

  -- the edge table that is handed on holds the records of the graph
  pub linked-by : Among succ (model_of m) (instr_at t) → refusal_by succ m t node_room edge_room ≡ none → Linked succ (cap_of node_room) a.graph (edge_table (build_by succ m t node_room edge_room))
  unfolding edge_table accepted build_answer
  linked-by sub e = record { right = a.right; reads = rw (built-by succ m t node_room edge_room a e) (read_back node_room edge_room a.graph (fit-by succ m t node_room edge_room sub a)).edges }

-- The store buffer graph.
module _ (m : ℕ) (t : List ℕ) (node_room edge_room : ℕ) where
  abbrev pub nodes_of : List Standing
  nodes_of = nodes_by (edges_of (model_of m) (instr_at t)) node_room

  abbrev pub view : Generated → Buffered
  view = view_by (instr_at t) nodes_of

  -- what stays true of a generated thread
  pub record Alive (a : Generated) : Type 0 where
    pub free : refusal m t node_room edge_room ≡ none
    pub known : a.node.0 < length nodes_of
    pub room : most_lines ≤ length a.auxiliaries

  abbrev pub table : List ℕ
  table = edge_table (build m t node_room edge_room)

  pub nodes-are : (a : Accepted m t node_room edge_room) → nodes_of ≡ a.graph.nodes
  nodes-are = nodes-by (edges_of (model_of m) (instr_at t)) m t node_room edge_room

  linked : (a : Accepted m t node_room edge_room) → refusal m t node_room edge_room ≡ none → Linked (edges_of (model_of m) (instr_at t)) (cap_of node_room) a.graph table
  unfolding build
  linked a = linked-by (edges_of (model_of m) (instr_at t)) m t node_room edge_room a (λ s c n. n)

  module _ (s : In Generated) (g : Alive s.own) where
    acc : Accepted m t node_room edge_room
    acc = accepted-when m t node_room edge_room g.free

    ok : Admitted m t
    ok = admitted m t acc.free

    inside : s.own.node.0 < length acc.graph.nodes
    inside = subst (λ (l : List Standing). s.own.node.0 < length l) (nodes-are acc) g.known

    fresh-state : Fresh (instr_at t) (name_state acc.graph.nodes s)
    unfolding named
    fresh-state =
        let n : Standing = get_or acc.graph.nodes s.own.node.0 begin in
        let h : Good (instr_at t) n = good m t ok (model_of m) ((acc.right.nodes n).0 (mem-get_or acc.graph.nodes s.own.node.0 begin inside)) in
        record {
          inside = omega (arith, g.room, ok.few_lines, leads-inside (follows (instr_at t)) (lines_of t) ok.stays ok.some_lines h.reached);
          new = λ b. fresh (model_of m) (instr_at t) ok.fenced n.line n.waiting h.waits;
        }

    pub same-thread : (c : ℕ) → map (within view) (generated_step table c s) ≡ buffered_step (model_of m) (instr_at t) c (within view s)
    unfolding view_by named
    same-thread c =
        subst (λ (ns : List Standing). map (within (view_by (instr_at t) ns)) (generated_step table c s) ≡ buffered_step (model_of m) (instr_at t) c (within (view_by (instr_at t) ns) s)) (sym (nodes-are acc))
        (sym (map-map (within (shows (instr_at t))) (name_state acc.graph.nodes) (generated_step table c s))
        ∙ ap (map (within (shows (instr_at t)))) (same-named (edges_of (model_of m) (instr_at t)) (cap_of node_room) acc.graph table (linked acc g.free) c s inside)
        ∙ same_step (model_of m) (instr_at t) (λ l. good-var (instr_at t) l (ok.instrs l)) c (name_state acc.graph.nodes s) fresh-state)

    pub stays-alive : (c : ℕ) → Holds (λ r. Alive r.own) (generated_step table c s)
    stays-alive c =
        holds-imp (λ (r : In Generated). (r.own.node.0 < length acc.graph.nodes) × (length r.own.auxiliaries ≡ length s.own.auxiliaries)) (λ r. Alive r.own)
        (λ r h. record { free = g.free; known = rw (nodes-are acc) h.0; room = omega (arith, g.room, h.1) }) (generated_step table c s)
        (step_keeps (edges_of (model_of m) (instr_at t)) (cap_of node_room) acc.graph table (linked acc g.free) c s inside)
