-- Law L9: the demands are not empty. A refusal that is given, a graph that is built, threads that are accepted; and the lost edge itself.
use Rattle.std.specs.Prelude.{Ok}
use mathlib.Core.Path.{◌≡◌, refl}
use Prim.Native.Nat.{ℕ, zero, suc, ◌<◌}
use native.Mathlib.Omega.{arith}
use mathlib.Core.List.{List, [], ◌∷◌, Memᴰ}
use lib.ListN.{get_or}
use Rattle.lists.proofs.Lists.{mem-get_or}
use Rattle.thread.specs.declared.Op.TheVariants as O
use Rattle.thread.specs.declared.Refusal.TheVariants as R
use Rattle.thread.specs.Table.{line, instr_at}
use Rattle.checks.specs.Checks.{model_of, bad_model, no_lines, too_many_lines, ragged_table, bad_field, too_many_stores, bad_target, no_next, unfenced_loop}
use Rattle.graphs.specs.Build.{build, build_answer}
use Rattle.graphs.specs.declared.Edge.{Edge}
use Rattle.graphs.specs.Records.{node, node_at, edges_in}
use Rattle.graphs.specs.Given.{GivenBuild}
use Rattle.graphs.specs.TheGraph.{TheGraph, first_edges}
use Rattle.runs.specs.Shown.{nobody}
use Rattle.generated.specs.RunGenerated.{built_for, run_generated}
use Rattle.agree.specs.Demands.{AllAccepted, Agree}
use Rattle.agree.specs.Known.{node_room_of, edge_room_of, start_of, rooms_of}
use Rattle.agree.proofs.Demands.{all-demands}

-- two stores to two variables: P3 and P4
abbrev two : List ℕ
two = 6 ∷ 0 ∷ 7 ∷ 0 ∷ 0 ∷ 6 ∷ 1 ∷ 1 ∷ 0 ∷ 0 ∷ 11 ∷ 0 ∷ 0 ∷ 0 ∷ 0 ∷ []

-- a store and a jump back to it: P7
abbrev loop : List ℕ
loop = 6 ∷ 0 ∷ 1 ∷ 0 ∷ 0 ∷ 10 ∷ 0 ∷ 0 ∷ 0 ∷ 0 ∷ []

-- demand 1: a refusal that is given
pub given-once : GivenBuild 1 loop node_room_of edge_room_of (R.UnfencedLoop (line 0))
unfolding build bad_model no_lines too_many_lines ragged_table bad_field too_many_stores bad_target no_next unfenced_loop
given-once = ((all-demands.refusals 1 loop node_room_of edge_room_of).refused (R.UnfencedLoop (line 0))).0 refl

-- demand 2: a graph that is built
pub built-once : TheGraph (model_of 1) (instr_at two) 7 8 (build 1 two node_room_of edge_room_of).nodes (build 1 two node_room_of edge_room_of).edges
unfolding build bad_model no_lines too_many_lines ragged_table bad_field too_many_stores bad_target no_next unfenced_loop
built-once = all-demands.graphs 1 two node_room_of edge_room_of 7 8 refl

-- the lost edge: at node 2 both stores wait, and the later one reaches memory while the earlier one goes on waiting
abbrev lost : Edge
lost = record { from = node 2; to = node 5; op = O.Put 1 (line 1) }

pub lost-edge-built : Memᴰ lost (first_edges 8 (build 1 two node_room_of edge_room_of).edges)
unfolding build edges_in bad_model no_lines too_many_lines ragged_table bad_field too_many_stores bad_target no_next unfenced_loop
lost-edge-built = mem-get_or (first_edges 8 (build 1 two node_room_of edge_room_of).edges) 4 lost (omega arith)

pub lost-edge-nodes : (node_at (build 1 two node_room_of edge_room_of).nodes (node 2) ≡ record { line = line 2; waiting = line 0 ∷ line 1 ∷ [] })
    × (node_at (build 1 two node_room_of edge_room_of).nodes (node 5) ≡ record { line = line 2; waiting = line 0 ∷ [] })
unfolding build node_at bad_model no_lines too_many_lines ragged_table bad_field too_many_stores bad_target no_next unfenced_loop
lost-edge-nodes = (refl, refl)

-- demand 3: threads that are accepted, and a schedule that takes that edge
abbrev schedule : List ℕ
schedule = 0 ∷ 0 ∷ 0 ∷ 0 ∷ 0 ∷ 2 ∷ []

pub accepted-once : AllAccepted (start_of 1 two two schedule) rooms_of
unfolding start_of rooms_of built_for build build_answer bad_model no_lines too_many_lines ragged_table bad_field too_many_stores bad_target no_next unfenced_loop
accepted-once = record { some_threads = omega arith; few_threads = omega arith; accepted = each }
  where
    each : (t : ℕ) → t < 2 → (build_answer (built_for (start_of 1 two two schedule) rooms_of t).answer).number ≡ 0
    each zero h = refl
    each (suc zero) h = refl
    each (suc (suc t)) h = absurd (omega arith)

pub agreed-once : Agree (start_of 1 two two schedule) rooms_of
agreed-once = (all-demands.runs (start_of 1 two two schedule) rooms_of accepted-once).0

pub lost-edge-taken : ((run_generated (start_of 1 two two schedule) rooms_of).ended ≡ Ok 3)
    × ((get_or (run_generated (start_of 1 two two schedule) rooms_of).state.threads 0 nobody).count ≡ 1)
    × (get_or (get_or (run_generated (start_of 1 two two schedule) rooms_of).state.threads 0 nobody).names 0 9 ≡ 0)
    × (get_or (run_generated (start_of 1 two two schedule) rooms_of).state.memory 1 9 ≡ 1)
unfolding start_of rooms_of run_generated bad_model no_lines too_many_lines ragged_table bad_field too_many_stores bad_target no_next unfenced_loop
lost-edge-taken = (refl, refl, refl, refl)
