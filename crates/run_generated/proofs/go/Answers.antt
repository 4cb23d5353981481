-- `go` does the schedule by the edge records built, and shows where the run stands.
use mathlib.Core.Path.{◌≡◌, refl, subst, ◌∙◌}
use mathlib.Core.List.{List, [], ◌∷◌}
use Prim.Native.Nat.{ℕ}
use native.Mathlib.Omega.{arith}
use lib.ListN.{length, get_or}
use lib.Seq.{length-take-le}
use Rattle.lists.specs.Slices.{contents}
use Rattle.lists.proofs.Slices.{content-at}
use Rattle.runs.specs.Run.{items, run}
use Rattle.runs.specs.Machine.{Led}
use Rattle.runs.proofs.Schedules.{run-as-many}
use Rattle.generated.specs.declared.Generated.{Generated}
use Rattle.shown.specs.Ran.{world}
use Rattle.rooms.specs.Graphs.{first_edges}
use Rattle.flat.specs.Flat.{threads_in, sought_step}
use Rattle.run_generated.specs.Threads.{start_four}
use Rattle.run_generated.proofs.Going.{flat_start, goes}
use Rattle.run_generated.proofs.go.Goals as goal

pub returns : goal.returns
returns c =
    let a = c.args in
    let k = c.carry_out-ended in
    let m = k.new.machine in
    let es : List (List ℕ) = contents a.edges.now in
    let at : (t : ℕ) → (get_or a.edges.now t (record { ref_ptr = (0, 0); now = [] })).now ≡ get_or es t [] = λ t. content-at a.edges.now t (record { ref_ptr = (0, 0); now = [] }) refl in
    let tables : List (List ℕ) = first_edges (get_or a.counts 0 0) (get_or es 0 []) ∷ first_edges (get_or a.counts 1 0) (get_or es 1 []) ∷ first_edges (get_or a.counts 2 0) (get_or es 2 []) ∷ first_edges (get_or a.counts 3 0) (get_or es 3 []) ∷ [] in
    let start = world a.threads a.start (start_four a.given) in
    let e = run (sought_step tables) (items a.schedule.now) 0 start in
    let turned : Led (run (sought_step tables) (items a.schedule.now) 0 (world a.threads a.start _)) k.result (world m.threads m.flat.memory (threads_in m.flat)) = rw (at 0, at 1, at 2, at 3) at k.ensures in
    let l : Led e k.result (world m.threads m.flat.memory (threads_in m.flat)) =
    subst (λ (l : List Generated). Led (run (sought_step tables) (items a.schedule.now) 0 (world a.threads a.start l)) k.result (world m.threads m.flat.memory (threads_in m.flat))) (flat_start a.given) turned in
    let n : length e.world.threads ≡ a.threads = run-as-many (sought_step tables) (items a.schedule.now) 0 start ∙ length-take-le a.threads (start_four a.given) (omega (arith, c.requires.0)) in
    goes a.threads m.threads _ e k.result m.flat.memory (threads_in m.flat) c.show.result l n c.show.ensures
