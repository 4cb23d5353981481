-- Both runs, each by its promise, and that they agree.
use Prim.Native.Nat.{ℕ}
use mathlib.Core.List.{List, [], ◌∷◌}
use Rattle.lists.specs.Slices.{contents}
use Rattle.both.proofs.Laws.{both_run}
use Rattle.both.proofs.both.Goals as goal

pub returns : goal.returns
returns c =
    let a = c.args in
    let tables : List (List ℕ) = contents a.tables.now in
    let nodes : List (List ℕ) = a.n0.now ∷ a.n1.now ∷ a.n2.now ∷ a.n3.now ∷ [] in
    let edges : List (List ℕ) = a.e0.now ∷ a.e1.now ∷ a.e2.now ∷ a.e3.now ∷ [] in
    both_run a.model a.threads tables a.memory a.registers a.schedule.now nodes edges c.run_buffered-buffered.ensures c.run_generated-generated.ensures
