-- `run_generated` answers, shows and leaves what the definition says.
use mathlib.Core.Path.{subst}
use mathlib.Core.List.{List, [], ◌∷◌}
use Prim.Native.Nat.{ℕ}
use Rattle.lists.specs.Slices.{contents}
use Rattle.generated.specs.RunGenerated.{Rooms}
use Rattle.rooms.specs.Graphs.{rooms_of, Makes}
use Rattle.run_generated.proofs.Whole.{ran-refused, go-within, ran-gone}
use Rattle.run_generated.proofs.run_generated.Goals as goal

pub go-requires : goal.go-requires
go-requires c =
    let a = c.args in
    let tables : List (List ℕ) = contents a.tables.now in
    let rooms : Rooms = rooms_of (a.n0.now ∷ a.n1.now ∷ a.n2.now ∷ a.n3.now ∷ []) (a.e0.now ∷ a.e1.now ∷ a.e2.now ∷ a.e3.now ∷ []) in
    let m = c.fill in
    let ns : List (List ℕ) = m.new.n0 ∷ m.new.n1 ∷ m.new.n2 ∷ m.new.n3 ∷ [] in
    let es : List (List ℕ) = m.new.e0 ∷ m.new.e1 ∷ m.new.e2 ∷ m.new.e3 ∷ [] in
    let g = subst (Makes a.model a.threads tables rooms ns es) c.in-Ok.is m.ensures in
    go-within a.model a.threads tables a.n0.now a.n1.now a.n2.now a.n3.now a.e0.now a.e1.now a.e2.now a.e3.now a.memory a.registers a.schedule.now ns m.new.e0 m.new.e1 m.new.e2 m.new.e3 _ g

pub returns-in-Err : goal.returns-in-Err
returns-in-Err c =
    let a = c.args in
    let tables : List (List ℕ) = contents a.tables.now in
    let rooms : Rooms = rooms_of (a.n0.now ∷ a.n1.now ∷ a.n2.now ∷ a.n3.now ∷ []) (a.e0.now ∷ a.e1.now ∷ a.e2.now ∷ a.e3.now ∷ []) in
    let m = c.fill in
    let ns : List (List ℕ) = m.new.n0 ∷ m.new.n1 ∷ m.new.n2 ∷ m.new.n3 ∷ [] in
    let es : List (List ℕ) = m.new.e0 ∷ m.new.e1 ∷ m.new.e2 ∷ m.new.e3 ∷ [] in
    let g = subst (Makes a.model a.threads tables rooms ns es) c.in-Err.is m.ensures in
    ran-refused a.model a.threads tables a.n0.now a.n1.now a.n2.now a.n3.now a.e0.now a.e1.now a.e2.now a.e3.now a.memory a.registers a.schedule.now _ _ ns es g c.refused.result c.refused.ensures

pub returns-in-Ok : goal.returns-in-Ok
returns-in-Ok c =
    let a = c.args in
    let tables : List (List ℕ) = contents a.tables.now in
    let rooms : Rooms = rooms_of (a.n0.now ∷ a.n1.now ∷ a.n2.now ∷ a.n3.now ∷ []) (a.e0.now ∷ a.e1.now ∷ a.e2.now ∷ a.e3.now ∷ []) in
    let m = c.fill in
    let ns : List (List ℕ) = m.new.n0 ∷ m.new.n1 ∷ m.new.n2 ∷ m.new.n3 ∷ [] in
    let es : List (List ℕ) = m.new.e0 ∷ m.new.e1 ∷ m.new.e2 ∷ m.new.e3 ∷ [] in
    let g = subst (Makes a.model a.threads tables rooms ns es) c.in-Ok.is m.ensures in
    ran-gone a.model a.threads tables a.n0.now a.n1.now a.n2.now a.n3.now a.e0.now a.e1.now a.e2.now a.e3.now a.memory a.registers a.schedule.now ns m.new.e0 m.new.e1 m.new.e2 m.new.e3 _ g c.go.result c.go.ensures
