-- "A generated thread has its node, 16 registers and its auxiliary values, and no buffer. It steps only along the edge records built for it."
-- The step sees the flat numbers of an edge table, any numbers, and nothing else of the thread's program.
use Rattle.std.specs.Prelude.{Bool, true, cond, not, ◌&&◌, ℕ, suc, List, set, eqb}
use Rattle.std.proofs.Math.Option.{Option, map}
use Rattle.lists.specs.Lists.{first}
use Rattle.thread.specs.declared.Line.{Line}
use Rattle.thread.specs.declared.Node.{Node}
use Rattle.thread.specs.declared.Op.{Op}
use Rattle.thread.specs.declared.Op.TheVariants as O
use Rattle.thread.specs.Word.{add32, sub32}
use Rattle.thread.specs.Numbers.{◌!◌}
use Rattle.runs.specs.Run.{In}
use Rattle.graphs.specs.declared.Edge.{Edge}
use Rattle.generated.specs.declared.Generated.{Generated}
use Rattle.graphs.specs.Records.{edges_in}

-- where the value of a waiting store comes from: the auxiliary of its line
abbrev pub waiting_value : List ℕ → Line → ℕ
waiting_value A l = A ! l.0

-- the choice that an operation serves: 1 + x for a put to x, 0 for every other
unfoldable pub choice_of : Op → ℕ
choice_of (O.Set r v) = 0
choice_of (O.Copy r s) = 0
choice_of (O.Add r s t) = 0
choice_of (O.Sub r s t) = 0
choice_of (O.Load r x) = 0
choice_of (O.Take r l) = 0
choice_of (O.KeepR l r) = 0
choice_of (O.KeepC l v) = 0
choice_of O.Pass = 0
choice_of (O.Cas r x s t) = 0
choice_of (O.IfNz r) = 0
choice_of (O.IfZ r) = 0
choice_of (O.Put x l) = suc x

-- "of `ifnz` and `ifz` the one whose test on r holds"
unfoldable pub test_holds : List ℕ → Op → Bool
test_holds R (O.Set r v) = true
test_holds R (O.Copy r s) = true
test_holds R (O.Add r s t) = true
test_holds R (O.Sub r s t) = true
test_holds R (O.Load r x) = true
test_holds R (O.Take r l) = true
test_holds R (O.KeepR l r) = true
test_holds R (O.KeepC l v) = true
test_holds R O.Pass = true
test_holds R (O.Cas r x s t) = true
test_holds R (O.IfNz r) = not (eqb (R ! r) 0)
test_holds R (O.IfZ r) = eqb (R ! r) 0
test_holds R (O.Put x l) = true

unfoldable pub serves : ℕ → List ℕ → Op → Bool
unfolding choice_of test_holds
serves c R o = eqb (choice_of o) c && test_holds R o

-- memory, registers and auxiliary values
pub record Values : Type 0 where
  pub memory : List ℕ
  pub registers : List ℕ
  pub auxiliaries : List ℕ

abbrev pub values : List ℕ → List ℕ → List ℕ → Values
values M R A = record { memory = M; registers = R; auxiliaries = A }

-- "The record alone says what changes"
unfoldable pub act : Op → List ℕ → List ℕ → List ℕ → Values
unfolding add32 sub32
act (O.Set r v) M R A = values M (set R r v) A
act (O.Copy r s) M R A = values M (set R r (R ! s)) A
act (O.Add r s t) M R A = values M (set R r (add32 (R ! s) (R ! t))) A
act (O.Sub r s t) M R A = values M (set R r (sub32 (R ! s) (R ! t))) A
act (O.Load r x) M R A = values M (set R r (M ! x)) A
act (O.Take r l) M R A = values M (set R r (waiting_value A l)) A
act (O.KeepR l r) M R A = values M R (set A l.0 (R ! r))
act (O.KeepC l v) M R A = values M R (set A l.0 v)
act O.Pass M R A = values M R A
act (O.Cas r x s t) M R A = cond (eqb (M ! x) (R ! s)) (values (set M x (R ! t)) (set R r 1) A) (values M (set R r 0) A)
act (O.IfNz r) M R A = values M R A
act (O.IfZ r) M R A = values M R A
act (O.Put x l) M R A = values (set M x (waiting_value A l)) R A

-- "the node becomes the edge's to"
unfoldable pub follow : In Generated → Edge → In Generated
unfolding act
follow s e =
    let v = act e.op s.memory s.own.registers s.own.auxiliaries in
    record { memory = v.memory; own = record { node = e.to; registers = v.registers; auxiliaries = v.auxiliaries } }

abbrev pub same_node : Node → Node → Bool
same_node a b = eqb a.0 b.0

-- the first edge that leaves node n and serves the choice
unfoldable pub edge_for : List Edge → Node → ℕ → List ℕ → Option Edge
unfolding first serves
edge_for es n c R = first (λ (e : Edge). same_node e.from n && serves c R e.op) es

-- "where there is no such edge it hasn't got that choice"
unfoldable pub generated_step : List ℕ → ℕ → In Generated → Option (In Generated)
unfolding edges_in edge_for follow
generated_step table c s = map (follow s) (edge_for (edges_in table) s.own.node c s.own.registers)
