-- A generated thread's step in two parts: what a record says is to change, and the thread and memory so changed.
use Rattle.std.specs.Prelude.{cond, ℕ, List, set, eqb, Option, Some, None, option_map}
use Rattle.std.proofs.Math.Option as maybe
use Rattle.std.proofs.Math.Option.{none, some}
use Rattle.lists.specs.Options.{option_of}
use Rattle.thread.specs.declared.Node.{Node}
use Rattle.thread.specs.declared.Op.{Op}
use Rattle.thread.specs.declared.Op.TheVariants as O
use Rattle.thread.specs.Word.{add32, sub32}
use Rattle.thread.specs.Numbers.{◌!◌}
use Rattle.runs.specs.Run.{In}
use Rattle.graphs.specs.declared.Edge.{Edge}
use Rattle.graphs.specs.Records.{edges_in}
use Rattle.generated.specs.declared.Generated.{Generated}
use Rattle.generated.specs.Machine.{waiting_value, edge_for}
use Rattle.edges.specs.Sought.{edge_sought}
use Rattle.step.specs.declared.Change.{Change}
use Rattle.step.specs.declared.Change.TheVariants as C
use Rattle.step.specs.declared.Moved.{Moved}

-- what an operation changes on the way to a node, of memory M, registers R and auxiliary values A
unfoldable pub change_of : Op → Node → List ℕ → List ℕ → List ℕ → Change
unfolding add32 sub32
change_of (O.Set r v) to M R A = C.Register to r v
change_of (O.Copy r s) to M R A = C.Register to r (R ! s)
change_of (O.Add r s t) to M R A = C.Register to r (add32 (R ! s) (R ! t))
change_of (O.Sub r s t) to M R A = C.Register to r (sub32 (R ! s) (R ! t))
change_of (O.Load r x) to M R A = C.Register to r (M ! x)
change_of (O.Take r l) to M R A = C.Register to r (waiting_value A l)
change_of (O.KeepR l r) to M R A = C.Auxiliary to l (R ! r)
change_of (O.KeepC l v) to M R A = C.Auxiliary to l v
change_of O.Pass to M R A = C.Go to
change_of (O.Cas r x s t) to M R A = cond (eqb (M ! x) (R ! s)) (C.Swap to x (R ! t) r) (C.Register to r 0)
change_of (O.IfNz r) to M R A = C.Go to
change_of (O.IfZ r) to M R A = C.Go to
change_of (O.Put x l) to M R A = C.Memory to x (waiting_value A l)

-- what changes along an edge, if one was found
unfoldable pub change_along : Option Edge → List ℕ → List ℕ → List ℕ → Option Change
unfolding change_of
change_along None M R A = None
change_along (Some e) M R A = Some (change_of e.op e.to M R A)

-- what a choice changes, by the edge records of a table, if the thread has got that choice
unfoldable pub decided : List ℕ → ℕ → List ℕ → Generated → Option Change
unfolding edges_in edge_for change_along option_of
decided table c M own = change_along (option_of (edge_for (edges_in table) own.node c own.registers)) M own.registers own.auxiliaries

-- the same by the search for tables in the order of their nodes
unfoldable pub decided_sought : List ℕ → ℕ → List ℕ → Generated → Option Change
unfolding edge_sought change_along option_of
decided_sought table c M own = change_along (option_of (edge_sought table own.node c own.registers)) M own.registers own.auxiliaries

abbrev pub moved_to : List ℕ → Node → List ℕ → List ℕ → Moved
moved_to M to R A = record { memory = M; own = record { node = to; registers = R; auxiliaries = A } }

-- memory and thread after a change, of memory M, registers R and auxiliary values A; a number that is past the end changes nothing there
unfoldable pub applied : Change → List ℕ → List ℕ → List ℕ → Moved
applied (C.Go to) M R A = moved_to M to R A
applied (C.Register to r v) M R A = moved_to M to (set R r v) A
applied (C.Auxiliary to l v) M R A = moved_to M to R (set A l.0 v)
applied (C.Memory to x v) M R A = moved_to (set M x v) to R A
applied (C.Swap to x v r) M R A = moved_to (set M x v) to (set R r 1) A

-- the same of a change, if there is one
unfoldable pub changed : Option Change → List ℕ → Generated → Option Moved
unfolding applied
changed None M own = None
changed (Some d) M own = Some (applied d M own.registers own.auxiliaries)

-- the answer for a step: what it leaves, if there is one
unfoldable pub moved_of : maybe.Option (In Generated) → Option Moved
moved_of none = None
moved_of (some s) = Some (record { memory = s.memory; own = s.own })

-- the step by the search: what is decided, applied
unfoldable pub searched : List ℕ → ℕ → List ℕ → Generated → Option Moved
unfolding decided_sought changed
searched table c M own = changed (decided_sought table c M own) M own

-- a thread whose values are lent
abbrev pub held : Node → List ℕ → List ℕ → Generated
held n R A = record { node = n; registers = R; auxiliaries = A }

-- what a step in place leaves: the thread's node, if there was a step, and memory, registers and auxiliary values
pub record Left : Type 0 where
  pub node : Option Node
  pub memory : List ℕ
  pub registers : List ℕ
  pub auxiliaries : List ℕ

abbrev pub left : Option Node → List ℕ → List ℕ → List ℕ → Left
left n M R A = record { node = n; memory = M; registers = R; auxiliaries = A }

-- where there was no step, the values are as they were
abbrev pub left_by : Option Moved → List ℕ → List ℕ → List ℕ → Left
left_by None M R A = left None M R A
left_by (Some m) M R A = left (Some m.own.node) m.memory m.own.registers m.own.auxiliaries
