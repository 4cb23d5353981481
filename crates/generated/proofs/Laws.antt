-- What the paper says of a generated thread's steps, as laws.
use mathlib.Core.Path.{◌≡◌, refl, ap}
use mathlib.Core.Option.{none}
use mathlib.Core.Bool.{true, not, ◌&&◌}
use Prim.Native.Nat.{ℕ, suc, ◌<◌}
use mathlib.Core.List.{List}
use lib.ListN.{length, set, get_or-eq_default}
use lib.Seq.{get_or-set_same}
use lib.Dec.{eqb}
use Rattle.lists.proofs.Lists.{Holds, first_passes, holds-imp}
use Rattle.lists.proofs.Tests.{true-T, true-eq, is_true, both}
use Rattle.thread.specs.declared.Line.{Line}
use Rattle.thread.specs.declared.Node.{Node}
use Rattle.thread.specs.declared.Op.TheVariants as O
use Rattle.thread.specs.Numbers.{◌!◌}
use Rattle.thread.specs.Operation.{operations, op_named, if_in_range, op_of}
use Rattle.graphs.specs.declared.Edge.{Edge}
use Rattle.generated.specs.Machine.{choice_of, test_holds, serves, act, same_node, edge_for}

-- "`put` writes it to x": what is put doesn't look at the registers, and is what was kept
pub put-old : (x : ℕ) (l : Line) (M A R S : List ℕ) → (act (O.Put x l) M R A).memory ≡ (act (O.Put x l) M S A).memory
unfolding act
put-old x l M A R S = refl

pub put-kept : (x r : ℕ) (l : Line) (M R S A : List ℕ) → l.0 < length A → (act (O.Put x l) M S (act (O.KeepR l r) M R A).auxiliaries).memory ≡ set M x (R ! r)
unfolding act
put-kept x r l M R S A h = rw (get_or-set_same A l.0 (R ! r) 0 h)

-- "`take` reads it into r"
pub take-kept : (r v : ℕ) (l : Line) (M R A : List ℕ) → l.0 < length A → (act (O.Take r l) M R (act (O.KeepC l v) M R A).auxiliaries).registers ≡ set R r v
unfolding act
take-kept r v l M R A h = rw (get_or-set_same A l.0 v 0 h)

-- an edge that is found leaves the node and serves the choice
pub found-serves : (es : List Edge) (n : Node) (c : ℕ) (R : List ℕ) → Holds (λ (e : Edge). (e.from.0 ≡ n.0) × (choice_of e.op ≡ c) × (test_holds R e.op ≡ true)) (edge_for es n c R)
unfolding edge_for serves
found-serves es n c R =
    holds-imp (λ (e : Edge). same_node e.from n && (eqb (choice_of e.op) c && test_holds R e.op) ≡ true) (λ e. (e.from.0 ≡ n.0) × (choice_of e.op ≡ c) × (test_holds R e.op ≡ true))
    (λ e p.
    let a = both (same_node e.from n) (eqb (choice_of e.op) c && test_holds R e.op) (true-T p) in
    let b = both (eqb (choice_of e.op) c) (test_holds R e.op) a.1 in
    (true-eq e.from.0 n.0 (is_true (eqb e.from.0 n.0) a.0), true-eq (choice_of e.op) c (is_true (eqb (choice_of e.op) c) b.0), is_true (test_holds R e.op) b.1))
    (edge_for es n c R) (first_passes (λ (e : Edge). same_node e.from n && (eqb (choice_of e.op) c && test_holds R e.op)) es)

-- "choice 1 + x takes the put edge to x"
pub put-choice : (x : ℕ) (l : Line) → choice_of (O.Put x l) ≡ suc x
unfolding choice_of
put-choice x l = refl

-- of `ifnz` and `ifz` exactly one serves the program step
pub one_way : (r : ℕ) (R : List ℕ) → serves 0 R (O.IfNz r) ≡ not (serves 0 R (O.IfZ r))
unfolding serves choice_of test_holds
one_way r R = refl

-- a record whose operation is above 12 names none
pub junk-none : (o a b c d : ℕ) → 12 < o → op_of o a b c d ≡ none
unfolding op_of op_named if_in_range
junk-none o a b c d h = ap if_in_range (get_or-eq_default (operations a b c d) none {n = o} h)
