-- Laws of records: the operation that five numbers name, and the edge that a record is.
use mathlib.Core.Path.{◌≡◌, refl, sym, ap, ◌∙◌}
use mathlib.Core.Bool.{Bool, true, false, ◌&&◌}
use mathlib.Core.Option.{Option, none, some, map, Option-elim}
use Prim.Native.Nat.{ℕ, zero, suc, ◌+◌, ◌*◌, ◌≤◌}
use native.Mathlib.Omega.{arith}
use mathlib.Core.List.{List}
use lib.ListN.{get_or-eq_default}
use Rattle.std.specs.Prelude as code
use Rattle.std.specs.Prelude.{Some, None}
use Rattle.lists.specs.Lists.{first, listed}
use Rattle.lists.specs.Options.{option_of}
use Rattle.lists.proofs.Options.{held-none, held-some}
use Rattle.lists.proofs.Tests.{eq-true, eq-false}
use Rattle.thread.specs.declared.Node.{Node}
use Rattle.thread.specs.declared.Op.{Op}
use Rattle.thread.specs.Operation.{operations, op_named, in_range, if_in_range, op_of}
use Rattle.graphs.specs.declared.Edge.{Edge}
use Rattle.thread.specs.Numbers.{◌!◌}
use Rattle.graphs.specs.Records.{node, edge_at}
use Rattle.generated.specs.Machine.{choice_of, test_holds, serves, same_node, edge_for}
use Rattle.edges.specs.Sought.{edge_there}

-- n is none of the numbers below k: it is k or above
abbrev pub NoneBelow : ℕ → ℕ → Type 0
NoneBelow zero n = Unit {0}
NoneBelow (suc k) n = NoneBelow k n × (n ≡ k → ⊥)

pub none_below : (k n : ℕ) → NoneBelow k n → k ≤ n
none_below zero n h = omega arith
none_below (suc k) n h = let l = none_below k n h.0 in let ne = h.1 in omega arith

pub no-operation : (o a b c d : ℕ) → 13 ≤ o → op_named o a b c d ≡ none
unfolding op_named
no-operation o a b c d h = get_or-eq_default (operations a b c d) none h

-- the code's way to `op_of`: r is what the five numbers name
module _ (o a b c d : ℕ) (r : code.Option Op) (e : r ≡ option_of (op_named o a b c d)) where
  pub op-junk : r ≡ None → None ≡ option_of (op_of o a b c d)
  unfolding op_of if_in_range option_of
  op-junk q = rw (held-none (op_named o a b c d) (sym e ∙ q))

  pub op-there : (p : Op) (t : Bool) → r ≡ Some p → t ≡ in_range p → t ≡ true → Some p ≡ option_of (op_of o a b c d)
  unfolding op_of if_in_range option_of
  op-there p t q i h = rw (held-some (op_named o a b c d) p (sym e ∙ q), sym i ∙ h)

  pub op-lost : (p : Op) (t : Bool) → r ≡ Some p → t ≡ in_range p → t ≡ false → None ≡ option_of (op_of o a b c d)
  unfolding op_of if_in_range option_of
  op-lost p t q i h = rw (held-some (op_named o a b c d) p (sym e ∙ q), sym i ∙ h)

-- the code's way to `serves`: k is the choice that the operation serves
module _ (c : ℕ) (R : List ℕ) (o : Op) (k : ℕ) (e : k ≡ choice_of o) where
  pub serves-not : (k ≡ c → ⊥) → false ≡ serves c R o
  unfolding serves
  serves-not h = rw (← e, eq-false k c h)

  pub serves-tested : (t : Bool) → k ≡ c → t ≡ test_holds R o → t ≡ serves c R o
  unfolding serves
  serves-tested t h i = rw (← e, h, eq-true c, i)

-- the operation of record k of a table
abbrev pub op_in : List ℕ → ℕ → Option Op
op_in t k = let i = 7 * k in op_of (t ! (i + 2)) (t ! (i + 3)) (t ! (i + 4)) (t ! (i + 5)) (t ! (i + 6))

-- the code's way to `edge_at`: r is the record's operation
module _ (t : List ℕ) (k : ℕ) (r : code.Option Op) (e : r ≡ option_of (op_in t k)) where
  pub not-edge : r ≡ None → None ≡ option_of (edge_at t k)
  unfolding edge_at option_of
  not-edge q = rw (held-none (op_in t k) (sym e ∙ q))

  pub an-edge : (o : Op) → r ≡ Some o → Some (record { from = node (t ! (7 * k)); to = node (t ! (7 * k + 1)); op = o }) ≡ option_of (edge_at t k)
  unfolding edge_at option_of
  an-edge o q = rw (held-some (op_in t k) o (sym e ∙ q))

-- an edge leaves the node that its record names
leaves : (t : List ℕ) (k : ℕ) (g : Edge) → edge_at t k ≡ some g → g.from.0 ≡ t ! (7 * k)
unfolding edge_at Option-elim
leaves t k g = go (op_in t k)
  where
    go : (x : Option Op) → map (λ (o : Op). record { from = node (t ! (7 * k)); to = node (t ! (7 * k + 1)); op = o }) x ≡ some g → g.from.0 ≡ t ! (7 * k)
    go none e = let z : ◌≡◌ {A = Option Edge} none (some g) = e in cc
    go (some o) e = ap (λ (x : Option Edge). Option-elim x 0 (λ (h : Edge). h.from.0)) (sym e)

-- the code's way to `edge_there`: r is the edge that the record is, b whether it serves the choice
module _ (t : List ℕ) (k : ℕ) (n : Node) (c : ℕ) (R : List ℕ) where
  pub other-node : (t ! (7 * k) ≡ n.0 → ⊥) → None ≡ option_of (edge_there t k n c R)
  unfolding edge_at edge_for listed first option_of
  other-node h = go (op_in t k)
    where
      go : (x : Option Op) → None ≡ option_of (first (λ (e : Edge). same_node e.from n && serves c R e.op) (listed (map (λ (o : Op). record { from = node (t ! (7 * k)); to = node (t ! (7 * k + 1)); op = o }) x)))
      go none = refl
      go (some o) = rw (eq-false (t ! (7 * k)) n.0 h)

  module _ (r : code.Option Edge) (e : r ≡ option_of (edge_at t k)) where
    pub no_edge : r ≡ None → None ≡ option_of (edge_there t k n c R)
    unfolding edge_for listed first option_of
    no_edge q = rw (held-none (edge_at t k) (sym e ∙ q))

    module _ (g : Edge) (b : Bool) (q : r ≡ Some g) (h : t ! (7 * k) ≡ n.0) (s : b ≡ serves c R g.op) where
      is-edge : edge_at t k ≡ some g
      is-edge = held-some (edge_at t k) g (sym e ∙ q)

      pub other-choice : b ≡ false → None ≡ option_of (edge_there t k n c R)
      unfolding edge_for listed first option_of
      other-choice f = rw (is-edge, leaves t k g is-edge, h, eq-true n.0, sym s ∙ f)

      pub fits : b ≡ true → Some g ≡ option_of (edge_there t k n c R)
      unfolding edge_for listed first option_of
      fits f = rw (is-edge, leaves t k g is-edge, h, eq-true n.0, sym s ∙ f)
