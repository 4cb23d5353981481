-- Laws of the step: what is decided and then applied is the step along the edge records.
use mathlib.Core.Path.{◌≡◌, refl, sym, ap, ◌∙◌}
use mathlib.Core.Bool.{Bool, true, false, cond}
use mathlib.Core.Option as maybe
use mathlib.Core.Option.{none, some, map}
use Prim.Native.Nat.{ℕ}
use mathlib.Core.List.{List}
use lib.ListN.{set}
use lib.Dec.{eqb}
use Rattle.std.specs.Prelude.{Option, Some, None}
use Rattle.std.proofs.lemmas.Option.{same_Some}
use Rattle.lists.specs.Options.{option_of}
use Rattle.thread.specs.declared.Node.{Node}
use Rattle.thread.specs.declared.Op.{Op}
use Rattle.thread.specs.declared.Op.TheVariants as O
use Rattle.thread.specs.Numbers.{◌!◌}
use Rattle.graphs.specs.declared.Edge.{Edge}
use Rattle.graphs.specs.Records.{edges_in}
use Rattle.generated.specs.declared.Generated.{Generated}
use Rattle.generated.specs.Machine.{values, act, follow, edge_for, generated_step}
use Rattle.edges.specs.Sought.{Sorted}
use Rattle.edges.proofs.Sought.{sought}
use Rattle.step.specs.declared.Change.{Change}
use Rattle.step.specs.declared.Change.TheVariants as C
use Rattle.step.specs.declared.Moved.{Moved}
use Rattle.step.specs.Step as step
use Rattle.step.specs.Step.{change_of, change_along, decided, decided_sought, moved_to, applied, changed, moved_of, left, left_by}

-- an operation's change, applied, leaves what the operation leaves
pub acts : (o : Op) (to : Node) (M : List ℕ) (own : Generated) → let v = act o M own.registers own.auxiliaries in applied (change_of o to M own.registers own.auxiliaries) M own.registers own.auxiliaries ≡ moved_to v.memory to v.registers v.auxiliaries
unfolding act change_of applied
acts (O.Set r v) to M own = refl
acts (O.Copy r s) to M own = refl
acts (O.Add r s t) to M own = refl
acts (O.Sub r s t) to M own = refl
acts (O.Load r x) to M own = refl
acts (O.Take r l) to M own = refl
acts (O.KeepR l r) to M own = refl
acts (O.KeepC l v) to M own = refl
acts O.Pass to M own = refl
acts (O.Cas r x s t) to M own = go own.registers own.auxiliaries (eqb (M ! x) (own.registers ! s))
  where
    go : (R A : List ℕ) (b : Bool) → let v = cond b (values (set M x (R ! t)) (set R r 1) A) (values M (set R r 0) A) in
        applied (cond b (C.Swap to x (R ! t) r) (C.Register to r 0)) M R A ≡ moved_to v.memory to v.registers v.auxiliaries
    go R A true = refl
    go R A false = refl
acts (O.IfNz r) to M own = refl
acts (O.IfZ r) to M own = refl
acts (O.Put x l) to M own = refl

module _ (table : List ℕ) (c : ℕ) (M : List ℕ) (own : Generated) where
  abbrev after : Option Moved
  after = moved_of (generated_step table c (record { memory = M; own = own }))

  -- decide, then apply: the step
  pub steps : changed (decided table c M own) M own ≡ after
  unfolding decided change_along changed generated_step follow moved_of option_of
  steps = go (edge_for (edges_in table) own.node c own.registers)
    where
      go : (x : maybe.Option Edge) → changed (change_along (option_of x) M own.registers own.auxiliaries) M own ≡ moved_of (map (follow (record { memory = M; own = own })) x)
      go none = refl
      go (some e) = ap (λ (m : Moved). Some m) (acts e.op e.to M own)

  -- the code's way to the step: d is what is decided, m what it leaves
  pub step_none : (d : Option Change) → d ≡ decided table c M own → d ≡ None → None ≡ after
  unfolding changed
  step_none d e q = ap (λ (x : Option Change). changed x M own) (sym q ∙ e) ∙ steps

  pub step-done : (d : Option Change) (x : Change) (m : Moved) → d ≡ decided table c M own → d ≡ Some x → m ≡ applied x M own.registers own.auxiliaries → Some m ≡ after
  unfolding changed
  step-done d x m e q h = ap (λ (n : Moved). Some n) h ∙ ap (λ (y : Option Change). changed y M own) (sym q ∙ e) ∙ steps

  -- a table in the order of its nodes: the search leads to the step
  pub steps-sought : Sorted table → changed (decided_sought table c M own) M own ≡ after
  unfolding decided_sought decided
  steps-sought s = rw (sought table own.node c own.registers s) steps

-- what a step in place leaves: the node and the values of the step, or the values as they were
module _ (M R A M' R' A' : List ℕ) where
  pub left-some : (to : Node) (o : Option Moved) → left (Some to) M' R' A' ≡ left_by o M R A → o ≡ Some (moved_to M' to R' A')
  left-some to None e = let z : ◌≡◌ {A = Option Node} (Some to) None = ap (λ (l : step.Left). l.node) e in cc
  left-some to (Some m) e =
      let n : to ≡ m.own.node = same_Some to m.own.node (ap (λ (l : step.Left). l.node) e) in
      λ i. Some (moved_to (sym (ap (λ (l : step.Left). l.memory) e) i) (sym n i) (sym (ap (λ (l : step.Left). l.registers) e) i) (sym (ap (λ (l : step.Left). l.auxiliaries) e) i))

  pub left_none : (o : Option Moved) → left None M' R' A' ≡ left_by o M R A → (o ≡ None) × (M' ≡ M) × (R' ≡ R) × (A' ≡ A)
  left_none None e = (refl, ap (λ (l : step.Left). l.memory) e, ap (λ (l : step.Left). l.registers) e, ap (λ (l : step.Left). l.auxiliaries) e)
  left_none (Some m) e = let z : ◌≡◌ {A = Option Node} None (Some m.own.node) = ap (λ (l : step.Left). l.node) e in cc
