-- What the paper says of a buffered thread's steps, as laws.
use mathlib.Core.Path.{◌≡◌, refl}
use mathlib.Core.Bool.{Bool, true, false, ◌&&◌}
use mathlib.Core.Option.{Option, none, some}
use Prim.Native.Nat.{ℕ, zero, suc}
use mathlib.Core.List.{List, [], ◌∷◌}
use lib.ListN.{set}
use lib.Dec.{eqb}
use Rattle.thread.specs.declared.Line.{Line}
use Rattle.thread.specs.declared.Model.{Model}
use Rattle.thread.specs.declared.Model.TheVariants.{Tso, Pso}
use Rattle.thread.specs.declared.Instr.{Instr}
use Rattle.thread.specs.declared.Instr.TheVariants as I
use Rattle.thread.specs.Numbers.{◌!◌, zeros}
use Rattle.thread.specs.Table.{line, next, Prog}
use Rattle.waiting.specs.Discipline.{drained, newest, ready_for}
use Rattle.runs.specs.Run.{In}
use Rattle.buffered.specs.Machine.{Pair, var_of, Buffered, at, seen, program_step, buffered_step, is_return, has_ended}

module _ (m : Model) (M : List ℕ) (l : Line) (R : List ℕ) where
  -- "passes when nothing waits"
  pub fence-drains : (p : Pair) (w : List Pair) → program_step m I.Fence M l R (p ∷ w) ≡ none
  unfolding program_step
  fence-drains p w = refl

  -- "A failing cas needs the drain too"
  pub cas-drains : (r x s t : ℕ) (p : Pair) (w : List Pair) → program_step m (I.Cas r x s t) M l R (p ∷ w) ≡ none
  unfolding program_step
  cas-drains r x s t p w = refl

  pub cas-succeeds : (r x s t : ℕ) → eqb (M ! x) (R ! s) ≡ true → program_step m (I.Cas r x s t) M l R [] ≡ at (set M x (R ! t)) (next l) (set R r 1) []
  unfolding program_step
  cas-succeeds r x s t e = rw e

  -- a failing cas writes only its register
  pub cas-fails : (r x s t : ℕ) → eqb (M ! x) (R ! s) ≡ false → program_step m (I.Cas r x s t) M l R [] ≡ at M (next l) (set R r 0) []
  unfolding program_step
  cas-fails r x s t e = rw e

  -- "never takes a program step"
  pub return-stays : (w : List Pair) → program_step m I.Return M l R w ≡ none
  unfolding program_step
  return-stays w = refl

  -- "A load takes the newest waiting value for its variable, else memory"
  pub load-newest : (r x : ℕ) (w : List Pair) (p : Pair) → newest var_of w x ≡ some p → program_step m (I.Load r x) M l R w ≡ at M (next l) (set R r p.val) w
  unfolding program_step seen
  load-newest r x w p e = rw e

  pub load-memory : (r x : ℕ) (w : List Pair) → newest var_of w x ≡ none → program_step m (I.Load r x) M l R w ≡ at M (next l) (set R r (M ! x)) w
  unfolding program_step seen
  load-memory r x w e = rw e

-- "the thread has ended once nothing waits": it then has no choice left
is-return : (i : Instr) → is_return i ≡ true → i ≡ I.Return
unfolding is_return
is-return (I.Set r v) e = cc
is-return (I.Copy r s) e = cc
is-return (I.Add r s t) e = cc
is-return (I.Sub r s t) e = cc
is-return (I.Load r x) e = cc
is-return (I.StoreR x r) e = cc
is-return (I.StoreC x v) e = cc
is-return I.Fence e = cc
is-return (I.Cas r x s t) e = cc
is-return (I.Branch r to) e = cc
is-return (I.Jump to) e = cc
is-return I.Return e = refl

nothing-waits : (b : Bool) (w : List Pair) → b && drained w true false ≡ true → (b ≡ true) × (w ≡ [])
unfolding drained
nothing-waits true [] e = (refl, refl)
nothing-waits true (p ∷ w) e = (refl, cc)
nothing-waits false w e = (e, cc)

pub ended-stays : (m : Model) (prog : Prog) (c : ℕ) (s : In Buffered) → has_ended prog s.own.line s.own.waiting ≡ true → buffered_step m prog c s ≡ none
unfolding has_ended buffered_step program_step ready_for
ended-stays m prog zero s e = let h = nothing-waits (is_return (prog s.own.line)) s.own.waiting e in rw (is-return (prog s.own.line) h.0)
ended-stays Tso prog (suc x) s e = let h = nothing-waits (is_return (prog s.own.line)) s.own.waiting e in rw h.1
ended-stays Pso prog (suc x) s e = let h = nothing-waits (is_return (prog s.own.line)) s.own.waiting e in rw h.1

-- "Reading the register when the store reaches memory" is shut out: what waits is the register's value at the store. `storer 0 0` with 3 in the register, then `set 0 5`, then the put.
stepped : Model → Option (In Buffered) → ℕ → Prog → Option (In Buffered)
unfolding buffered_step
stepped m none c prog = none
stepped m (some s) c prog = buffered_step m prog c s

thread : Prog
thread l = elim (eqb l.0 0) [ true ↦ I.StoreR 0 0 | false ↦ I.Set 0 5 ]

begun : Option (In Buffered)
begun = some (record { memory = zeros 2; own = record { line = line 0; registers = 3 ∷ 0 ∷ []; waiting = [] } })

pub puts-old : (m : Model) → Option (In Buffered)
unfolding stepped thread begun
puts-old m = stepped m (stepped m (stepped m begun 0 thread) 0 thread) 1 thread

pub old_value : (m : Model) → puts-old m ≡ some (record { memory = 3 ∷ 0 ∷ []; own = record { line = line 2; registers = 5 ∷ 0 ∷ []; waiting = [] } })
unfolding puts-old
old_value Tso = refl
old_value Pso = refl
