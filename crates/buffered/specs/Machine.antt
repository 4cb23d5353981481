-- "The thread" and "The two buffers": one buffered thread and its steps.
use Rattle.std.specs.Prelude.{◌≡◌, Bool, true, false, cond, ◌&&◌, ℕ, zero, suc, List, [], length, set, eqb, leb}
use Rattle.std.proofs.Math.Option.{Option, none, some, map}
use Rattle.thread.specs.declared.Line.{Line}
use Rattle.thread.specs.declared.Model.{Model}
use Rattle.thread.specs.declared.Instr.{Instr}
use Rattle.thread.specs.declared.Instr.TheVariants as I
use Rattle.thread.specs.Word.{add32, sub32}
use Rattle.thread.specs.Numbers.{◌!◌}
use Rattle.thread.specs.Table.{line, next, Prog}
use Rattle.waiting.specs.Discipline.{Ready, add_wait, newest, ready_for, drained}
use Rattle.runs.specs.Run.{In}

-- "A buffered thread holds waiting pairs of variable and value"
pub record Pair : Type 0 where
  pub var : ℕ
  pub val : ℕ

abbrev pub var_of : Pair → ℕ
var_of p = p.var

pub record Buffered : Type 0 where
  pub line : Line
  pub registers : List ℕ
  pub waiting : List Pair

unfoldable pub at : List ℕ → Line → List ℕ → List Pair → Option (In Buffered)
at M l R w = some (record { memory = M; own = record { line = l; registers = R; waiting = w } })

-- "A load takes the newest waiting value for its variable, else memory"
unfoldable pub seen : List ℕ → ℕ → Option Pair → ℕ
seen M x none = M ! x
seen M x (some p) = p.val

-- the program step of the instruction at line l; M memory, R registers, w what waits
unfoldable pub program_step : Model → Instr → List ℕ → Line → List ℕ → List Pair → Option (In Buffered)
unfolding at drained seen newest add_wait add32 sub32
program_step m (I.Set r v) M l R w = at M (next l) (set R r v) w
program_step m (I.Copy r s) M l R w = at M (next l) (set R r (R ! s)) w
program_step m (I.Add r s t) M l R w = at M (next l) (set R r (add32 (R ! s) (R ! t))) w
program_step m (I.Sub r s t) M l R w = at M (next l) (set R r (sub32 (R ! s) (R ! t))) w
program_step m (I.Load r x) M l R w = at M (next l) (set R r (seen M x (newest var_of w x))) w
program_step m (I.StoreR x r) M l R w = at M (next l) R (add_wait var_of m w (record { var = x; val = R ! r }))
program_step m (I.StoreC x v) M l R w = at M (next l) R (add_wait var_of m w (record { var = x; val = v }))
program_step m I.Fence M l R w = drained w (at M (next l) R w) none
program_step m (I.Cas r x s t) M l R w =
    drained w (cond (eqb (M ! x) (R ! s)) (at (set M x (R ! t)) (next l) (set R r 1) w) (at M (next l) (set R r 0) w)) none
program_step m (I.Branch r to) M l R w = cond (eqb (R ! r) 0) (at M (next l) R w) (at M to R w)
program_step m (I.Jump to) M l R w = at M to R w
program_step m I.Return M l R w = none

-- a waiting pair reaches memory
unfoldable pub put_pair : List ℕ → Line → List ℕ → Ready Pair → In Buffered
put_pair M l R q = record { memory = set M q.store.var q.store.val; own = record { line = l; registers = R; waiting = q.left } }

-- choice 0 is the program step, 1 + x the waiting store to x reaching memory
unfoldable pub buffered_step : Model → Prog → ℕ → In Buffered → Option (In Buffered)
unfolding program_step put_pair ready_for
buffered_step m prog zero s = program_step m (prog s.own.line) s.memory s.own.line s.own.registers s.own.waiting
buffered_step m prog (suc x) s = map (put_pair s.memory s.own.line s.own.registers) (ready_for var_of m x s.own.waiting)

-- what a buffered thread can come to, whatever the other threads leave in memory
pub data Comes (m : Model) (prog : Prog) : Buffered → Type 0 where
  comes_start : (R : List ℕ) → Comes m prog (record { line = line 0; registers = R; waiting = [] })
  comes_step : {b : Buffered} (M : List ℕ) (c : ℕ) (s : In Buffered) → Comes m prog b → buffered_step m prog c (record { memory = M; own = b }) ≡ some s → Comes m prog s.own

-- the same with `places` places for pairs: a step that would need more is not there
unfoldable pub fitting : ℕ → Option (In Buffered) → Option (In Buffered)
fitting places none = none
fitting places (some s) = cond (leb (length s.own.waiting) places) (some s) none

unfoldable pub placed_step : ℕ → Model → Prog → ℕ → In Buffered → Option (In Buffered)
unfolding buffered_step fitting
placed_step places m prog c s = fitting places (buffered_step m prog c s)

unfoldable pub is_return : Instr → Bool
is_return (I.Set r v) = false
is_return (I.Copy r s) = false
is_return (I.Add r s t) = false
is_return (I.Sub r s t) = false
is_return (I.Load r x) = false
is_return (I.StoreR x r) = false
is_return (I.StoreC x v) = false
is_return I.Fence = false
is_return (I.Cas r x s t) = false
is_return (I.Branch r to) = false
is_return (I.Jump to) = false
is_return I.Return = true

-- "the thread has ended once nothing waits" at a return
unfoldable pub has_ended : {A : Type 0} → Prog → Line → List A → Bool
unfolding is_return drained
has_ended prog l w = is_return (prog l) && drained w true false
