-- The code's step by its cases: what each test leads to.
use mathlib.Core.Path.{◌≡◌, refl, sym, ap}
use mathlib.Core.Logic.{◌≢◌}
use mathlib.Core.Option.{Option, none, some, bind}
use Prim.Native.Nat.{ℕ, ◌+◌, ◌-◌, ◌≤◌, ◌<◌, min}
use mathlib.Core.List.{List}
use lib.ListN.{length, set}
use Rattle.std.specs.Prelude.{Some, None}
use Rattle.lists.specs.Options.{option_of}
use Rattle.lists.proofs.Tests.{lt-true, lt-false, eq-false}
use Rattle.thread.specs.declared.Line.{Line}
use Rattle.thread.specs.declared.Model.{Model}
use Rattle.thread.specs.declared.Instr.{Instr}
use Rattle.thread.specs.Numbers.{◌!◌}
use Rattle.pending.specs.Places.{place_for}
use Rattle.pending.specs.Pending.{put_in, take_out}
use Rattle.shown.specs.declared.ThreadState.{ThreadState}
use Rattle.chosen.specs.declared.Change.{Change}
use Rattle.chosen.specs.Decide.{thread_of, waiting_vars, decided}
use Rattle.buffer.specs.declared.Moved.{Moved}
use Rattle.buffer.specs.declared.Turned.{Turned}
use Rattle.buffer.specs.States.{moves, Left, left, left_by, with_pair, without_pair}
use Rattle.buffer.specs.Step.{waits, puts, applied, stepped, turned}

module _ (m : Model) (M : List ℕ) (c : ThreadState) (l : Line) (x v : ℕ) where
  abbrev place : ℕ
  place = place_for m (waiting_vars c) x

  pub waits-full : 16 ≤ c.count → none ≡ waits m M c l x v
  unfolding waits
  waits-full h = rw (lt-false c.count 16 h, waits)

  pub waits-room : c.count < 16 → (i : ℕ) → i ≡ place → (vs ws : List ℕ) → vs ≡ put_in i x c.names → ws ≡ put_in i v c.values
      → moves M (record { line = l; registers = c.registers; names = vs; values = ws; count = c.count + 1 }) ≡ waits m M c l x v
  unfolding waits with_pair
  waits-room h i e vs ws p q = rw (lt-true c.count 16 h, waits, p, q, e)

module _ (M : List ℕ) (c : ThreadState) (i : ℕ) where
  pub puts-nothing : min c.count 16 ≤ i → none ≡ puts M c i
  unfolding puts
  puts-nothing h = rw (lt-false i (min c.count 16) h, puts)

  pub puts-pair : i < min c.count 16 → (vs ws N : List ℕ) (a b : ℕ) → vs ≡ take_out i 0 c.names → ws ≡ take_out i 0 c.values
      → a ≡ c.names ! i → b ≡ c.values ! i → N ≡ set M a b
      → moves N (record { line = c.line; registers = c.registers; names = vs; values = ws; count = c.count - 1 }) ≡ puts M c i
  unfolding puts without_pair
  puts-pair h vs ws N a b p q f g n = rw (lt-true i (min c.count 16) h, puts, p, q, n, f, g)

-- what a turn answers says whether there was a step, and what it leaves in the lent lists is what the step leaves
module _ (M : List ℕ) (c : ThreadState) (M' regs names values : List ℕ) where
  pub left-none : (o : Option Moved) → left None M' regs names values ≡ left_by o M c → o ≡ none
  left-none none e = refl
  left-none (some m) e = let z = ap (λ (l : Left). l.answer) e in cc

  pub left-some : (o : Option Moved) (t : Turned) → left (Some t) M' regs names values ≡ left_by o M c → o ≡ some (record { memory = M'; core = thread_of t.line t.count regs names values })
  left-some none t e = let z = ap (λ (l : Left). l.answer) e in cc
  left-some (some m) t e =
      let z = ap (λ (l : Left). l.answer) e in
      let q : record { line = m.core.line; count = m.core.count } ≡ t = cc in
      let k = sym e in
      λ i. some (record { memory = (k i).memory; core = thread_of (q i).line (q i).count (k i).registers (k i).names (k i).values })

-- a change that was decided on is made, and else there is no step
decided-none : (d : Option Change) (f : Change → Option Moved) → None ≡ option_of d → none ≡ bind d f
unfolding option_of bind
decided-none none f e = refl
decided-none (some x) f e = cc

decided-some : (d : Option Change) (f : Change → Option Moved) (x : Change) → Some x ≡ option_of d → f x ≡ bind d f
unfolding option_of bind
decided-some none f x e = cc
decided-some (some y) f x e = let q : x ≡ y = cc in ap f q

-- the 16 places of names and values
module _ (m : Model) (instr : Instr) (choice : ℕ) (M : List ℕ) (c : ThreadState) where
  pub turned-names : length c.names ≢ 16 → none ≡ turned m instr choice M c
  unfolding turned
  turned-names n = rw (eq-false (length c.names) 16 n, turned)

  pub turned-values : length c.names ≡ 16 → length c.values ≢ 16 → none ≡ turned m instr choice M c
  unfolding turned
  turned-values e n = rw (e, eq-false (length c.values) 16 n, turned)

  pub turned-step : length c.names ≡ 16 → length c.values ≡ 16 → stepped m instr choice M c ≡ turned m instr choice M c
  unfolding turned
  turned-step e f = rw (e, f, turned)

  pub stepped-none : None ≡ option_of (decided m instr choice M c) → none ≡ stepped m instr choice M c
  unfolding stepped
  stepped-none e = decided-none (decided m instr choice M c) (λ d. applied d m M c) e

  pub stepped-some : (d : Change) → Some d ≡ option_of (decided m instr choice M c) → applied d m M c ≡ stepped m instr choice M c
  unfolding stepped
  stepped-some d e = decided-some (decided m instr choice M c) (λ d. applied d m M c) d e

  -- where there is no step all is as before
  pub stepped-still : stepped m instr choice M c ≡ none → left_by (stepped m instr choice M c) M c ≡ left None M c.registers c.names c.values
  stepped-still e = ap (λ (o : Option Moved). left_by o M c) e
