-- What a choice changes.
use Rattle.std.specs.Prelude.{cond, ℕ, zero, suc, List, take, eqb}
use Rattle.std.proofs.Math.Option.{Option, none, some, map, Option-elim}
use Rattle.thread.specs.declared.Line.{Line}
use Rattle.thread.specs.declared.Model.{Model}
use Rattle.thread.specs.declared.Instr.{Instr}
use Rattle.thread.specs.declared.Instr.TheVariants as I
use Rattle.thread.specs.Word.{add32, sub32}
use Rattle.thread.specs.Numbers.{◌!◌}
use Rattle.thread.specs.Table.{line}
use Rattle.pending.specs.Places.{last_for, ready_at}
use Rattle.shown.specs.declared.ThreadState.{ThreadState}
use Rattle.chosen.specs.declared.Lent.{Lent}
use Rattle.chosen.specs.declared.Change.{Change}
use Rattle.chosen.specs.declared.Change.TheVariants as C

-- a thread in lent lists, as one value
abbrev pub thread_of : Line → ℕ → List ℕ → List ℕ → List ℕ → ThreadState
thread_of l n regs names values = record { line = l; registers = regs; names = names; values = values; count = n }

abbrev pub thread_lent : Lent → ThreadState
thread_lent t = thread_of t.line t.count t.registers.now t.names.now t.values.now

-- the next line; behind line 2^32 - 1 comes line 0
unfoldable pub following : Line → Line
unfolding add32
following l = line (add32 l.0 1)

-- the variables of the pairs that wait
abbrev pub waiting_vars : ThreadState → List ℕ
waiting_vars c = take c.count c.names

-- "A load takes the newest waiting value for its variable, else memory"
unfoldable pub seen_by : List ℕ → ThreadState → ℕ → ℕ
unfolding last_for Option-elim
seen_by M c x = Option-elim (last_for (waiting_vars c) x) (M ! x) (λ i. c.values ! i)

-- "passes when nothing waits"
abbrev pub drained_change : ThreadState → Change → Option Change
drained_change c d = cond (eqb c.count 0) (some d) none

-- a cas that passes: "if memory x equals s, x becomes t and r becomes 1; else r becomes 0"
unfoldable pub cas_change : Line → ℕ → ℕ → ℕ → ℕ → List ℕ → List ℕ → Change
cas_change on r x s t M regs = cond (eqb (M ! x) (regs ! s)) (C.Swap on r x (regs ! t)) (C.Register on r 0)

-- what the program step changes, if there is one now
unfoldable pub program_change : Instr → List ℕ → ThreadState → Option Change
unfolding following seen_by cas_change add32 sub32
program_change (I.Set r v) M c = some (C.Register (following c.line) r v)
program_change (I.Copy r s) M c = some (C.Register (following c.line) r (c.registers ! s))
program_change (I.Add r s t) M c = some (C.Register (following c.line) r (add32 (c.registers ! s) (c.registers ! t)))
program_change (I.Sub r s t) M c = some (C.Register (following c.line) r (sub32 (c.registers ! s) (c.registers ! t)))
program_change (I.Load r x) M c = some (C.Register (following c.line) r (seen_by M c x))
program_change (I.StoreR x r) M c = some (C.Wait (following c.line) x (c.registers ! r))
program_change (I.StoreC x v) M c = some (C.Wait (following c.line) x v)
program_change I.Fence M c = drained_change c (C.Go (following c.line))
program_change (I.Cas r x s t) M c = drained_change c (cas_change (following c.line) r x s t M c.registers)
program_change (I.Branch r to) M c = some (C.Go (cond (eqb (c.registers ! r) 0) (following c.line) to))
program_change (I.Jump to) M c = some (C.Go to)
program_change I.Return M c = none

-- which pair the waiting store to x is
unfoldable pub put_change : Model → ℕ → ThreadState → Option Change
unfolding ready_at
put_change m x c = map C.Put (ready_at m (waiting_vars c) x)

-- choice 0 is the program step, 1 + x the waiting store to x reaching memory
unfoldable pub decided : Model → Instr → ℕ → List ℕ → ThreadState → Option Change
unfolding program_change put_change
decided m i zero M c = program_change i M c
decided m i (suc x) M c = put_change m x c
