-- A buffered thread in code: 16 places for pairs, variables and values apart, unused places 0.
use mathlib.Core.Option as maybe
use mathlib.Core.Option.{none, some}
use Rattle.std.specs.Prelude.{ℕ, ◌+◌, ◌-◌, List, [], ◌∷◌, map, length, set, take, Option, Some, None}
use Rattle.thread.specs.declared.Line.{Line}
use Rattle.thread.specs.Sizes.{most_waiting}
use Rattle.thread.specs.Numbers.{filled}
use Rattle.pending.specs.Pending.{put_in, take_out}
use Rattle.buffered.specs.Machine.{Pair, var_of, Buffered}
use Rattle.shown.specs.declared.ThreadState.{ThreadState}
use Rattle.buffer.specs.declared.Moved.{Moved}
use Rattle.buffer.specs.declared.Turned.{Turned}

abbrev pub val_of : Pair → ℕ
val_of p = p.val

-- variables and values, pair by pair
unfoldable pub pairs : List ℕ → List ℕ → List Pair
pairs [] vs = []
pairs (x ∷ xs) [] = []
pairs (x ∷ xs) (v ∷ vs) = record { var = x; val = v } ∷ pairs xs vs

-- what the code holds, as a buffered thread: the first `len` pairs wait
unfoldable pub buffered_of : ThreadState → Buffered
unfolding pairs
buffered_of c = record { line = c.line; registers = c.registers; waiting = pairs (take c.count c.names) (take c.count c.values) }

-- a buffered thread, as the code holds it
unfoldable pub core_of : Buffered → ThreadState
unfolding filled
core_of b =
    record {
      line = b.line;
      registers = b.registers;
      names = filled most_waiting (map var_of b.waiting);
      values = filled most_waiting (map val_of b.waiting);
      count = length b.waiting;
    }

-- a step: memory and thread after it
abbrev pub moves : List ℕ → ThreadState → maybe.Option Moved
moves M c = some (record { memory = M; core = c })

-- what a turn answers and what it leaves in the lent lists, as one value
pub record Left : Type 0 where
  pub answer : Option Turned
  pub memory : List ℕ
  pub registers : List ℕ
  pub names : List ℕ
  pub values : List ℕ

abbrev pub left : Option Turned → List ℕ → List ℕ → List ℕ → List ℕ → Left
left t M regs names values = record { answer = t; memory = M; registers = regs; names = names; values = values }

-- after a step the thread's line and count, and the rest in the lists; where there is none nothing, and in the lists memory and thread as before
abbrev pub left_by : maybe.Option Moved → List ℕ → ThreadState → Left
left_by none M c = left None M c.registers c.names c.values
left_by (some m) M c = left (Some (record { line = m.core.line; count = m.core.count })) m.memory m.core.registers m.core.names m.core.values

-- at another line, and with v in register r
abbrev pub at_line : ThreadState → Line → ThreadState
at_line c l = record { line = l; registers = c.registers; names = c.names; values = c.values; count = c.count }

abbrev pub with_register : ThreadState → Line → ℕ → ℕ → ThreadState
with_register c l r v = record { line = l; registers = set c.registers r v; names = c.names; values = c.values; count = c.count }

-- a pair more, at place i
unfoldable pub with_pair : ThreadState → Line → ℕ → ℕ → ℕ → ThreadState
unfolding put_in
with_pair c l i x v = record { line = l; registers = c.registers; names = put_in i x c.names; values = put_in i v c.values; count = c.count + 1 }

-- without the pair at place i
unfoldable pub without_pair : ThreadState → ℕ → ThreadState
unfolding take_out
without_pair c i = record { line = c.line; registers = c.registers; names = take_out i 0 c.names; values = take_out i 0 c.values; count = c.count - 1 }
