-- One step of a buffered thread in code: what a choice changes, made.
use Rattle.std.specs.Prelude.{Bool, cond, ◌&&◌, ℕ, min, List, length, set, eqb, ltb}
use Rattle.std.proofs.Math.Option.{Option, none, bind}
use Rattle.thread.specs.declared.Line.{Line}
use Rattle.thread.specs.declared.Model.{Model}
use Rattle.thread.specs.declared.Instr.{Instr}
use Rattle.thread.specs.Sizes.{most_waiting}
use Rattle.thread.specs.Numbers.{◌!◌}
use Rattle.pending.specs.Places.{place_for}
use Rattle.shown.specs.declared.ThreadState.{ThreadState}
use Rattle.chosen.specs.declared.Change.{Change}
use Rattle.chosen.specs.declared.Change.TheVariants as C
use Rattle.chosen.specs.Decide.{waiting_vars, decided}
use Rattle.buffer.specs.declared.Moved.{Moved}
use Rattle.buffer.specs.States.{moves, at_line, with_register, with_pair, without_pair}

-- a pair more waits, if there is a place for it
unfoldable pub waits : Model → List ℕ → ThreadState → Line → ℕ → ℕ → Option Moved
unfolding place_for with_pair
waits m M c l x v = cond (ltb c.count most_waiting) (moves M (with_pair c l (place_for m (waiting_vars c) x) x v)) none

-- the pair at place i reaches memory, if one waits there
unfoldable pub puts : List ℕ → ThreadState → ℕ → Option Moved
unfolding without_pair
puts M c i = cond (ltb i (min c.count most_waiting)) (moves (set M (c.names ! i) (c.values ! i)) (without_pair c i)) none

-- the change made
unfoldable pub applied : Change → Model → List ℕ → ThreadState → Option Moved
unfolding waits puts
applied (C.Go l) m M c = moves M (at_line c l)
applied (C.Register l r v) m M c = moves M (with_register c l r v)
applied (C.Wait l x v) m M c = waits m M c l x v
applied (C.Swap l r x v) m M c = moves (set M x v) (with_register c l r 1)
applied (C.Put i) m M c = puts M c i

-- one step: decide, then apply
unfoldable pub stepped : Model → Instr → ℕ → List ℕ → ThreadState → Option Moved
unfolding decided applied bind
stepped m i choice M c = bind (decided m i choice M c) (λ d. applied d m M c)

-- 16 places for names, and 16 for values
abbrev pub placed : ThreadState → Bool
placed c = eqb (length c.names) most_waiting && eqb (length c.values) most_waiting

-- one step in lent lists: there is none where the pairs have not their 16 places
unfoldable pub turned : Model → Instr → ℕ → List ℕ → ThreadState → Option Moved
unfolding stepped
turned m i choice M c = cond (placed c) (stepped m i choice M c) none
