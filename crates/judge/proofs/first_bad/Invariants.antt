-- `first_bad` finds the first thread that is refused: none before thread t is.
use mathlib.Core.Path.{◌≡◌}
use Prim.Native.Nat.{◌-◌}
use Rattle.runs.specs.Run.{first_bad}
use Rattle.judge.proofs.First.{refusals}
use Rattle.judge.proofs.first_bad.Given as goal

abbrev pub invariant-loop-t : goal.invariant-loop-t
invariant-loop-t l = first_bad (refusals l.model l.tables) 0 l.threads ≡ first_bad (refusals l.model l.tables) l.t (l.threads - l.t)
