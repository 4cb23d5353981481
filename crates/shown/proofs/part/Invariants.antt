-- `part` copies the numbers of one thread: the first j places are filled.
use Rattle.shown.proofs.Copying.{Copied}
use Rattle.shown.proofs.part.Given as goal

abbrev pub invariant-loop-j : goal.invariant-loop-j
invariant-loop-j l = Copied l.all l.t l.own l.j
