-- `bad_target` refuses the lowest line with a wrong target: the invariant says what is left to look at.
use mathlib.Core.Path.{◌≡◌}
use Rattle.thread.specs.declared.Refusal.TheVariants as R
use Rattle.checks.specs.Checks.{bad_target}
use Rattle.admit.specs.Answer.{answer}
use Rattle.admit.proofs.Lowest.{from_line, wrong}
use Rattle.admit.proofs.Lines.bad_target.Given as goal

abbrev pub invariant-loop-l : goal.invariant-loop-l
invariant-loop-l l = answer (bad_target l.self.table.now) ≡ from_line R.BadTarget (wrong l.self.table.now l.self.count) l.self.count l.l
