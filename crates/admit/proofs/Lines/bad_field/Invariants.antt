-- `bad_field` refuses the lowest bad line: the invariant says what is left to look at.
use mathlib.Core.Path.{◌≡◌}
use Rattle.thread.specs.declared.Refusal.TheVariants as R
use Rattle.checks.specs.Checks.{bad_field}
use Rattle.admit.specs.Answer.{answer}
use Rattle.admit.proofs.Lowest.{from_line, bad}
use Rattle.admit.proofs.Lines.bad_field.Given as goal

abbrev pub invariant-loop-l : goal.invariant-loop-l
invariant-loop-l l = answer (bad_field l.self.table.now) ≡ from_line R.BadField (bad l.self.table.now) l.self.count l.l
