-- `unfenced_loop` refuses the lowest store line of an unfenced loop: the invariant says what is left to look at.
use mathlib.Core.Path.{◌≡◌}
use Rattle.thread.specs.declared.Refusal.TheVariants as R
use Rattle.thread.specs.Table.{instr_at}
use Rattle.checks.specs.Lines.{unfenced}
use Rattle.checks.specs.Checks.{unfenced_loop}
use Rattle.admit.specs.Answer.{answer}
use Rattle.admit.proofs.Lowest.{from_line}
use Rattle.admit.proofs.ClosedLines.unfenced_loop.Given as goal

abbrev pub invariant-loop-l : goal.invariant-loop-l
invariant-loop-l l = answer (unfenced_loop l.self.table.now) ≡ from_line R.UnfencedLoop (unfenced (instr_at l.self.table.now) l.self.count) l.self.count l.l
