-- `good_line` looks at the five numbers of a line.
use Rattle.std.proofs.Common.{◌∙◌, add-zero}
use Rattle.checks.specs.Checks.{good_line}
use Rattle.admit.proofs.Lines.good_line.Goals as goal

pub returns : goal.returns
unfolding good_line
returns c = c.good_fields.ensures ∙ rw (add-zero, c.number.ensures, c.number-2.ensures, c.number-3.ensures, c.number-4.ensures, c.number-5.ensures)
