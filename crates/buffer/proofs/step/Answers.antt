-- `step` decides and applies.
use mathlib.Core.Path.{ap, ◌∙◌}
use Rattle.lists.specs.Options.{option_of}
use Rattle.buffer.proofs.Cases.{stepped-none, stepped-some}
use Rattle.buffer.proofs.step.Goals as goal

pub returns-in_err-change : goal.returns-in_err-change
unfolding option_of
returns-in_err-change c =
    let a = c.args in
    c.from_residual.ensures ∙ ap option_of (stepped-none a.model a.instr a.choice a.memory a.core c.in_err-change.ensures)

pub returns : goal.returns
returns c =
    let a = c.args in
    c.apply.ensures ∙ ap option_of (stepped-some a.model a.instr a.choice a.memory a.core c.in_ok-change.change c.in_ok-change.ensures)
