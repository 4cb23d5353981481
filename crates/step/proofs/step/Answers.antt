-- `step::step` meets its contract.
use mathlib.Core.Path.{◌∙◌}
use Rattle.step.proofs.Laws.{step_none, step-done}
use Rattle.step.proofs.step.Goals as goal

pub returns-in_err-change : goal.returns-in_err-change
returns-in_err-change c =
    let a = c.args in
    c.from_residual.ensures ∙ step_none a.table.now a.choice a.memory a.own c.decide.result c.decide.ensures c.in_err-change.was

pub returns : goal.returns
returns c =
    let a = c.args in
    step-done a.table.now a.choice a.memory a.own c.decide.result c.in_ok-change.change c.apply.result c.decide.ensures c.in_ok-change.was c.apply.ensures
