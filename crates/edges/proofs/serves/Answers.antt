-- `edges::serves` meets its contract.
use Rattle.edges.proofs.Laws.{serves-not, serves-tested}
use Rattle.edges.proofs.serves.Goals as goal

pub returns-then-choice_of-choice : goal.returns-then-choice_of-choice
returns-then-choice_of-choice c =
    let a = c.args in
    serves-not a.choice a.registers.now a.op c.choice_of.result c.choice_of.ensures c.if-choice_of-choice.true

pub returns : goal.returns
returns c =
    let a = c.args in
    serves-tested a.choice a.registers.now a.op c.choice_of.result c.choice_of.ensures c.test_holds.result c.if-choice_of-choice.false c.test_holds.ensures
