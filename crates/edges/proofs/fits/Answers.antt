-- `edges::fits` meets its contract.
use mathlib.Core.Path.{◌∙◌}
use Rattle.edges.proofs.Laws.{other-node, no_edge, other-choice, fits}
use Rattle.edges.proofs.fits.Goals as goal

pub returns-then-record-node : goal.returns-then-record-node
returns-then-record-node c =
    let a = c.args in
    other-node a.record.now 0 a.node a.choice a.registers.now c.if-record-node.true

pub returns-in_err-e : goal.returns-in_err-e
returns-in_err-e c =
    let a = c.args in
    c.from_residual.ensures ∙ no_edge a.record.now 0 a.node a.choice a.registers.now c.edge_of.result c.edge_of.ensures c.in_err-e.was

pub returns-then-serves : goal.returns-then-serves
returns-then-serves c =
    let a = c.args in
    fits a.record.now 0 a.node a.choice a.registers.now c.edge_of.result c.edge_of.ensures c.in_ok-e.e c.serves.result c.in_ok-e.was c.if-record-node.false c.serves.ensures c.if-serves.true

pub returns-else-serves : goal.returns-else-serves
returns-else-serves c =
    let a = c.args in
    other-choice a.record.now 0 a.node a.choice a.registers.now c.edge_of.result c.edge_of.ensures c.in_ok-e.e c.serves.result c.in_ok-e.was c.if-record-node.false c.serves.ensures c.if-serves.false
