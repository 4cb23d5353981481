-- `edges::edge_of` meets its contract.
use mathlib.Core.Path.{◌∙◌}
use Rattle.edges.proofs.Laws.{not-edge, an-edge}
use Rattle.edges.proofs.edge_of.Goals as goal

pub returns-in_err-op : goal.returns-in_err-op
returns-in_err-op c = c.from_residual.ensures ∙ not-edge c.args.record.now 0 c.op_of.result c.op_of.ensures c.in_err-op.was

pub returns : goal.returns
returns c = an-edge c.args.record.now 0 c.op_of.result c.op_of.ensures c.in_ok-op.op c.in_ok-op.was
