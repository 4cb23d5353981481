-- `edges::op_of` meets its contract.
use mathlib.Core.Path.{◌∙◌}
use Rattle.edges.proofs.Laws.{op-junk, op-there, op-lost}
use Rattle.edges.proofs.op_of.Goals as goal

pub returns-in_err-op : goal.returns-in_err-op
returns-in_err-op c =
    let a = c.args in
    c.from_residual.ensures ∙ op-junk a.o a.a a.b a.c a.d c.op_named.result c.op_named.ensures c.in_err-op.was

pub returns-then-in_range : goal.returns-then-in_range
returns-then-in_range c =
    let a = c.args in
    op-there a.o a.a a.b a.c a.d c.op_named.result c.op_named.ensures c.in_ok-op.op c.in_range.result c.in_ok-op.was c.in_range.ensures c.if-in_range.true

pub returns-else-in_range : goal.returns-else-in_range
returns-else-in_range c =
    let a = c.args in
    op-lost a.o a.a a.b a.c a.d c.op_named.result c.op_named.ensures c.in_ok-op.op c.in_range.result c.in_ok-op.was c.in_range.ensures c.if-in_range.false
