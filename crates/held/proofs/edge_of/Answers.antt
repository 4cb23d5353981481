-- `held::edge_of` meets its contract.
use mathlib.Core.Path.{◌∙◌}
use native.Mathlib.Omega.{arith}
use Rattle.held.proofs.Records.{past_end, edge-there}
use Rattle.held.proofs.edge_of.Goals as goal

pub returns-in_err-record : goal.returns-in_err-record
returns-in_err-record c =
    let a = c.args in
    c.from_residual.ensures ∙ past_end a.table.now a.k (omega (arith, c.records.ensures.count, c.in_err-record.ensures.lookup.3))

pub returns : goal.returns
returns c =
    let a = c.args in
    let found = c.in_ok-record.ensures.lookup in
    edge-there a.table.now a.k c.records.result.now c.records.ensures.records c.records.ensures.count found.3.0 c.in_ok-record.record.now found.1 c.edge_of.result c.edge_of.ensures
