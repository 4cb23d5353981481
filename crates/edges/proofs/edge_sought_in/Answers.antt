-- `edges::edge_sought_in` meets its contract.
use Rattle.edges.proofs.Sought.{near-start}
use Rattle.edges.proofs.edge_sought_in.Goals as goal

pub returns : goal.returns
returns c =
    let a = c.args in
    near-start a.table.now a.node a.choice a.registers.now c.start_of.result c.edge_near.result c.start_of.ensures c.edge_near.ensures
