-- What is left of the search from the record at hand has what it has from its start.
use mathlib.Core.Path.{◌≡◌}
use Rattle.graphs.specs.Records.{records_in}
use Rattle.edges.proofs.Sought.{near_from}
use Rattle.edges.proofs.edge_near.Given as goal

abbrev pub invariant-loop-k : goal.invariant-loop-k
invariant-loop-k l = near_from l.table l.node l.choice l.registers l.k (records_in 7 l.table) ≡ near_from l.table l.node l.choice l.registers l.start (records_in 7 l.table)
