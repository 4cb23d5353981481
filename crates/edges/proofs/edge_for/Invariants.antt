-- What is left of the scan from the record at hand has what the whole table has.
use mathlib.Core.Path.{◌≡◌}
use Rattle.graphs.specs.Records.{records_in, edges_in}
use Rattle.generated.specs.Machine.{edge_for}
use Rattle.edges.proofs.Scan.{edge_from}
use Rattle.edges.proofs.edge_for.Given as goal

abbrev pub invariant-loop-record : goal.invariant-loop-record
invariant-loop-record l = edge_from l.table l.record-index (records_in 7 l.table) l.node l.choice l.registers ≡ edge_for (edges_in l.table) l.node l.choice l.registers
