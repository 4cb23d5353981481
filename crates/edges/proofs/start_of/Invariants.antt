-- `edges::start_of` meets its contract.
use Prim.Native.Nat.{◌-◌, ◌≤◌}
use Rattle.graphs.specs.Records.{records_in}
use Rattle.edges.specs.Sought.{lower, start_of}
use Rattle.edges.proofs.Halving.{Leads}
use Rattle.edges.proofs.start_of.Given as goal

abbrev pub invariant-loop-lo : goal.invariant-loop-lo
invariant-loop-lo l = (l.lo ≤ l.hi) × (l.hi ≤ records_in 7 l.table) × Leads (lower l.table l.node) l.lo l.hi (start_of l.table l.node)

abbrev pub decreases-loop-lo : goal.decreases-loop-lo
decreases-loop-lo l = l.hi - l.lo
