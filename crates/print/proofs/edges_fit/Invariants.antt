-- The edges left fit behind the last one exactly if all do.
use mathlib.Core.Path.{◌≡◌}
use Prim.Native.Nat.{◌-◌}
use Rattle.printed.specs.Text.{up_from}
use Rattle.printed.specs.IsGraph.{edges_fit}
use Rattle.print.proofs.edges_fit.Given as goal

abbrev pub invariant-loop-j : goal.invariant-loop-j
invariant-loop-j l = edges_fit l.table l.n l.low (up_from l.j (l.m - l.j)) ≡ edges_fit l.table l.n 0 (up_from 0 l.m)
