-- `digits` meets its contract: what is read of all digits is what is read of those left, behind the number so far. Assumes nothing.
use mathlib.Core.Path.{◌≡◌}
use Prim.Native.Nat.{◌≤◌}
use lib.ListN.{drop}
use Rattle.decimal.specs.Decimal.{most, read_from}
use Rattle.decimal.proofs.digits.Given as goal

abbrev pub invariant-loop-d : goal.invariant-loop-d
invariant-loop-d l = (l.value ≤ most) × (read_from 0 l.bytes ≡ read_from l.value (drop l.d-index l.bytes))
