-- How many fields an operation has.
use Prim.Native.Nat.{ℕ, zero, suc, ◌≤◌}
use native.Mathlib.Omega.{arith}
use mathlib.Core.List.{List, [], ◌∷◌}
use lib.ListN.{get_or}
use lib.Dec.{lit≤}
use Rattle.lists.specs.Lists.{All}
use Rattle.printed.specs.Graph.{field_count, field_counts}

-- an operation has at most four fields
few : (l : List ℕ) (op : ℕ) → All (λ x. x ≤ 4) l → get_or l op 0 ≤ 4
few [] op h = omega arith
few (x ∷ l) zero h = h.0
few (x ∷ l) (suc op) h = few l op h.1

pub few_fields : (op : ℕ) → field_count op ≤ 4
unfolding field_count
few_fields op =
    few field_counts op
    (lit≤ tt, (lit≤ tt, (lit≤ tt, (lit≤ tt, (lit≤ tt, (lit≤ tt, (lit≤ tt, (lit≤ tt, (lit≤ tt, (lit≤ tt, (lit≤ tt, (lit≤ tt, (lit≤ tt, tt)))))))))))))
