-- The search in a table whose records stand in the order of the nodes they leave: where a node's records begin, and the first of them that serves.
use Rattle.std.specs.Prelude.{Bool, cond, ℕ, zero, suc, ◌+◌, ◌-◌, ◌*◌, ◌/◌, ◌≤◌, ◌<◌, List, ltb, eqb}
use Rattle.std.proofs.Math.Option.{Option, none, some}
use Rattle.std.specs.Simd.{first_chunks}
use Rattle.lists.specs.Lists.{listed}
use Rattle.thread.specs.declared.Node.{Node}
use Rattle.thread.specs.Sizes.{edge_width}
use Rattle.thread.specs.Numbers.{◌!◌}
use Rattle.graphs.specs.declared.Edge.{Edge}
use Rattle.graphs.specs.Records.{edge_at, records_in}
use Rattle.generated.specs.Machine.{edge_for}

-- the records of a table, each seven numbers
abbrev pub records_of : List ℕ → List (List ℕ)
records_of t = first_chunks edge_width (records_in edge_width t) t

-- the node that record k leaves, by its number
abbrev pub from_at : List ℕ → ℕ → ℕ
from_at t k = t ! (edge_width * k)

-- the records stand in the order of the nodes they leave
abbrev pub Sorted : List ℕ → Type 0
Sorted t = (i j : ℕ) → i ≤ j → j < records_in edge_width t → from_at t i ≤ from_at t j

-- record k leaves a node below n
abbrev pub lower : List ℕ → Node → ℕ → Bool
lower t n k = ltb (from_at t k) n.0

-- halving from lo to hi, in at most n turns: up where the test holds in the middle, else down
unfoldable pub halved : (ℕ → Bool) → ℕ → ℕ → ℕ → ℕ
halved p zero lo hi = lo
halved p (suc n) lo hi =
    let mid = lo + (hi - lo) / 2 in
    cond (ltb lo hi) (halved p n (cond (p mid) (mid + 1) lo) (cond (p mid) hi mid)) lo

-- where the records that leave a node begin, found by halving
unfoldable pub start_of : List ℕ → Node → ℕ
unfolding halved
start_of t n = halved (lower t n) (records_in edge_width t) 0 (records_in edge_width t)

-- record k of a table, if it is an edge that leaves node n and serves the choice
abbrev pub edge_there : List ℕ → ℕ → Node → ℕ → List ℕ → Option Edge
edge_there t k n c R = edge_for (listed (edge_at t k)) n c R

-- of the m records from k on, the first that serves the choice, as long as they leave node n
unfoldable pub edge_near : List ℕ → Node → ℕ → List ℕ → ℕ → ℕ → Option Edge
edge_near t n c R k zero = none
edge_near t n c R k (suc m) =
    cond (eqb (from_at t k) n.0) (elim (edge_there t k n c R) [ some e ↦ some e | none ↦ edge_near t n c R (suc k) m ]) none

unfoldable pub edge_sought : List ℕ → Node → ℕ → List ℕ → Option Edge
unfolding start_of edge_near
edge_sought t n c R = edge_near t n c R (start_of t n) (records_in edge_width t - start_of t n)
