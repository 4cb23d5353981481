-- A table's records, seven numbers each: what they hold is what the table holds from their places on.
use mathlib.Core.Path.{◌≡◌, ap, ◌∙◌}
use mathlib.Core.Option.{Option, map}
use Prim.Native.Nat.{ℕ, zero, suc, ◌+◌, ◌*◌, ◌≤◌, ◌<◌}
use native.Mathlib.Omega.{arith}
use mathlib.Core.List.{List, []}
use lib.ListN.{length, get_or, drop, length-drop}
use Rattle.std.specs.Prelude as code
use Rattle.std.specs.Simd.{first_chunks}
use Rattle.std.proofs.lemmas.List.{get_or-take, get_or-drop}
use Rattle.lists.specs.Lists.{listed}
use Rattle.lists.specs.Options.{option_of}
use Rattle.thread.specs.declared.Node.{Node}
use Rattle.thread.specs.declared.Op.{Op}
use Rattle.thread.specs.Numbers.{◌!◌}
use Rattle.thread.specs.Operation.{op_of}
use Rattle.graphs.specs.declared.Edge.{Edge}
use Rattle.graphs.specs.Records.{node, edge_at, records_in}
use Rattle.generated.specs.Machine.{edge_for}
use Rattle.edges.specs.Sought.{records_of, from_at, edge_there}

pub number-in : (n : ℕ) (t : List ℕ) (k j : ℕ) (d : List ℕ) → k < n → 7 * n ≤ length t → j < 7 → get_or (first_chunks 7 n t) k d ! j ≡ t ! (7 * k + j)
number-in zero t k j d h g i = absurd (omega arith)
number-in (suc n) t zero j d h g i =
    let e : j ≡ 7 * 0 + j = omega arith in
    get_or-take 7 t j 0 i ∙ ap (λ (m : ℕ). t ! m) e
number-in (suc n) t (suc k) j d h g i =
    let e : 7 + (7 * k + j) ≡ 7 * suc k + j = omega arith in
    number-in n (drop 7 t) k j d (omega arith) (rw length-drop (omega arith)) i ∙ get_or-drop 7 t (7 * k + j) 0 ∙ ap (λ (m : ℕ). t ! m) e

module _ (t : List ℕ) (k : ℕ) (d : List ℕ) (h : k < records_in 7 t) where
  abbrev record-k : List ℕ
  record-k = get_or (records_of t) k d

  at : (j : ℕ) → j < 7 → record-k ! j ≡ t ! (7 * k + j)
  at j i = number-in (records_in 7 t) t k j d h (omega arith) i

  pub from-in : record-k ! 0 ≡ from_at t k
  from-in = let e : 7 * k + 0 ≡ 7 * k = omega arith in at 0 (omega arith) ∙ ap (λ (m : ℕ). t ! m) e

  edge-in : edge_at record-k 0 ≡ edge_at t k
  unfolding edge_at
  edge-in =
      let p₀ = from-in in
      let p₁ = at 1 (omega arith) in
      let p₂ = at 2 (omega arith) in
      let p₃ = at 3 (omega arith) in
      let p₄ = at 4 (omega arith) in
      let p₅ = at 5 (omega arith) in
      let p₆ = at 6 (omega arith) in
      λ i. map (λ (o : Op). record { from = node (p₀ i); to = node (p₁ i); op = o }) (op_of (p₂ i) (p₃ i) (p₄ i) (p₅ i) (p₆ i))

  pub there-in : (n : Node) (c : ℕ) (R : List ℕ) → edge_there record-k 0 n c R ≡ edge_there t k n c R
  there-in n c R = ap (λ (o : Option Edge). edge_for (listed o) n c R) edge-in

-- the code's way: rs are the records that it reads
module _ (t : List ℕ) (rs : List (List ℕ)) (e : rs ≡ records_of t) (k : ℕ) (h : k < records_in 7 t) where
  pub from-read : get_or rs k [] ! 0 ≡ from_at t k
  from-read = rw e (from-in t k [] h)

  pub edge-read : edge_at (get_or rs k []) 0 ≡ edge_at t k
  edge-read = rw e (edge-in t k [] h)

  pub there-read : (n : Node) (c : ℕ) (R : List ℕ) (r : code.Option Edge) → r ≡ option_of (edge_there (get_or rs k []) 0 n c R) → r ≡ option_of (edge_there t k n c R)
  there-read n c R r q = q ∙ ap (λ (l : List (List ℕ)). option_of (edge_there (get_or l k []) 0 n c R)) e ∙ ap option_of (there-in t k [] h n c R)
