-- Laws of the tests that a graph can be printed: the nodes in one go, and what the tests say of the edges.
use mathlib.Core.Path.{◌≡◌, refl, ap, ◌∙◌}
use mathlib.Core.Bool.{Bool, ◌&&◌}
use Prim.Native.Nat.{ℕ, zero, suc, ◌*◌}
use mathlib.Core.List.{List, [], ◌∷◌}
use lib.ListN.{length}
use lib.Dec.{T, leb, ltb}
use Rattle.std.specs.List.{list_all, range_with_len}
use Rattle.thread.specs.Sizes.{most_waiting}
use native.Mathlib.Numerals.{add-one}
use Rattle.lists.proofs.Tests.{true-le, true-lt, is_true, both}
use Rattle.printed.specs.Text.{up_from}
use Rattle.printed.specs.Graph.{count_of, from_of, op_of}
use Rattle.printed.specs.IsGraph.{most_op, nodes_fit, edges_fit, EdgesFit, is_graph}

-- the nodes as the code goes over them
numbered : (k n : ℕ) → range_with_len k n ≡ up_from k n
unfolding up_from
numbered k zero = refl
numbered k (suc n) = ap (λ (l : List ℕ). k ∷ l) (ap (λ (i : ℕ). range_with_len i n) (add-one k) ∙ numbered (suc k) n)

all-fit : (t ks : List ℕ) → list_all (λ k. leb (count_of t k) most_waiting) ks ≡ nodes_fit t ks
unfolding nodes_fit
all-fit t [] = refl
all-fit t (k ∷ ks) = ap (λ (b : Bool). leb (count_of t k) most_waiting && b) (all-fit t ks)

pub nodes-all : (t : List ℕ) (n : ℕ) → list_all (λ k. leb (count_of t k) most_waiting) (range_with_len 0 n) ≡ nodes_fit t (up_from 0 n)
nodes-all t n = rw (numbered 0 n) (all-fit t (up_from 0 n))

pub edges-statement : (t : List ℕ) (n low : ℕ) (js : List ℕ) → T (edges_fit t n low js) → EdgesFit t n low js
unfolding edges_fit
edges-statement t n low [] h = tt
edges-statement t n low (j ∷ js) h =
    let last : Bool = edges_fit t n (from_of t j) js in
    let a = both (leb low (from_of t j)) (ltb (from_of t j) n && (leb (op_of t j) most_op && last)) h in
    let b = both (ltb (from_of t j) n) (leb (op_of t j) most_op && last) a.1 in
    let c = both (leb (op_of t j) most_op) last b.1 in
    (true-le low (from_of t j) (is_true _ a.0), true-lt (from_of t j) n (is_true _ b.0), true-le (op_of t j) most_op (is_true _ c.0), edges-statement t n (from_of t j) js c.1)

-- what the tests of a graph say of its edges
module _ (model n m : ℕ) (nt et : List ℕ) where
  pub graph_edges_fit : T (is_graph model n m nt et) → EdgesFit et n 0 (up_from 0 m)
  unfolding is_graph
  graph_edges_fit h =
      let last : Bool = nodes_fit nt (up_from 0 n) && edges_fit et n 0 (up_from 0 m) in
      let a = (both (leb model 1) (leb (18 * n) (length nt) && (leb (7 * m) (length et) && last)) h).1 in
      let b = (both (leb (18 * n) (length nt)) (leb (7 * m) (length et) && last) a).1 in
      let c = (both (leb (7 * m) (length et)) last b).1 in
      edges-statement et n 0 (up_from 0 m) (both (nodes_fit nt (up_from 0 n)) (edges_fit et n 0 (up_from 0 m)) c).1
