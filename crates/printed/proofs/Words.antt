-- The test that a graph can be printed says what `IsGraph` says in words.
use mathlib.Core.Path.{◌≡◌}
use mathlib.Core.Bool.{Bool, ◌&&◌}
use mathlib.Core.Logic.{◌↔◌}
use Prim.Native.Nat.{ℕ, zero, suc, ◌+◌, ◌*◌, ◌≤◌, ◌<◌}
use native.Mathlib.Decide.{dec_lt}
use native.Mathlib.Omega.{arith}
use mathlib.Core.List.{List}
use lib.ListN.{length}
use lib.Dec.{T, leb, ltb, le→leb, lt→ltb, leb→le}
use Rattle.lists.proofs.Tests.{both, and_T}
use Rattle.printed.specs.Text.{up_from}
use Rattle.printed.specs.Graph.{count_of, from_of, op_of}
use Rattle.printed.specs.IsGraph.{most_op, nodes_fit, edges_fit, EdgesFit, is_graph, IsGraph}
use Rattle.printed.proofs.Fits.{edges-statement}

-- the counts of x nodes from k on
module _ (t : List ℕ) where
  counts-fit : (x k : ℕ) → ((i : ℕ) → k ≤ i → i < k + x → count_of t i ≤ 16) → T (nodes_fit t (up_from k x))
  unfolding nodes_fit up_from
  counts-fit zero k h = tt
  counts-fit (suc x) k h =
      and_T (leb (count_of t k) 16) (nodes_fit t (up_from (suc k) x)) (le→leb (count_of t k) 16 (h k (omega arith) (omega arith)))
      (counts-fit x (suc k) (λ i a b. h i (omega arith) (omega arith)))

  fit-counts : (x k : ℕ) → T (nodes_fit t (up_from k x)) → (i : ℕ) → k ≤ i → i < k + x → count_of t i ≤ 16
  unfolding nodes_fit up_from
  fit-counts zero k h i a b = absurd (omega arith)
  fit-counts (suc x) k h i a b =
      let p = both (leb (count_of t k) 16) (nodes_fit t (up_from (suc k) x)) h in
      go (leb→le (count_of t k) 16 p.0) (fit-counts x (suc k) p.1 i) (dec_lt k i)
    where
      go : count_of t k ≤ 16 → (suc k ≤ i → i < suc k + x → count_of t i ≤ 16) → Dec (k < i) → count_of t i ≤ 16
      go here ih (yes s) = ih s (omega arith)
      go here ih (no s) = let e : i ≡ k = omega arith in rw e here

-- edges in order
module _ (t : List ℕ) (n : ℕ) where
  pub edge-fits : (x low j : ℕ) → EdgesFit t n low (up_from j x) → (i : ℕ) → j ≤ i → i < j + x → (low ≤ from_of t i) × (from_of t i < n) × (op_of t i ≤ most_op)
  unfolding up_from
  edge-fits zero low j f i a b = absurd (omega arith)
  edge-fits (suc x) low j f i a b = go (edge-fits x (from_of t j) (suc j) f.3 i) (dec_lt j i)
    where
      go : (suc j ≤ i → i < suc j + x → (from_of t j ≤ from_of t i) × (from_of t i < n) × (op_of t i ≤ most_op)) → Dec (j < i)
          → (low ≤ from_of t i) × (from_of t i < n) × (op_of t i ≤ most_op)
      go ih (yes s) = let r = ih s (omega arith) in let l : low ≤ from_of t j = f.0 in let q = r.0 in (omega arith, r.1, r.2)
      go ih (no s) = let e : i ≡ j = omega arith in rw e (f.0, f.1, f.2)

  ordered : (x low j : ℕ) → EdgesFit t n low (up_from j x) → (a b : ℕ) → j ≤ a → a ≤ b → b < j + x → from_of t a ≤ from_of t b
  unfolding up_from
  ordered zero low j f a b g h k = absurd (omega arith)
  ordered (suc x) low j f a b g h k = go (ordered x (from_of t j) (suc j) f.3 a b) (edge-fits x (from_of t j) (suc j) f.3 b) (dec_lt j a) (dec_lt j b)
    where
      go : (suc j ≤ a → a ≤ b → b < suc j + x → from_of t a ≤ from_of t b)
          → (suc j ≤ b → b < suc j + x → (from_of t j ≤ from_of t b) × (from_of t b < n) × (op_of t b ≤ most_op))
          → Dec (j < a) → Dec (j < b) → from_of t a ≤ from_of t b
      go ih at (yes s) r = ih s h (omega arith)
      go ih at (no s) (yes r) = let e : a ≡ j = omega arith in rw e (at r (omega arith)).0
      go ih at (no s) (no r) = let e : a ≡ j = omega arith in let d : b ≡ j = omega arith in rw (e, d) (omega arith)

  edges-fit : (x low j : ℕ) → ((i : ℕ) → j ≤ i → i < j + x → low ≤ from_of t i) → ((i : ℕ) → j ≤ i → i < j + x → from_of t i < n)
      → ((i : ℕ) → j ≤ i → i < j + x → op_of t i ≤ most_op) → ((a b : ℕ) → j ≤ a → a ≤ b → b < j + x → from_of t a ≤ from_of t b)
      → T (edges_fit t n low (up_from j x))
  unfolding edges_fit up_from
  edges-fit zero low j l f o r = tt
  edges-fit (suc x) low j l f o r =
      let rest : Bool = edges_fit t n (from_of t j) (up_from (suc j) x) in
      let h : j < j + suc x = omega arith in
      let ih : T rest =
      edges-fit x (from_of t j) (suc j) (λ i a b. r j i (omega arith) (omega arith) (omega arith)) (λ i a b. f i (omega arith) (omega arith))
      (λ i a b. o i (omega arith) (omega arith)) (λ a b g k h. r a b (omega arith) k (omega arith)) in
      and_T (leb low (from_of t j)) (ltb (from_of t j) n && (leb (op_of t j) most_op && rest)) (le→leb low (from_of t j) (l j (omega arith) h))
      (and_T (ltb (from_of t j) n) (leb (op_of t j) most_op && rest) (lt→ltb (from_of t j) n (f j (omega arith) h))
      (and_T (leb (op_of t j) most_op) rest (le→leb (op_of t j) most_op (o j (omega arith) h)) ih))

module _ (model n m : ℕ) (nt et : List ℕ) where
  to-words : T (is_graph model n m nt et) → IsGraph model n m nt et
  unfolding is_graph
  to-words h =
      let last : Bool = nodes_fit nt (up_from 0 n) && edges_fit et n 0 (up_from 0 m) in
      let a = both (leb model 1) (leb (18 * n) (length nt) && (leb (7 * m) (length et) && last)) h in
      let b = both (leb (18 * n) (length nt)) (leb (7 * m) (length et) && last) a.1 in
      let c = both (leb (7 * m) (length et)) last b.1 in
      let d = both (nodes_fit nt (up_from 0 n)) (edges_fit et n 0 (up_from 0 m)) c.1 in
      let f : EdgesFit et n 0 (up_from 0 m) = edges-statement et n 0 (up_from 0 m) d.1 in
      record {
        known = leb→le model 1 a.0;
        nodes = leb→le (18 * n) (length nt) b.0;
        edges = leb→le (7 * m) (length et) c.0;
        counts = λ k h. fit-counts nt n 0 d.0 k (omega arith) (omega arith);
        ops = λ j h. (edge-fits et n m 0 0 f j (omega arith) (omega arith)).2;
        froms = λ j h. (edge-fits et n m 0 0 f j (omega arith) (omega arith)).1;
        order = λ i j h k. ordered et n m 0 0 f i j (omega arith) h (omega arith);
      }

  from-words : IsGraph model n m nt et → T (is_graph model n m nt et)
  unfolding is_graph
  from-words g =
      let last : Bool = nodes_fit nt (up_from 0 n) && edges_fit et n 0 (up_from 0 m) in
      and_T (leb model 1) (leb (18 * n) (length nt) && (leb (7 * m) (length et) && last)) (le→leb model 1 g.known)
      (and_T (leb (18 * n) (length nt)) (leb (7 * m) (length et) && last) (le→leb (18 * n) (length nt) g.nodes)
      (and_T (leb (7 * m) (length et)) last (le→leb (7 * m) (length et) g.edges)
      (and_T (nodes_fit nt (up_from 0 n)) (edges_fit et n 0 (up_from 0 m)) (counts-fit nt n 0 (λ i a b. g.counts i (omega arith)))
      (edges-fit et n m 0 0 (λ i a b. omega arith) (λ i a b. g.froms i (omega arith)) (λ i a b. g.ops i (omega arith))
      (λ a b c h k. g.order a b h (omega arith))))))

  pub is-graph : T (is_graph model n m nt et) ↔ IsGraph model n m nt et
  is-graph = (to-words, from-words)

  pub words-fit : IsGraph model n m nt et → EdgesFit et n 0 (up_from 0 m)
  words-fit g = edges-statement et n 0 (up_from 0 m) (edges-fit et n m 0 0 (λ i a b. omega arith) (λ i a b. g.froms i (omega arith)) (λ i a b. g.ops i (omega arith)) (λ a b c h k. g.order a b h (omega arith)))
