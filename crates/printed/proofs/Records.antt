-- Where unused numbers are 0, two graphs that print alike have the same records, number for number; and the operations' own records are so.
use mathlib.Core.Path.{◌≡◌, refl, sym, ap, ◌∙◌}
use Prim.Native.Nat.{ℕ, zero, suc, ◌+◌, ◌-◌, ◌*◌, ◌≤◌, ◌<◌}
use native.Mathlib.Decide.{dec_lt}
use native.Mathlib.Omega.{arith}
use mathlib.Core.List.{List}
use lib.ListN.{drop}
use Rattle.thread.specs.declared.Op.{Op}
use Rattle.thread.specs.declared.Op.TheVariants as O
use Rattle.thread.specs.Numbers.{◌!◌, zeros}
use Rattle.thread.specs.Operation.{op_numbers}
use Rattle.printed.specs.Text.{numbers_from}
use Rattle.printed.specs.Graph.{count_of, op_of, field_count, graph_text}
use Rattle.printed.specs.IsGraph.{IsGraph}
use Rattle.printed.specs.SameGraph.{SameNode, SameEdge, SameGraph, UnusedZero, SameRecords}
use Rattle.printed.proofs.ReadBack.{read_back}

-- numbers of two tables that are listed alike
numbers-at : (t t' : List ℕ) (i n : ℕ) → numbers_from t i n ≡ numbers_from t' i n → (x : ℕ) → x < n → t ! (i + x) ≡ t' ! (i + x)
unfolding numbers_from
numbers-at t t' i zero e x h = absurd (omega arith)
numbers-at t t' i (suc n) e zero h = let a : i + 0 ≡ i = omega arith in rw a (cc)
numbers-at t t' i (suc n) e (suc x) h =
    let a : i + suc x ≡ suc i + x = omega arith in
    let r : numbers_from t (suc i) n ≡ numbers_from t' (suc i) n = cc in
    rw a (numbers-at t t' (suc i) n r x (omega arith))

-- n numbers from i on, and zeros behind them
padded : (t t' : List ℕ) (i n n' : ℕ) → n ≡ n' → numbers_from t i n ≡ numbers_from t' i n' → (x : ℕ) → (n ≤ x → t ! (i + x) ≡ 0) → (n' ≤ x → t' ! (i + x) ≡ 0) → t ! (i + x) ≡ t' ! (i + x)
padded t t' i n n' q e x z z' = go (dec_lt x n)
  where
    go : Dec (x < n) → t ! (i + x) ≡ t' ! (i + x)
    go (yes s) = numbers-at t t' i n (e ∙ ap (numbers_from t' i) (sym q)) x s
    go (no s) = z (omega arith) ∙ sym (z' (omega arith))

module _ (nt nt' : List ℕ) (k : ℕ) (s : SameNode nt nt' k) where
  node-at : (i : ℕ) → (count_of nt k ≤ i - 2 → nt ! (18 * k + 2 + (i - 2)) ≡ 0) → (count_of nt' k ≤ i - 2 → nt' ! (18 * k + 2 + (i - 2)) ≡ 0) → nt ! (18 * k + i) ≡ nt' ! (18 * k + i)
  node-at zero z z' = let a : 18 * k + 0 ≡ 18 * k = omega arith in rw a s.line
  node-at (suc zero) z z' = s.count
  node-at (suc (suc i)) z z' =
      let a : 18 * k + suc (suc i) ≡ 18 * k + 2 + i = omega arith in
      let b : suc (suc i) - 2 ≡ i = omega arith in
      rw a (padded nt nt' (18 * k + 2) (count_of nt k) (count_of nt' k) s.count s.waiting i (rw b at z) (rw b at z'))

module _ (et et' : List ℕ) (j : ℕ) (s : SameEdge et et' j) where
  edge-at : (i : ℕ) → (field_count (op_of et j) ≤ i - 3 → et ! (7 * j + 3 + (i - 3)) ≡ 0) → (field_count (op_of et' j) ≤ i - 3 → et' ! (7 * j + 3 + (i - 3)) ≡ 0) → et ! (7 * j + i) ≡ et' ! (7 * j + i)
  edge-at zero z z' = let a : 7 * j + 0 ≡ 7 * j = omega arith in rw a s.from
  edge-at (suc zero) z z' = s.to
  edge-at (suc (suc zero)) z z' = s.op
  edge-at (suc (suc (suc i))) z z' =
      let a : 7 * j + suc (suc (suc i)) ≡ 7 * j + 3 + i = omega arith in
      let b : suc (suc (suc i)) - 3 ≡ i = omega arith in
      rw a (padded et et' (7 * j + 3) (field_count (op_of et j)) (field_count (op_of et' j)) (ap field_count s.op) s.fields i (rw b at z) (rw b at z'))

module _ (model n m : ℕ) (nt et : List ℕ) (model' n' m' : ℕ) (nt' et' : List ℕ) where
  same-records : UnusedZero n m nt et → UnusedZero n' m' nt' et' → SameGraph model n m nt et model' n' m' nt' et' → SameRecords n m nt et nt' et'
  same-records z z' s =
      let a : n ≡ n' = s.nodes in
      let b : m ≡ m' = s.edges in
      record {
        nodes = λ k i h l. node-at nt nt' k (s.node k h) i (λ c. z.nodes k (i - 2) h c (omega arith)) (λ c. z'.nodes k (i - 2) (omega arith) c (omega arith));
        edges = λ j i h l. edge-at et et' j (s.edge j h) i (λ c. z.edges j (i - 3) h c (omega arith)) (λ c. z'.edges j (i - 3) (omega arith) c (omega arith));
      }

  -- two graphs that print alike have the same model, counts and records
  pub records-back : IsGraph model n m nt et → IsGraph model' n' m' nt' et' → UnusedZero n m nt et → UnusedZero n' m' nt' et'
      → graph_text model n m nt et ≡ graph_text model' n' m' nt' et' → (model ≡ model') × (n ≡ n') × (m ≡ m') × SameRecords n m nt et nt' et'
  records-back g g' z z' e =
      let s = read_back model n m nt et model' n' m' nt' et' g g' e in
      (s.models, s.nodes, s.edges, same-records z z' s)

-- behind the fields that are printed an operation's record is 0
pub all-fields : (o : Op) → drop (suc (field_count (op_numbers o ! 0))) (op_numbers o) ≡ zeros (4 - field_count (op_numbers o ! 0))
unfolding op_numbers field_count
all-fields (O.Set r v) = refl
all-fields (O.Copy r s) = refl
all-fields (O.Add r s t) = refl
all-fields (O.Sub r s t) = refl
all-fields (O.Load r x) = refl
all-fields (O.Take r l) = refl
all-fields (O.KeepR l r) = refl
all-fields (O.KeepC l v) = refl
all-fields O.Pass = refl
all-fields (O.Cas r x s t) = refl
all-fields (O.IfNz r) = refl
all-fields (O.IfZ r) = refl
all-fields (O.Put x l) = refl
