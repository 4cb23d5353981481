-- No two graphs print alike: the text of a graph says its model, its counts, and every number that is used of each record.
use mathlib.Core.Path.{◌≡◌, refl, sym, ap, ◌∙◌, subst}
use Prim.Native.Nat.{ℕ, zero, suc, ◌+◌, ◌-◌, ◌≤◌, ◌<◌}
use native.Mathlib.Decide.{dec_lt}
use native.Mathlib.Numerals.{add-one}
use native.Mathlib.Omega.{arith}
use mathlib.Core.Bool.{Bool, true, false, cond, ◌&&◌}
use mathlib.Core.List.{List, [], ◌∷◌, ◌++◌, map}
use lib.ListN.{get_or}
use lib.Dec.{T, eqb, leb, leb→le}
use Rattle.lists.specs.Lists.{All}
use Rattle.lists.proofs.Lists.{all-imp, all_append}
use Rattle.lists.proofs.Tests.{both}
use Rattle.decimal.specs.Decimal.{decimal}
use Rattle.decimal.proofs.Decimal.{decimal_injective, decimal-digits, Digit}
use Rattle.thread.specs.Names.{op_name, op_names, model_name, model_names}
use Rattle.printed.specs.Text.{Field, Line, up_from}
use Rattle.printed.specs.Graph.{graph_word, node_word, edge_word, line_of, count_of, waiting_of, from_of, to_of, op_of, fields_of, node_fields, edge_fields, leaving, nodes_lines, graph_lines, graph_text}
use Rattle.printed.specs.IsGraph.{EdgesFit, IsGraph}
use Rattle.printed.specs.SameGraph.{SameNode, SameEdge, SameGraph, ReadBack}
use Rattle.printed.specs.Steps.{run_length}
use Rattle.printed.proofs.Parse.{Starts, split, Above, Clean, Readable, lines-unique}
use Rattle.printed.proofs.Runs.{turn, fit_turn}
use Rattle.printed.proofs.Words.{words-fit, edge-fits}

-- every field is clean
decimal-clean : (n : ℕ) → Clean (decimal n)
decimal-clean n = all-imp Digit Above (λ d h. h.0) (decimal n) (decimal-digits n)

decimals-clean : (l : List ℕ) → All Clean (map decimal l)
decimals-clean [] = tt
decimals-clean (n ∷ l) = (decimal-clean n, decimals-clean l)

-- by a test that computes
abbrev clean_test : Field → Bool
clean_test [] = true
clean_test (b ∷ f) = leb 48 b && clean_test f

test-clean : (f : Field) → T (clean_test f) → Clean f
test-clean [] t = tt
test-clean (b ∷ f) t = let p = both (leb 48 b) (clean_test f) t in (leb→le 48 b p.0, test-clean f p.1)

abbrev names_test : List Field → Bool
names_test [] = true
names_test (f ∷ l) = clean_test f && names_test l

name-clean : (l : List Field) (i : ℕ) → T (names_test l) → Clean (get_or l i [])
name-clean [] i t = tt
name-clean (f ∷ l) zero t = test-clean f (both (clean_test f) (names_test l) t).0
name-clean (f ∷ l) (suc i) t = name-clean l i (both (clean_test f) (names_test l) t).1

op-clean : (op : ℕ) → Clean (op_name op)
unfolding op_name op_names
op-clean op = name-clean op_names op tt

model-clean : (model : ℕ) → Clean (model_name model)
unfolding model_name model_names
model-clean model = name-clean model_names model tt

node-readable : (t : List ℕ) (k : ℕ) → Readable (node_fields t k)
unfolding node_fields
node-readable t k = (test-clean node_word tt, decimals-clean (k ∷ line_of t k ∷ count_of t k ∷ waiting_of t k))

edge-readable : (t : List ℕ) (j : ℕ) → Readable (edge_fields t j)
unfolding edge_fields
edge-readable t j = (test-clean edge_word tt, (decimal-clean (from_of t j), (decimal-clean (to_of t j), (op-clean (op_of t j), decimals-clean (fields_of t j)))))

edges-readable : (t : List ℕ) (js : List ℕ) → All Readable (map (edge_fields t) js)
edges-readable t [] = tt
edges-readable t (j ∷ js) = (edge-readable t j, edges-readable t js)

nodes-readable : (nt et js ks : List ℕ) → All Readable (nodes_lines nt et js ks)
unfolding nodes_lines
nodes-readable nt et js [] = tt
nodes-readable nt et js (k ∷ ks) =
    (node-readable nt k, all_append Readable (map (edge_fields et) (leaving et k js)) (nodes_lines nt et js ks) (edges-readable et (leaving et k js)) (nodes-readable nt et js ks))

graph-readable : (model n m : ℕ) (nt et : List ℕ) → All Readable (graph_lines model n m nt et)
unfolding graph_lines
graph-readable model n m nt et =
    ((test-clean graph_word tt, (model-clean model, (decimal-clean n, (decimal-clean m, tt)))), nodes-readable nt et (up_from 0 m) (up_from 0 n))

-- names differ: a name's place in the list of names is its number
abbrev same_bytes : Field → Field → Bool
same_bytes [] [] = true
same_bytes [] (b ∷ g) = false
same_bytes (a ∷ f) [] = false
same_bytes (a ∷ f) (b ∷ g) = eqb a b && same_bytes f g

abbrev place_in : List Field → Field → ℕ
place_in [] f = 0
place_in (g ∷ l) f = cond (same_bytes g f) 0 (suc (place_in l f))

abbrev EachBelow : (ℕ → Type 0) → ℕ → Type 0
EachBelow P zero = Unit {0}
EachBelow P (suc n) = EachBelow P n × P n

each_below : (P : ℕ → Type 0) (n : ℕ) → EachBelow P n → (k : ℕ) → k < n → P k
each_below P zero h k l = absurd (omega arith)
each_below P (suc n) h k l = go (each_below P n h.0 k) (dec_lt k n)
  where
    go : (k < n → P k) → Dec (k < n) → P k
    go ih (yes s) = ih s
    go ih (no s) = let e : k ≡ n = omega arith in rw e h.1

op-place : (k : ℕ) → k < 13 → place_in op_names (op_name k) ≡ k
unfolding op_name op_names
op-place =
    each_below (λ k. place_in op_names (op_name k) ≡ k) 13
    (((((((((((((tt, refl), refl), refl), refl), refl), refl), refl), refl), refl), refl), refl), refl), refl)

model-place : (k : ℕ) → k < 2 → place_in model_names (model_name k) ≡ k
unfolding model_name model_names
model-place = each_below (λ k. place_in model_names (model_name k) ≡ k) 2 ((tt, refl), refl)

op-named : (a b : ℕ) → a ≤ 12 → b ≤ 12 → op_name a ≡ op_name b → a ≡ b
op-named a b g h e = sym (op-place a (omega arith)) ∙ ap (place_in op_names) e ∙ op-place b (omega arith)

model-named : (a b : ℕ) → a ≤ 1 → b ≤ 1 → model_name a ≡ model_name b → a ≡ b
model-named a b g h e = sym (model-place a (omega arith)) ∙ ap (place_in model_names) e ∙ model-place b (omega arith)

decimals-injective : (l k : List ℕ) → map decimal l ≡ map decimal k → l ≡ k
decimals-injective [] [] e = refl
decimals-injective [] (b ∷ k) e = let z : ◌≡◌ {A = ℕ} 0 1 = cc in absurd (omega arith)
decimals-injective (a ∷ l) [] e = let z : ◌≡◌ {A = ℕ} 0 1 = cc in absurd (omega arith)
decimals-injective (a ∷ l) (b ∷ k) e =
    let h : decimal a ≡ decimal b = cc in
    let t : map decimal l ≡ map decimal k = cc in
    ap (λ (c : ℕ). c ∷ l) (decimal_injective a b h) ∙ ap (λ (c : List ℕ). b ∷ c) (decimals-injective l k t)

-- what a node's line and an edge's line say
same-node : (t t' : List ℕ) (k : ℕ) → node_fields t k ≡ node_fields t' k → SameNode t t' k
unfolding node_fields
same-node t t' k e =
    let a : decimal (line_of t k) ≡ decimal (line_of t' k) = cc in
    let b : decimal (count_of t k) ≡ decimal (count_of t' k) = cc in
    let c : map decimal (waiting_of t k) ≡ map decimal (waiting_of t' k) = cc in
    record {
      line = decimal_injective (line_of t k) (line_of t' k) a;
      count = decimal_injective (count_of t k) (count_of t' k) b;
      waiting = decimals-injective (waiting_of t k) (waiting_of t' k) c;
    }

same-edge : (t t' : List ℕ) (j : ℕ) → op_of t j ≤ 12 → op_of t' j ≤ 12 → edge_fields t j ≡ edge_fields t' j → SameEdge t t' j
unfolding edge_fields
same-edge t t' j g h e =
    let a : decimal (from_of t j) ≡ decimal (from_of t' j) = cc in
    let b : decimal (to_of t j) ≡ decimal (to_of t' j) = cc in
    let c : op_name (op_of t j) ≡ op_name (op_of t' j) = cc in
    let d : map decimal (fields_of t j) ≡ map decimal (fields_of t' j) = cc in
    record {
      from = decimal_injective (from_of t j) (from_of t' j) a;
      to = decimal_injective (to_of t j) (to_of t' j) b;
      op = op-named (op_of t j) (op_of t' j) g h c;
      fields = decimals-injective (fields_of t j) (fields_of t' j) d;
    }

-- a line by its first field: the edges of a node end where the next node begins
abbrev First : Field → Line → Type 0
First w [] = ⊥
First w (f ∷ l) = f ≡ w

edge-or-node : (l : Line) → First edge_word l → First node_word l → ⊥
edge-or-node [] p q = absurd p
edge-or-node (f ∷ l) p q = let e : edge_word ≡ node_word = sym p ∙ q in let z : ◌≡◌ {A = ℕ} 101 110 = cc in omega arith

edges-first : (t js : List ℕ) → All (First edge_word) (map (edge_fields t) js)
unfolding edge_fields
edges-first t [] = tt
edges-first t (j ∷ js) = (refl, edges-first t js)

nodes-first : (nt et js : List ℕ) (k x : ℕ) → Starts (First node_word) (nodes_lines nt et js (up_from k x))
unfolding nodes_lines node_fields up_from
nodes-first nt et js k zero = tt
nodes-first nt et js k (suc x) = refl

pointwise : (f g : ℕ → Line) (j x y : ℕ) → map f (up_from j x) ≡ map g (up_from j y) → (x ≡ y) × ((i : ℕ) → j ≤ i → i < j + x → f i ≡ g i)
unfolding up_from
pointwise f g j zero zero e = (refl, λ i a b. absurd (omega arith))
pointwise f g j zero (suc y) e = let z : ◌≡◌ {A = ℕ} 0 1 = cc in absurd (omega arith)
pointwise f g j (suc x) zero e = let z : ◌≡◌ {A = ℕ} 0 1 = cc in absurd (omega arith)
pointwise f g j (suc x) (suc y) e =
    let h : f j ≡ g j = cc in
    let t : map f (up_from (suc j) x) ≡ map g (up_from (suc j) y) = cc in
    let r = pointwise f g (suc j) x y t in
    (ap suc r.0, λ i a b. go h r.1 i a b (dec_lt j i))
  where
    go : f j ≡ g j → ((i : ℕ) → suc j ≤ i → i < suc j + x → f i ≡ g i) → (i : ℕ) → j ≤ i → i < j + suc x → Dec (j < i) → f i ≡ g i
    go h r i a b (yes s) = r i s (omega arith)
    go h r i a b (no s) = let q : i ≡ j = omega arith in rw q h

-- x nodes from k on and the edges from j on, in two pairs of tables
module _ (nt et nt' et' : List ℕ) (n m : ℕ) where
  abbrev Read : ℕ → ℕ → Type 0
  Read k j = ((i : ℕ) → k ≤ i → i < n → node_fields nt i ≡ node_fields nt' i) × ((i : ℕ) → j ≤ i → i < m → edge_fields et i ≡ edge_fields et' i)

  joined : (k j end : ℕ) → node_fields nt k ≡ node_fields nt' k → ((i : ℕ) → j ≤ i → i < end → edge_fields et i ≡ edge_fields et' i) → Read (suc k) end → Read k j
  joined k j end h p r = (λ i a b. node i a b (dec_lt k i), λ i a b. edge i a b (dec_lt i end))
    where
      node : (i : ℕ) → k ≤ i → i < n → Dec (k < i) → node_fields nt i ≡ node_fields nt' i
      node i a b (yes s) = r.0 i s b
      node i a b (no s) = let q : i ≡ k = omega arith in rw q h

      edge : (i : ℕ) → j ≤ i → i < m → Dec (i < end) → edge_fields et i ≡ edge_fields et' i
      edge i a b (yes s) = p i a s
      edge i a b (no s) = r.1 i (omega arith) b

  read-nodes : (x k j : ℕ) → k + x ≡ n → EdgesFit et n k (up_from j (m - j)) → EdgesFit et' n k (up_from j (m - j))
      → nodes_lines nt et (up_from j (m - j)) (up_from k x) ≡ nodes_lines nt' et' (up_from j (m - j)) (up_from k x) → Read k j
  unfolding up_from
  read-nodes zero k j s f g e =
      (λ i a b. absurd (omega arith), λ i a b. absurd (let w = edge-fits et n (m - j) k j f i a (omega arith) in let u = w.0 in let v = w.1 in omega arith))
  read-nodes (suc x) k j s f g e =
      let end : ℕ = j + run_length et k (up_from j (m - j)) in
      let end' : ℕ = j + run_length et' k (up_from j (m - j)) in
      let run : List Line = map (edge_fields et) (up_from j (end - j)) in
      let run' : List Line = map (edge_fields et') (up_from j (end' - j)) in
      let rest : List Line = nodes_lines nt et (up_from end (m - end)) (up_from (suc k) x) in
      let rest' : List Line = nodes_lines nt' et' (up_from end' (m - end')) (up_from (suc k) x) in
      let t : node_fields nt k ∷ (run ++ rest) ≡ node_fields nt' k ∷ (run' ++ rest') = sym (turn nt et n m k j end f refl x) ∙ e ∙ turn nt' et' n m k j end' g refl x in
      let h : node_fields nt k ≡ node_fields nt' k = cc in
      let u : run ++ rest ≡ run' ++ rest' = cc in
      let v = split (First edge_word) (First node_word) edge-or-node run run' rest rest' (edges-first et (up_from j (end - j))) (edges-first et' (up_from j (end' - j)))
      (nodes-first nt et (up_from end (m - end)) (suc k) x) (nodes-first nt' et' (up_from end' (m - end')) (suc k) x) u in
      let p = pointwise (edge_fields et) (edge_fields et') j (end - j) (end' - j) v.0 in
      let same : end' ≡ end = ends (run_length et k (up_from j (m - j))) (run_length et' k (up_from j (m - j))) p.0 in
      let f' : EdgesFit et n (suc k) (up_from end (m - end)) = rw add-one at (fit_turn nt et n m k j end f refl) in
      let g' : EdgesFit et' n (suc k) (up_from end' (m - end')) = rw add-one at (fit_turn nt' et' n m k j end' g refl) in
      let g'' : EdgesFit et' n (suc k) (up_from end (m - end)) = subst (λ (i : ℕ). EdgesFit et' n (suc k) (up_from i (m - i))) same g' in
      let e' : rest ≡ nodes_lines nt' et' (up_from end (m - end)) (up_from (suc k) x) = v.1 ∙ ap (λ (i : ℕ). nodes_lines nt' et' (up_from i (m - i)) (up_from (suc k) x)) same in
      joined k j end h (λ i a b. p.1 i a (omega arith)) (read-nodes x (suc k) end (omega arith) f' g'' e')
    where
      ends : (a b : ℕ) → j + a - j ≡ j + b - j → j + b ≡ j + a
      ends a b q = omega arith

-- the first line says the model and the counts
module _ (model n m : ℕ) (nt et : List ℕ) (model' n' m' : ℕ) (nt' et' : List ℕ) (g : IsGraph model n m nt et) (g' : IsGraph model' n' m' nt' et') where
  same-counts : n ≡ n' → m ≡ m' → model ≡ model' → nodes_lines nt et (up_from 0 m) (up_from 0 n) ≡ nodes_lines nt' et' (up_from 0 m') (up_from 0 n')
      → SameGraph model n m nt et model' n' m' nt' et'
  same-counts a b c e =
      let z : m - 0 ≡ m = omega arith in
      let f : EdgesFit et n 0 (up_from 0 (m - 0)) = rw z (words-fit model n m nt et g) in
      let f' : EdgesFit et' n 0 (up_from 0 (m - 0)) = rw (z, a, b) (words-fit model' n' m' nt' et' g') in
      let e' : nodes_lines nt et (up_from 0 (m - 0)) (up_from 0 n) ≡ nodes_lines nt' et' (up_from 0 (m - 0)) (up_from 0 n) = rw z (e ∙ sym (ap (λ (i : ℕ). nodes_lines nt' et' (up_from 0 i) (up_from 0 n)) b ∙ ap (λ (i : ℕ). nodes_lines nt' et' (up_from 0 m') (up_from 0 i)) a)) in
      let r = read-nodes nt et nt' et' n m n 0 0 (omega arith) f f' e' in
      record {
        models = c;
        nodes = a;
        edges = b;
        node = λ k h. same-node nt nt' k (r.0 k (omega arith) h);
        edge = λ j h. same-edge et et' j (g.ops j h) (g'.ops j (omega arith)) (r.1 j (omega arith) h);
      }

  same-lines : graph_lines model n m nt et ≡ graph_lines model' n' m' nt' et' → SameGraph model n m nt et model' n' m' nt' et'
  unfolding graph_lines
  same-lines e =
      let a : decimal n ≡ decimal n' = cc in
      let b : decimal m ≡ decimal m' = cc in
      let c : model_name model ≡ model_name model' = cc in
      let d : nodes_lines nt et (up_from 0 m) (up_from 0 n) ≡ nodes_lines nt' et' (up_from 0 m') (up_from 0 n') = cc in
      same-counts (decimal_injective n n' a) (decimal_injective m m' b) (model-named model model' g.known g'.known c) d

pub read_back : ReadBack
unfolding graph_text
read_back model n m nt et model' n' m' nt' et' g g' e =
    same-lines model n m nt et model' n' m' nt' et' g g'
    (lines-unique (graph_lines model n m nt et) (graph_lines model' n' m' nt' et') (graph-readable model n m nt et) (graph-readable model' n' m' nt' et') e)
