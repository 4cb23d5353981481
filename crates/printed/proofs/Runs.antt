-- Laws of edges in the order of their nodes: those that leave a node stand one after the other, where those of the nodes before it end.
use mathlib.Core.Path.{◌≡◌, refl, sym, ap, ◌∙◌}
use mathlib.Core.Logic.{◌≢◌}
use mathlib.Core.Bool.{Bool, true, false, cond}
use Prim.Native.Nat.{ℕ, zero, suc, ◌+◌, ◌-◌, ◌≤◌, ◌<◌}
use native.Mathlib.Numerals.{add-one}
use native.Mathlib.Omega.{arith}
use mathlib.Core.List.{List, [], ◌∷◌, ◌++◌, append_assoc, map}
use lib.ListN.{length, take, drop}
use lib.Dec.{eqb}
use Rattle.std.specs.Prelude.{Option, Some, None, not}
use Rattle.std.specs.List.{find, range_with_len}
use Rattle.std.specs.Option.{option_map, unwrap_or}
use Rattle.lists.specs.Lists.{those}
use Rattle.lists.proofs.Tests.{true-eq, false-eq, eq-false}
use Rattle.bytes_out.specs.Page.{Page, puts}
use Rattle.bytes_out.proofs.Pages.{puts-append, puts_none}
use Rattle.printed.specs.Text.{Line, line_text, lines_text, up_from}
use Rattle.printed.specs.Graph.{from_of, leaving, node_fields, edge_fields, nodes_lines}
use Rattle.printed.specs.IsGraph.{EdgesFit}
use Rattle.printed.specs.Steps.{run_length}
use Rattle.printed.proofs.Lines.{up_more, up_end}

-- the edges of a run
module _ (t : List ℕ) (k : ℕ) where
  run-le : (js : List ℕ) → run_length t k js ≤ length js
  unfolding run_length
  run-le [] = omega arith
  run-le (j ∷ js) = go (run-le js) (eqb (from_of t j) k)
    where
      go : run_length t k js ≤ length js → (b : Bool) → cond b (suc (run_length t k js)) 0 ≤ suc (length js)
      go ih true = omega arith
      go ih false = omega arith

-- the run ends where the search for an edge of another node does
module _ (t : List ℕ) (k : ℕ) where
  abbrev pub other : ℕ → Bool
  other i = not (eqb (from_of t i) k)

  run-found : (j n : ℕ) → unwrap_or (find other (range_with_len j n)) (j + n) ≡ j + run_length t k (up_from j n)
  unfolding run_length up_from
  run-found j zero = refl
  run-found j (suc n) = rw add-one (go (run-found (suc j) n) (eqb (from_of t j) k))
    where
      go : unwrap_or (find other (range_with_len (suc j) n)) (suc j + n) ≡ suc j + run_length t k (up_from (suc j) n)
          → (b : Bool) → unwrap_or (cond (not b) (Some j) (find other (range_with_len (suc j) n))) (j + suc n) ≡ j + cond b (suc (run_length t k (up_from (suc j) n))) 0
      go ih true = let e : j + suc n ≡ suc j + n = omega arith in rw (e, ih) (omega arith)
      go ih false = omega arith

  pub run-end : (r : Option ℕ) (j m : ℕ) → j ≤ m → option_map (λ x. x) r ≡ find other (range_with_len j (m - j)) → unwrap_or r m ≡ j + run_length t k (up_from j (m - j))
  run-end r j m h e =
      let s : m ≡ j + (m - j) = omega arith in
      ap (λ (o : Option ℕ). unwrap_or o m) (same r ∙ e) ∙ ap (λ (d : ℕ). unwrap_or (find other (range_with_len j (m - j))) d) s ∙ run-found j (m - j)
    where
      same : (o : Option ℕ) → o ≡ option_map (λ x. x) o
      same None = refl
      same (Some x) = refl

above : (a b : ℕ) → a ≢ b → b ≤ a → b < a
above a b q l = omega arith

-- edges of later nodes only
module _ (t : List ℕ) (n : ℕ) where
  none-leaves : (k low : ℕ) (js : List ℕ) → k < low → EdgesFit t n low js → leaving t k js ≡ []
  unfolding those
  none-leaves k low [] h f = refl
  none-leaves k low (j ∷ js) h f =
      let l : low ≤ from_of t j = f.0 in
      rw (eq-false (from_of t j) k (λ e. omega arith)) (none-leaves k (from_of t j) js (omega arith) f.3)

-- one node's run, in edges that fit from it on
module _ (t : List ℕ) (n : ℕ) where
  leaving-run : (k : ℕ) (js : List ℕ) → EdgesFit t n k js → leaving t k js ≡ take (run_length t k js) js
  unfolding those run_length
  leaving-run k [] f = refl
  leaving-run k (j ∷ js) f = go (leaving-run k js) (eqb (from_of t j) k) refl
    where
      go : (EdgesFit t n k js → leaving t k js ≡ take (run_length t k js) js)
          → (b : Bool) → eqb (from_of t j) k ≡ b → cond b (j ∷ leaving t k js) (leaving t k js) ≡ take (cond b (suc (run_length t k js)) 0) (j ∷ js)
      go ih true e = let q : from_of t j ≡ k = true-eq (from_of t j) k e in ap (λ (l : List ℕ). j ∷ l) (ih (rw q at f.3))
      go ih false e = none-leaves t n k (from_of t j) js (above (from_of t j) k (false-eq (from_of t j) k e) f.0) f.3

  fit-run : (k : ℕ) (js : List ℕ) → EdgesFit t n k js → EdgesFit t n (suc k) (drop (run_length t k js) js)
  unfolding run_length
  fit-run k [] f = tt
  fit-run k (j ∷ js) f = go (fit-run k js) (eqb (from_of t j) k) refl
    where
      go : (EdgesFit t n k js → EdgesFit t n (suc k) (drop (run_length t k js) js)) → (b : Bool) → eqb (from_of t j) k ≡ b → EdgesFit t n (suc k) (drop (cond b (suc (run_length t k js)) 0) (j ∷ js))
      go ih true e = let q : from_of t j ≡ k = true-eq (from_of t j) k e in ih (rw q at f.3)
      go ih false e = (above (from_of t j) k (false-eq (from_of t j) k e) f.0, f.1, f.2, f.3)

later-run : (t : List ℕ) (k k' : ℕ) (js : List ℕ) → k < k' → leaving t k' js ≡ leaving t k' (drop (run_length t k js) js)
unfolding those run_length
later-run t k k' [] h = refl
later-run t k k' (j ∷ js) h = go (later-run t k k' js h) (eqb (from_of t j) k) refl
  where
    go : leaving t k' js ≡ leaving t k' (drop (run_length t k js) js) → (b : Bool) → eqb (from_of t j) k ≡ b → leaving t k' (j ∷ js) ≡ leaving t k' (drop (cond b (suc (run_length t k js)) 0) (j ∷ js))
    go ih true e =
        let q : from_of t j ≡ k = true-eq (from_of t j) k e in
        rw (eq-false (from_of t j) k' (λ r. omega arith)) ih
    go ih false e = refl

-- the nodes behind don't look at the run
later-lines : (nt et : List ℕ) (k : ℕ) (js : List ℕ) (a x : ℕ) → k < a → nodes_lines nt et js (up_from a x) ≡ nodes_lines nt et (drop (run_length et k js) js) (up_from a x)
unfolding nodes_lines up_from
later-lines nt et k js a zero h = refl
later-lines nt et k js a (suc x) h =
    ap (λ (l : List ℕ). (node_fields nt a ∷ map (edge_fields et) l) ++ nodes_lines nt et js (up_from (suc a) x)) (later-run et k a js h)
    ∙ ap (λ (l : List Line). (node_fields nt a ∷ map (edge_fields et) (leaving et a (drop (run_length et k js) js))) ++ l) (later-lines nt et k js (suc a) x (omega arith))

-- parts of the numbers from j on
take-up : (j x r : ℕ) → r ≤ x → take r (up_from j x) ≡ up_from j r
unfolding up_from
take-up j x zero h = refl
take-up j zero (suc r) h = absurd (omega arith)
take-up j (suc x) (suc r) h = ap (λ (l : List ℕ). j ∷ l) (take-up (suc j) x r (omega arith))

drop-up : (j x r : ℕ) → r ≤ x → drop r (up_from j x) ≡ up_from (j + r) (x - r)
unfolding up_from
drop-up j x zero h = let a : j + 0 ≡ j = omega arith in let b : x - 0 ≡ x = omega arith in rw (a, b)
drop-up j zero (suc r) h = absurd (omega arith)
drop-up j (suc x) (suc r) h =
    let a : j + suc r ≡ suc j + r = omega arith in
    let b : suc x - suc r ≡ x - r = omega arith in
    drop-up (suc j) x r (omega arith) ∙ sym (ap (λ (i : ℕ). up_from i (suc x - suc r)) a ∙ ap (λ (i : ℕ). up_from (suc j + r) i) b)

pub length_up : (j x : ℕ) → length (up_from j x) ≡ x
unfolding up_from
length_up j zero = refl
length_up j (suc x) = ap suc (length_up (suc j) x)

pub lines-append : (x y : List Line) → lines_text (x ++ y) ≡ lines_text x ++ lines_text y
unfolding lines_text
lines-append [] y = refl
lines-append (l ∷ x) y = ap (λ (k : List ℕ). line_text l ++ k) (lines-append x y) ∙ sym (append_assoc (line_text l) (lines_text x) (lines_text y))

-- node k's turn: its line, its run, and then the nodes behind it with the edges behind the run
module _ (nt et : List ℕ) (n m k j end : ℕ) (f : EdgesFit et n k (up_from j (m - j))) (e : end ≡ j + run_length et k (up_from j (m - j))) where
  pub small : run_length et k (up_from j (m - j)) ≤ m - j
  small = omega (arith, run-le et k (up_from j (m - j)), length_up j (m - j))

  behind : drop (run_length et k (up_from j (m - j))) (up_from j (m - j)) ≡ up_from end (m - end)
  behind =
      let x : m - j - run_length et k (up_from j (m - j)) ≡ m - end = omega arith in
      drop-up j (m - j) (run_length et k (up_from j (m - j))) small ∙ ap (λ (i : ℕ). up_from i (m - j - run_length et k (up_from j (m - j)))) (sym e) ∙ ap (λ (i : ℕ). up_from end i) x

  pub fit_turn : EdgesFit et n (k + 1) (up_from end (m - end))
  fit_turn = rw (add-one, ← behind) (fit-run et n k (up_from j (m - j)) f)

  its-run : leaving et k (up_from j (m - j)) ≡ up_from j (end - j)
  its-run =
      let x : run_length et k (up_from j (m - j)) ≡ end - j = omega arith in
      leaving-run et n k (up_from j (m - j)) f ∙ take-up j (m - j) (run_length et k (up_from j (m - j))) small ∙ ap (λ (i : ℕ). up_from j i) x

  pub turn : (x : ℕ)
      → nodes_lines nt et (up_from j (m - j)) (k ∷ up_from (suc k) x) ≡ (node_fields nt k ∷ map (edge_fields et) (up_from j (end - j))) ++ nodes_lines nt et (up_from end (m - end)) (up_from (suc k) x)
  unfolding nodes_lines
  turn x =
      ap (λ (l : List ℕ). (node_fields nt k ∷ map (edge_fields et) l) ++ nodes_lines nt et (up_from j (m - j)) (up_from (suc k) x)) its-run
      ∙ ap (λ (l : List Line). (node_fields nt k ∷ map (edge_fields et) (up_from j (end - j))) ++ l)
      (later-lines nt et k (up_from j (m - j)) (suc k) x (omega arith) ∙ ap (λ (l : List ℕ). nodes_lines nt et l (up_from (suc k) x)) behind)

  pub puts_turn : (p : Page) → k < n
      → puts p (lines_text (nodes_lines nt et (up_from j (m - j)) (up_from k (n - k))))
      ≡ puts (puts (puts p (line_text (node_fields nt k))) (lines_text (map (edge_fields et) (up_from j (end - j))))) (lines_text (nodes_lines nt et (up_from end (m - end)) (up_from (k + 1) (n - (k + 1)))))
  unfolding lines_text
  puts_turn p h =
      let a : k + 1 ≡ suc k = add-one k in
      let run : List Line = map (edge_fields et) (up_from j (end - j)) in
      let rest : List Line = nodes_lines nt et (up_from end (m - end)) (up_from (suc k) (n - suc k)) in
      rw (up_more k n h, a)
      (ap (λ (l : List Line). puts p (lines_text l)) (turn (n - suc k))
      ∙ puts-append p (line_text (node_fields nt k)) (lines_text (run ++ rest))
      ∙ ap (λ (l : List ℕ). puts (puts p (line_text (node_fields nt k))) l) (lines-append run rest)
      ∙ puts-append (puts p (line_text (node_fields nt k))) (lines_text run) (lines_text rest))

pub puts_turn_end : (p : Page) (nt et js : List ℕ) (k n : ℕ) → n ≤ k → puts p (lines_text (nodes_lines nt et js (up_from k (n - k)))) ≡ p
unfolding lines_text nodes_lines
puts_turn_end p nt et js k n h = rw (up_end k n h) (puts_none p)
