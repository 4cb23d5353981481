-- The text of a graph of at most 400 nodes and 900 edges, of numbers below 2^32, has at most 160,000 bytes: an area of that size is never too small.
use mathlib.Core.Path.{◌≡◌, refl, ap, ◌∙◌}
use Prim.Native.Nat.{ℕ, zero, suc, ◌+◌, ◌-◌, ◌*◌, ◌≤◌, ◌<◌}
use native.Mathlib.Omega.{arith}
use native.Mathlib.Numerals.{add-one}
use mathlib.Core.List.{List, [], ◌∷◌, ◌++◌, map}
use lib.ListN.{length, get_or, length-append}
use lib.Dec.{lit≤}
use Rattle.lists.specs.Lists.{All}
use Rattle.lists.proofs.Tests.{le-true, is_true}
use Rattle.decimal.specs.Decimal.{decimal, most}
use Rattle.decimal.proofs.Reading.{ten-digits}
use Rattle.thread.specs.Numbers.{◌!◌, filled}
use Rattle.thread.specs.Names.{op_name, op_names, model_name, model_names}
use Rattle.std.specs.Prelude.{Ok}
use Rattle.printed.specs.Text.{Field, Line, tabbed, line_text, lines_text, up_from, numbers_from}
use Rattle.printed.specs.Graph.{node_word, edge_word, graph_word, line_of, count_of, waiting_of, from_of, to_of, op_of, field_count, fields_of, node_fields, edge_fields, graph_fields, nodes_lines, graph_lines, graph_text, refused_word, refusal_text}
use Rattle.printed.specs.IsGraph.{EdgesFit, is_graph, IsGraph}
use Rattle.printed.specs.Printed.{print', fitted, printed, printed_refusal}
use Rattle.printed.specs.Room.{room_nodes, room_edges, room_text}
use Rattle.printed.specs.Steps.{run_length}
use Rattle.printed.proofs.Names.{few_fields}
use Rattle.printed.proofs.Runs.{turn, small, fit_turn, lines-append}
use Rattle.printed.proofs.Words.{is-graph, words-fit}
use Rattle.printed.proofs.Ending.{printed_graph}

-- fields of at most ten bytes
tabbed-length : (l : List ℕ) → All (λ x. x ≤ most) l → length (tabbed (map decimal l)) ≤ 11 * length l
unfolding tabbed
tabbed-length [] h = omega arith
tabbed-length (x ∷ l) h = rw (length-append (decimal x) (tabbed (map decimal l))) (omega (arith, ten-digits x h.0, tabbed-length l h.1))

numbers-length : (t : List ℕ) (i n : ℕ) → length (numbers_from t i n) ≡ n
unfolding numbers_from
numbers-length t i zero = refl
numbers-length t i (suc n) = ap suc (numbers-length t (suc i) n)

numbers-small : (t : List ℕ) → ((i : ℕ) → t ! i ≤ most) → (i n : ℕ) → All (λ x. x ≤ most) (numbers_from t i n)
unfolding numbers_from
numbers-small t h i zero = tt
numbers-small t h i (suc n) = (h i, numbers-small t h (suc i) n)

-- names of at most five bytes, models of three
short : (l : List Field) (b i : ℕ) → All (λ f. length f ≤ b) l → length (get_or l i []) ≤ b
short [] b i h = omega arith
short (f ∷ l) b zero h = h.0
short (f ∷ l) b (suc i) h = short l b i h.1

op-length : (op : ℕ) → length (op_name op) ≤ 5
unfolding op_name op_names
op-length op =
    short op_names 5 op
    (lit≤ tt, (lit≤ tt, (lit≤ tt, (lit≤ tt, (lit≤ tt, (lit≤ tt, (lit≤ tt, (lit≤ tt, (lit≤ tt, (lit≤ tt, (lit≤ tt, (lit≤ tt, (lit≤ tt, tt)))))))))))))

model-length : (model : ℕ) → length (model_name model) ≤ 3
unfolding model_name model_names
model-length model = short model_names 3 model (lit≤ tt, (lit≤ tt, tt))

line-length : (f : Field) (l : Line) → length (line_text (f ∷ l)) ≡ length f + length (tabbed l) + 1
unfolding line_text
line-length f l = rw (length-append f (tabbed l ++ (10 ∷ [])), length-append (tabbed l) (10 ∷ [])) (omega arith)

field-length : (f : Field) (l : Line) → length (tabbed (f ∷ l)) ≡ 1 + length f + length (tabbed l)
unfolding tabbed
field-length f l = rw (length-append f (tabbed l)) (omega arith)

module _ (nt et : List ℕ) (small-nodes : (i : ℕ) → nt ! i ≤ most) (small-edges : (i : ℕ) → et ! i ≤ most) where
  node-length : (k : ℕ) → k ≤ most → count_of nt k ≤ 16 → length (line_text (node_fields nt k)) ≤ 214
  unfolding node_fields
  node-length k h c =
      let l : List ℕ = k ∷ line_of nt k ∷ count_of nt k ∷ waiting_of nt k in
      let a = tabbed-length l (h, (small-nodes (18 * k), (small-nodes (18 * k + 1), numbers-small nt small-nodes (18 * k + 2) (count_of nt k)))) in
      rw (line-length node_word (map decimal l)) (omega (arith, numbers-length nt (18 * k + 2) (count_of nt k)))

  edge-length : (j : ℕ) → length (line_text (edge_fields et j)) ≤ 77
  unfolding edge_fields
  edge-length j =
      let op : Field = op_name (op_of et j) in
      let rest : Line = map decimal (fields_of et j) in
      let to : Field = decimal (to_of et j) in
      let a = tabbed-length (fields_of et j) (numbers-small et small-edges (7 * j + 3) (field_count (op_of et j))) in
      rw (line-length edge_word (decimal (from_of et j) ∷ to ∷ op ∷ rest), field-length (decimal (from_of et j)) (to ∷ op ∷ rest), field-length to (op ∷ rest), field-length op rest)
      (omega (
        arith,
        ten-digits (from_of et j) (small-edges (7 * j)),
        ten-digits (to_of et j) (small-edges (7 * j + 1)),
        op-length (op_of et j),
        few_fields (op_of et j),
        numbers-length et (7 * j + 3) (field_count (op_of et j)),
      ))

  edges-length : (j x : ℕ) → length (lines_text (map (edge_fields et) (up_from j x))) ≤ 77 * x
  unfolding lines_text up_from
  edges-length j zero = omega arith
  edges-length j (suc x) =
      rw (length-append (line_text (edge_fields et j)) (lines_text (map (edge_fields et) (up_from (suc j) x)))) (omega (arith, edge-length j, edges-length (suc j) x))

  -- x nodes from k on, and the edges from j on
  none-length : (js : List ℕ) (k : ℕ) → length (lines_text (nodes_lines nt et js (up_from k 0))) ≡ 0
  unfolding lines_text nodes_lines up_from
  none-length js k = refl

  turn-length : (n m k j : ℕ) (f : EdgesFit et n k (up_from j (m - j))) (x : ℕ) (end : ℕ) → end ≡ j + run_length et k (up_from j (m - j))
      → length (lines_text (nodes_lines nt et (up_from j (m - j)) (up_from k (suc x))))
      ≡ length (line_text (node_fields nt k)) + (length (lines_text (map (edge_fields et) (up_from j (end - j)))) + length (lines_text (nodes_lines nt et (up_from end (m - end)) (up_from (suc k) x))))
  unfolding lines_text up_from
  turn-length n m k j f x end e =
      let run : List Line = map (edge_fields et) (up_from j (end - j)) in
      let rest : List Line = nodes_lines nt et (up_from end (m - end)) (up_from (suc k) x) in
      let first : List ℕ = line_text (node_fields nt k) in
      ap (λ (l : List Line). length (lines_text l)) (turn nt et n m k j end f e x)
      ∙ length-append first (lines_text (run ++ rest))
      ∙ ap (λ (l : List ℕ). length first + length l) (lines-append run rest)
      ∙ ap (λ (i : ℕ). length first + i) (length-append (lines_text run) (lines_text rest))

  module _ (n m : ℕ) (h : n ≤ most) (c : (k : ℕ) → k < n → count_of nt k ≤ 16) where
    nodes-length : (x k j : ℕ) → k + x ≡ n → EdgesFit et n k (up_from j (m - j))
        → length (lines_text (nodes_lines nt et (up_from j (m - j)) (up_from k x))) ≤ 214 * x + 77 * (m - j)
    nodes-length zero k j e f = rw (none-length (up_from j (m - j)) k) (omega arith)
    nodes-length (suc x) k j e f =
        let end : ℕ = j + run_length et k (up_from j (m - j)) in
        let f' : EdgesFit et n (suc k) (up_from end (m - end)) = rw add-one at (fit_turn nt et n m k j end f refl) in
        let ih = nodes-length x (suc k) end (omega arith) f' in
        rw (turn-length n m k j f x end refl)
        (omega (arith, node-length k (omega arith) (c k (omega arith)), edges-length j (end - j), small nt et n m k j end f refl))

module _ (model n m : ℕ) (nt et : List ℕ) (small-nodes : (i : ℕ) → nt ! i ≤ most) (small-edges : (i : ℕ) → et ! i ≤ most) where
  text-length : IsGraph model n m nt et → n ≤ most → m ≤ most → length (graph_text model n m nt et) ≤ 32 + 214 * n + 77 * m
  unfolding graph_text graph_lines lines_text
  text-length g h i =
      let rest : List Line = nodes_lines nt et (up_from 0 m) (up_from 0 n) in
      let s : m - 0 ≡ m = omega arith in
      let f : EdgesFit et n 0 (up_from 0 (m - 0)) = rw s (words-fit model n m nt et g) in
      let a : length (lines_text rest) ≤ 214 * n + 77 * m = rw s at (nodes-length nt et small-nodes small-edges n m h g.counts n 0 0 (omega arith) f) in
      let b = tabbed-length (n ∷ m ∷ []) (h, (i, tt)) in
      rw (length-append (line_text (graph_fields model n m)) (lines_text rest), line-length graph_word (model_name model ∷ decimal n ∷ decimal m ∷ []), field-length (model_name model) (decimal n ∷ decimal m ∷ []))
      (omega (arith, model-length model))

  -- neither of our own two answers can happen where the paper's room is lent: such a graph is written
  pub room-enough : IsGraph model n m nt et → n ≤ room_nodes → m ≤ room_edges → (room : ℕ) → room_text ≤ room
      → printed model n m nt et room ≡ print' (Ok (length (graph_text model n m nt et))) (filled room (graph_text model n m nt et))
  unfolding fitted
  room-enough g a b room r =
      let l = text-length g (omega arith) (omega arith) in
      printed_graph model n m nt et room (is_true (is_graph model n m nt et) ((is-graph model n m nt et).1 g))
      ∙ rw (le-true (length (graph_text model n m nt et)) room (omega arith))

-- a refusal's text is short
refusal-length : (number place : ℕ) → length (tabbed (decimal number ∷ decimal place ∷ [])) ≤ 22 → length (refusal_text number place) ≤ 30
unfolding refusal_text
refusal-length number place t = rw (line-length refused_word (decimal number ∷ decimal place ∷ [])) (omega arith)

pub refusal-enough : (number place room : ℕ) → number ≤ most → place ≤ most → 32 ≤ room
    → printed_refusal number place room ≡ print' (Ok (length (refusal_text number place))) (filled room (refusal_text number place))
unfolding printed_refusal fitted
refusal-enough number place room a b r =
    let t = tabbed-length (number ∷ place ∷ []) (a, (b, tt)) in
    let l : length (refusal_text number place) ≤ 30 = refusal-length number place t in
    rw (le-true (length (refusal_text number place)) room (omega arith))
