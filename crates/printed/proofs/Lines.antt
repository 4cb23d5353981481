-- Laws of lines as they are put on a page: numbers one after the other, a node's line, an edge's line.
use mathlib.Core.Path.{◌≡◌, refl, sym, ap, ◌∙◌}
use Prim.Native.Nat.{ℕ, suc, ◌+◌, ◌-◌, ◌*◌, ◌≤◌, ◌<◌}
use native.Mathlib.Numerals.{add-one}
use native.Mathlib.Omega.{arith}
use mathlib.Core.List.{List, [], ◌∷◌, ◌++◌, append_assoc, map}
use Rattle.decimal.specs.Decimal.{decimal}
use Rattle.thread.specs.Numbers.{◌!◌}
use Rattle.thread.specs.Names.{op_name, model_name}
use Rattle.bytes_out.specs.Page.{Page, put, puts, tab, line_feed}
use Rattle.bytes_out.proofs.Pages.{puts-append, puts_one, puts_none}
use Rattle.printed.specs.Text.{Field, Line, tabbed, line_text, lines_text, up_from, numbers_from}
use Rattle.printed.specs.Graph.{graph_word, refused_word, graph_fields, nodes_lines, graph_lines, graph_text, refusal_text, node_word, edge_word, node_fields, edge_fields, count_of, op_of, field_count, waiting_of, fields_of, from_of, to_of, line_of}

-- numbers from i up to e
pub up_more : (i e : ℕ) → i < e → up_from i (e - i) ≡ i ∷ up_from (i + 1) (e - (i + 1))
unfolding up_from
up_more i e h = let s : e - i ≡ suc (e - suc i) = omega arith in rw (add-one, s)

pub up_end : (i e : ℕ) → e ≤ i → up_from i (e - i) ≡ []
unfolding up_from
up_end i e h = let s : e - i ≡ 0 = omega arith in rw s

numbers_more : (t : List ℕ) (i e : ℕ) → i < e → numbers_from t i (e - i) ≡ (t ! i) ∷ numbers_from t (i + 1) (e - (i + 1))
unfolding numbers_from
numbers_more t i e h = let s : e - i ≡ suc (e - suc i) = omega arith in rw (add-one, s)

numbers-end : (t : List ℕ) (i e : ℕ) → e ≤ i → numbers_from t i (e - i) ≡ []
unfolding numbers_from
numbers-end t i e h = let s : e - i ≡ 0 = omega arith in rw s

puts-tabbed : (p : Page) (f : Field) (l : Line) → puts p (tabbed (f ∷ l)) ≡ puts (puts p (tab ∷ f)) (tabbed l)
unfolding tabbed
puts-tabbed p f l = puts-append p (tab ∷ f) (tabbed l)

pub tabbed-append : (x y : Line) → tabbed (x ++ y) ≡ tabbed x ++ tabbed y
unfolding tabbed
tabbed-append [] y = refl
tabbed-append (f ∷ x) y = ap (λ (l : List ℕ). tab ∷ (f ++ l)) (tabbed-append x y) ∙ ap (λ (l : List ℕ). tab ∷ l) (sym (append_assoc f (tabbed x) (tabbed y)))

abbrev pub numbers_text : List ℕ → ℕ → ℕ → List ℕ
numbers_text t i e = tabbed (map decimal (numbers_from t i (e - i)))

pub puts_numbers_more : (p : Page) (t : List ℕ) (i e : ℕ) → i < e → puts p (numbers_text t i e) ≡ puts (puts p (tab ∷ decimal (t ! i))) (numbers_text t (i + 1) e)
puts_numbers_more p t i e h = rw (numbers_more t i e h) (puts-tabbed p (decimal (t ! i)) (map decimal (numbers_from t (i + 1) (e - (i + 1)))))

pub puts_numbers_end : (p : Page) (t : List ℕ) (i e : ℕ) → e ≤ i → puts p (numbers_text t i e) ≡ p
unfolding tabbed
puts_numbers_end p t i e h = rw (numbers-end t i e h) (puts_none p)

-- lines one after the other
pub puts_lines_more : (p : Page) (f : ℕ → Line) (i e : ℕ) → i < e
    → puts p (lines_text (map f (up_from i (e - i)))) ≡ puts (puts p (line_text (f i))) (lines_text (map f (up_from (i + 1) (e - (i + 1)))))
unfolding lines_text
puts_lines_more p f i e h = rw (up_more i e h) (puts-append p (line_text (f i)) (lines_text (map f (up_from (i + 1) (e - (i + 1))))))

pub puts_lines_end : (p : Page) (f : ℕ → Line) (i e : ℕ) → e ≤ i → puts p (lines_text (map f (up_from i (e - i)))) ≡ p
unfolding lines_text
puts_lines_end p f i e h = rw (up_end i e h) (puts_none p)

-- a line: its first field, the others, and a line feed
pub puts-line : (p : Page) (f : Field) (l : Line) → puts p (line_text (f ∷ l)) ≡ put (puts (puts p f) (tabbed l)) line_feed
unfolding line_text
puts-line p f l =
    puts-append p f (tabbed l ++ (line_feed ∷ []))
    ∙ puts-append (puts p f) (tabbed l) (line_feed ∷ [])
    ∙ puts_one (puts (puts p f) (tabbed l)) line_feed

puts-both : (p : Page) (x y : Line) → puts p (tabbed (x ++ y)) ≡ puts (puts p (tabbed x)) (tabbed y)
puts-both p x y = ap (puts p) (tabbed-append x y) ∙ puts-append p (tabbed x) (tabbed y)

-- a record's first two numbers, and those behind them
two-more : (t : List ℕ) (i n : ℕ) → (t ! i) ∷ (t ! (i + 1)) ∷ numbers_from t (i + 2) n ≡ numbers_from t i (i + 2 + n - i)
unfolding numbers_from
two-more t i n =
    let s : i + 2 + n - i ≡ suc (suc n) = omega arith in
    let a : i + 1 ≡ suc i = omega arith in
    let b : i + 2 ≡ suc (suc i) = omega arith in
    rw (s, a, b)

pub puts_node : (p : Page) (t : List ℕ) (k : ℕ)
    → put (puts (puts (puts p node_word) (tab ∷ decimal k)) (numbers_text t (18 * k) (18 * k + 2 + count_of t k))) line_feed ≡ puts p (line_text (node_fields t k))
unfolding node_fields
puts_node p t k =
    let rest : Line = map decimal (numbers_from t (18 * k) (18 * k + 2 + count_of t k - 18 * k)) in
    ap (λ (q : Page). put q line_feed) (sym (puts-tabbed (puts p node_word) (decimal k) rest))
    ∙ ap (λ (l : List ℕ). put (puts (puts p node_word) (tabbed (decimal k ∷ map decimal l))) line_feed) (sym (two-more t (18 * k) (count_of t k)))
    ∙ sym (puts-line p node_word (decimal k ∷ decimal (line_of t k) ∷ decimal (count_of t k) ∷ map decimal (waiting_of t k)))

two : (t : List ℕ) (i : ℕ) → numbers_from t i (i + 2 - i) ≡ (t ! i) ∷ (t ! (i + 1)) ∷ []
unfolding numbers_from
two t i =
    let s : i + 2 - i ≡ 2 = omega arith in
    let a : i + 1 ≡ suc i = omega arith in
    rw (s, a)

pub puts_edge : (p : Page) (t : List ℕ) (j : ℕ)
    → put (puts (puts (puts (puts p edge_word) (numbers_text t (7 * j) (7 * j + 2))) (tab ∷ op_name (op_of t j))) (numbers_text t (7 * j + 3) (7 * j + 3 + field_count (op_of t j)))) line_feed
    ≡ puts p (line_text (edge_fields t j))
unfolding edge_fields
puts_edge p t j =
    let op : Field = op_name (op_of t j) in
    let two_ends : Line = decimal (from_of t j) ∷ decimal (to_of t j) ∷ [] in
    let fields : Line = map decimal (fields_of t j) in
    let s : 7 * j + 3 + field_count (op_of t j) - (7 * j + 3) ≡ field_count (op_of t j) = omega arith in
    ap (λ (l : List ℕ). put (puts (puts (puts (puts p edge_word) (tabbed (map decimal l))) (tab ∷ op)) (numbers_text t (7 * j + 3) (7 * j + 3 + field_count (op_of t j)))) line_feed) (two t (7 * j))
    ∙ ap (λ (n : ℕ). put (puts (puts (puts (puts p edge_word) (tabbed two_ends)) (tab ∷ op)) (tabbed (map decimal (numbers_from t (7 * j + 3) n)))) line_feed) s
    ∙ ap (λ (q : Page). put q line_feed) (sym (puts-tabbed (puts (puts p edge_word) (tabbed two_ends)) op fields))
    ∙ ap (λ (q : Page). put q line_feed) (sym (puts-both (puts p edge_word) two_ends (op ∷ fields)))
    ∙ sym (puts-line p edge_word (two_ends ++ (op ∷ fields)))

-- three fields behind a word: the first a name, the others numbers
tabbed-end : (p : Page) → puts p (tabbed []) ≡ p
unfolding tabbed
tabbed-end p = puts_none p

pub puts_refusal : (p : Page) (number place : ℕ)
    → put (puts (puts (puts p refused_word) (tab ∷ decimal number)) (tab ∷ decimal place)) line_feed ≡ puts p (refusal_text number place)
unfolding refusal_text
puts_refusal p number place =
    let word : Page = puts p refused_word in
    sym
    (puts-line p refused_word (decimal number ∷ decimal place ∷ [])
    ∙ ap (λ (q : Page). put q line_feed) (puts-tabbed word (decimal number) (decimal place ∷ []) ∙ puts-tabbed (puts word (tab ∷ decimal number)) (decimal place) [] ∙ tabbed-end (puts (puts word (tab ∷ decimal number)) (tab ∷ decimal place))))

pub puts_graph : (p : Page) (model n m : ℕ) (nt et : List ℕ)
    → puts (put (puts (puts (puts (puts p graph_word) (tab ∷ model_name model)) (tab ∷ decimal n)) (tab ∷ decimal m)) line_feed) (lines_text (nodes_lines nt et (up_from 0 m) (up_from 0 n)))
    ≡ puts p (graph_text model n m nt et)
unfolding graph_text graph_lines lines_text
puts_graph p model n m nt et =
    let word : Page = puts p graph_word in
    let name : Page = puts word (tab ∷ model_name model) in
    let nodes : Page = puts name (tab ∷ decimal n) in
    let rest : List ℕ = lines_text (nodes_lines nt et (up_from 0 m) (up_from 0 n)) in
    sym
    (puts-append p (line_text (graph_fields model n m)) rest
    ∙ ap (λ (q : Page). puts q rest) (puts-line p graph_word (model_name model ∷ decimal n ∷ decimal m ∷ []))
    ∙ ap (λ (q : Page). puts (put q line_feed) rest)
    (puts-tabbed word (model_name model) (decimal n ∷ decimal m ∷ []) ∙ puts-tabbed name (decimal n) (decimal m ∷ []) ∙ puts-tabbed nodes (decimal m) [] ∙ tabbed-end (puts nodes (tab ∷ decimal m))))
