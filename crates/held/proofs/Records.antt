-- Laws of a flat table's records as edges, and of the edges of its first eight records: searched, they are what the table is.
use mathlib.Core.Path.{◌≡◌, refl, sym, ap, subst, ◌∙◌}
use mathlib.Core.Bool.{Bool, true, false, cond, ◌&&◌}
use mathlib.Core.Option as maybe
use mathlib.Core.Option.{Option, none, some, bind}
use Prim.Native.Nat.{ℕ, zero, suc, ◌+◌, ◌-◌, ◌≤◌, ◌<◌, ◌^◌}
use native.Mathlib.Omega.{arith}
use native.Mathlib.Numerals.{add-one}
use mathlib.Core.List.{List, [], ◌∷◌, ◌++◌, map}
use lib.ListN.{length, get_or}
use denote.Param.Members.{Mut, Called}
use Rattle.std.specs.Array.{IsFromFnResultFrom, IsFromFnResult}
use Rattle.std.specs.List.{range_with_len}
use Rattle.std.proofs.lemmas.List.{get_or_default}
use Rattle.std.proofs.lemmas.List.FromFn.{fill_by_all}
use lib.Dec.{ltb, eqb}
use Rattle.std.specs.Prelude as code
use Rattle.std.specs.Prelude.{Some, None, unwrap_or}
use Rattle.lists.specs.Lists.{first, listed, collect}
use Rattle.lists.specs.Options.{option_of}
use Rattle.lists.proofs.Tests.{lt-true, lt-false, true-lt, false-lt, eq-false}
use Rattle.thread.specs.declared.Node.{Node}
use Rattle.thread.specs.declared.Op.TheVariants as O
use Rattle.thread.specs.Table.{line}
use Rattle.graphs.specs.declared.Edge.{Edge}
use Rattle.graphs.specs.Records.{node, edge_at, edges_in, records_in}
use Rattle.generated.specs.Machine.{choice_of, test_holds, serves, same_node, edge_for, generated_step}
use Rattle.generated.specs.declared.Generated.{Generated}
use Rattle.runs.specs.Run.{back, takes}
use Rattle.edges.specs.Sought.{records_of}
use Rattle.edges.proofs.Chunks.{edge-read}
use Rattle.edges.proofs.Scan.{collect-more, collect-end, scan-all}
use Rattle.held.specs.declared.Machine.{Machine}
use Rattle.held.specs.Held.{step_along, world_of, next_for, stepped, own_at}
use Rattle.held.specs.Few.{edge_of, idle, placed, few}

module _ (t : List ℕ) (k : ℕ) where
  pub past_end : records_in 7 t ≤ k → None ≡ option_of (edge_of t k)
  unfolding edge_of option_of
  past_end h = rw (lt-false k (records_in 7 t) h)

  -- the code's way to `edge_of`: rs are the table's records
  pub edge-there : (rs : List (List ℕ)) → rs ≡ records_of t → length rs ≡ records_in 7 t → k < length rs → (x : List ℕ) → x ≡ get_or rs k x → (r : code.Option Edge) → r ≡ option_of (edge_at x 0) → r ≡ option_of (edge_of t k)
  unfolding edge_of
  edge-there rs e l h x p r q =
      let i : k < records_in 7 t = omega (arith, l, h) in
      rw (lt-true k (records_in 7 t) i) (q ∙ ap (λ (y : List ℕ). option_of (edge_at y 0)) (p ∙ get_or_default rs k x [] h) ∙ ap option_of (edge-read t rs e k i))

-- what calls of a function that stays as it is, at each number below n, gave of it
module _ {F B : Type 0} (g : Mut F (ℕ × Unit {0}) B) (f : F) (h : ℕ → B) (told : (k : ℕ) (y : B) (q : F) → Called g f (k, tt) y q → (q ≡ f) × (y ≡ h k)) (ys : List B) (d : B) where
  made-at : (i n : ℕ) (p : F) → p ≡ f → IsFromFnResultFrom g p ys i n → (k : ℕ) → i ≤ k → k < i + n → get_or ys k d ≡ h k
  made-at i zero p e r k l m = absurd (omega arith)
  made-at i (suc n) p e (q, y, at, c, rest) k l m = go (λ u. made-at (i + 1) n q came.0 rest k u (omega (arith, m))) (ltb i k) refl
    where
      came : (q ≡ f) × (y ≡ h i)
      came = told i y q (subst (λ (x : F). Called g x (i, tt) y q) e c)

      go : (i + 1 ≤ k → get_or ys k d ≡ h k) → (b : Bool) → ltb i k ≡ b → get_or ys k d ≡ h k
      go on true u = on (omega (arith, true-lt i k u))
      go on false u = let same : k ≡ i = omega (arith, false-lt i k u, l) in rw same (at.1 d ∙ came.1)

  pub made-list : (n : ℕ) → IsFromFnResult g f ys n → ys ≡ map h (range_with_len 0 n)
  made-list n r = fill_by_all h ys n d r.long (λ k l. made-at 0 n f refl r.each k (omega arith) (omega arith))

-- the edges of j records from k on
abbrev places_from : List ℕ → ℕ → ℕ → List Edge
places_from t k zero = []
places_from t k (suc j) = placed t k ∷ places_from t (suc k) j

module _ (n : Node) (c : ℕ) (R : List ℕ) where
  abbrev or_idle : Option Edge → Edge
  or_idle o = unwrap_or (option_of o) idle

  abbrev sought : List Edge → Option Edge
  sought es = edge_for es n c R

  -- a put to v serves no choice up to v
  skipped : (v : ℕ) (es : List Edge) → c < suc v → sought (record { from = node 0; to = node 0; op = O.Put v (line 0) } ∷ es) ≡ sought es
  unfolding edge_for first serves choice_of test_holds
  skipped v es h = go (record { from = node 0; to = node 0; op = O.Put v (line 0) }) (same_node (node 0) n) (eqb (suc v) c) (eq-false (suc v) c (λ e. let q = e in omega arith)) (edge_for es n c R)
    where
      go : (a : Edge) (b d : Bool) → d ≡ false → (x : Option Edge) → cond (b && (d && true)) (some a) x ≡ x
      go a true d e x = rw e
      go a false d e x = refl

  module _ (fits : c < 2 ^ 32) (t : List ℕ) where
    idle-skipped : (es : List Edge) → sought (idle ∷ es) ≡ sought es
    idle-skipped es = skipped 4294967295 es (omega arith)

    on : (o : Option Edge) (es fs : List Edge) → sought es ≡ sought fs → sought (or_idle o ∷ es) ≡ sought (listed o ++ fs)
    unfolding edge_for first listed option_of
    on none es fs q = idle-skipped es ∙ q
    on (some e) es fs q = ap (λ (x : Option Edge). cond (same_node e.from n && serves c R e.op) (some e) x) q

    there : (k : ℕ) → k < records_in 7 t → edge_of t k ≡ edge_at t k
    unfolding edge_of
    there k h = rw (lt-true k (records_in 7 t) h)

    gone : (k : ℕ) → records_in 7 t ≤ k → edge_of t k ≡ none
    unfolding edge_of
    gone k h = rw (lt-false k (records_in 7 t) h)

    placed-from : (j k : ℕ) → records_in 7 t ≤ k + j → sought (places_from t k j) ≡ sought (collect (edge_at t) k (records_in 7 t - k))
    unfolding placed
    placed-from zero k h = sym (ap sought (collect-end (edge_at t) k (records_in 7 t) (omega (arith, h))))
    placed-from (suc j) k h = go (placed-from j (suc k) (omega (arith, h))) (ltb k (records_in 7 t)) refl
      where
        go : sought (places_from t (suc k) j) ≡ sought (collect (edge_at t) (suc k) (records_in 7 t - suc k)) → (b : Bool) → ltb k (records_in 7 t) ≡ b → sought (places_from t k (suc j)) ≡ sought (collect (edge_at t) k (records_in 7 t - k))
        go rest true p =
            let l = true-lt k (records_in 7 t) p in
            ap (λ (o : Option Edge). sought (or_idle o ∷ places_from t (suc k) j)) (there k l)
            ∙ on (edge_at t k) (places_from t (suc k) j) (collect (edge_at t) (suc k) (records_in 7 t - suc k)) rest
            ∙ ap (λ (i : ℕ). sought (listed (edge_at t k) ++ collect (edge_at t) i (records_in 7 t - i))) (sym (add-one k))
            ∙ ap sought (sym (collect-more (edge_at t) k (records_in 7 t) l))
        go rest false p =
            let l = false-lt k (records_in 7 t) p in
            ap (λ (o : Option Edge). sought (or_idle o ∷ places_from t (suc k) j)) (gone k l)
            ∙ idle-skipped (places_from t (suc k) j)
            ∙ rest
            ∙ ap sought (collect-end (edge_at t) (suc k) (records_in 7 t) (omega (arith, l)))
            ∙ ap sought (sym (collect-end (edge_at t) k (records_in 7 t) l))

    -- a table of at most eight records: its edges, lent, have what it has
    pub few-found : records_in 7 t ≤ 8 → sought (few t) ≡ sought (edges_in t)
    unfolding few
    few-found h = placed-from 8 0 h ∙ scan-all t n c R

-- and an item along them is the run's item by its numbers
pub few-step : (m : Machine) (tab : List ℕ) (t c : ℕ) → c < 2 ^ 32 → records_in 7 tab ≤ 8 → stepped m (few tab) t c ≡ next_for (takes (λ _. generated_step tab) (world_of m) t c) m
unfolding stepped takes back step_along generated_step
few-step m tab t c fits h = go (own_at m t)
  where
    go : (o : Option Generated) → next_for (bind o (λ (a : Generated). maybe.map (back (λ _. generated_step tab) (world_of m) t) (step_along (few tab) c (record { memory = m.memory; own = a })))) m
        ≡ next_for (bind o (λ (a : Generated). maybe.map (back (λ _. generated_step tab) (world_of m) t) (generated_step tab c (record { memory = m.memory; own = a })))) m
    go none = refl
    go (some a) = rw (few-found a.node c a.registers fits tab h)

-- Two laws that nothing cites now: five numbers are their list one by one, and a place further on is nearer the end.
pub five : (l : List ℕ) → length l ≡ 5 → l ≡ get_or l 0 0 ∷ get_or l 1 0 ∷ get_or l 2 0 ∷ get_or l 3 0 ∷ get_or l 4 0 ∷ []
five [] e = absurd (omega arith)
five (a ∷ []) e = absurd (omega arith)
five (a ∷ b ∷ []) e = absurd (omega arith)
five (a ∷ b ∷ c ∷ []) e = absurd (omega arith)
five (a ∷ b ∷ c ∷ d ∷ []) e = absurd (omega arith)
five (a ∷ b ∷ c ∷ d ∷ x ∷ []) e = refl
five (a ∷ b ∷ c ∷ d ∷ x ∷ y ∷ l) e = absurd (omega arith)

pub nearer : {i k l : ℕ} → i < l → i < k → k ≤ l → l - k < l - i
nearer a b d = omega arith
