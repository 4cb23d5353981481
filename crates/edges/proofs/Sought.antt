-- Laws of the search: record by record, and on a table in the order of its nodes it finds the first edge that fits.
use mathlib.Core.Path.{◌≡◌, refl, sym, ◌∙◌}
use mathlib.Core.Bool.{Bool, true, false}
use mathlib.Core.Option.{Option, none, some}
use Prim.Native.Nat.{ℕ, zero, suc, ◌+◌, ◌-◌, ◌≤◌, ◌<◌}
use native.Mathlib.Numerals.{add-one}
use native.Mathlib.Omega.{arith}
use mathlib.Core.List.{List}
use lib.Dec.{eqb}
use Rattle.std.specs.Prelude as code
use Rattle.std.specs.Prelude.{Some, None}
use Rattle.lists.specs.Lists.{first, listed, collect}
use Rattle.lists.specs.Options.{option_of}
use Rattle.lists.proofs.Options.{held-none, held-some}
use Rattle.lists.proofs.Lists.{first-append}
use Rattle.lists.proofs.Tests.{eq-true, eq-false, true-eq, false-eq, lt-true, true-lt, false-lt}
use Rattle.thread.specs.declared.Node.{Node}
use Rattle.graphs.specs.declared.Edge.{Edge}
use Rattle.graphs.specs.Records.{edge_at, edges_in, records_in}
use Rattle.generated.specs.Machine.{edge_for}
use Rattle.edges.specs.Sought.{from_at, Sorted, lower, start_of, edge_there, edge_near, edge_sought}
use Rattle.edges.proofs.Laws.{other-node}
use Rattle.edges.proofs.Scan.{first_found, edge_from, scan-all, scan-on}
use Rattle.edges.proofs.Halving.{Leads, Parts, parts}

-- the halving begins with all records
pub starts : (t : List ℕ) (n : Node) → Leads (lower t n) 0 (records_in 7 t) (start_of t n)
unfolding start_of
starts t n = (records_in 7 t, omega arith, refl)

module _ (t : List ℕ) (n : Node) (c : ℕ) (R : List ℕ) where
  -- what is left of the search from record k on
  abbrev pub near_from : ℕ → ℕ → Option Edge
  near_from k records = edge_near t n c R k (records - k)

  -- one record
  near-one : (k m : ℕ) (x : Option Edge) → from_at t k ≡ n.0 → edge_there t k n c R ≡ x → edge_near t n c R k (suc m) ≡ elim x [ some e ↦ some e | none ↦ edge_near t n c R (suc k) m ]
  unfolding edge_near
  near-one k m x h e = rw (h, eq-true n.0, e)

  near-not : (k m : ℕ) → (from_at t k ≡ n.0 → ⊥) → edge_near t n c R k (suc m) ≡ none
  unfolding edge_near
  near-not k m h = rw (eq-false (from_at t k) n.0 h)

  pub near-end : (k records : ℕ) → records ≤ k → None ≡ option_of (near_from k records)
  unfolding edge_near option_of
  near-end k records h = let e : records - k ≡ 0 = omega arith in rw e

  pub near-other : (k records : ℕ) → k < records → (from_at t k ≡ n.0 → ⊥) → None ≡ option_of (near_from k records)
  unfolding option_of
  near-other k records l h = let e : records - k ≡ suc (records - suc k) = omega arith in rw (e, near-not k (records - suc k) h)

  -- the code's way: r is what record k gives
  module _ (k records : ℕ) (r : code.Option Edge) (l : k < records) (h : from_at t k ≡ n.0) (i : r ≡ option_of (edge_there t k n c R)) where
    pub near-found : (e : Edge) → r ≡ Some e → Some e ≡ option_of (near_from k records)
    unfolding option_of
    near-found e q = let d : records - k ≡ suc (records - suc k) = omega arith in rw (d, near-one k (records - suc k) (some e) h (held-some (edge_there t k n c R) e (sym i ∙ q)))

    pub near_on : r ≡ None → near_from (k + 1) records ≡ near_from k records
    near_on q = let d : records - k ≡ suc (records - suc k) = omega arith in rw (d, near-one k (records - suc k) none h (held-none (edge_there t k n c R) (sym i ∙ q)), add-one)

  -- from where the node's records begin
  pub near-start : (s : ℕ) (r : code.Option Edge) → s ≡ start_of t n → r ≡ option_of (near_from s (records_in 7 t)) → r ≡ option_of (edge_sought t n c R)
  unfolding edge_sought
  near-start s r e h = rw (← e) h

  -- records that do not leave the node are passed over
  pass : (s records : ℕ) → s ≤ records → ((k : ℕ) → k < s → from_at t k ≡ n.0 → ⊥) → edge_from t s records n c R ≡ edge_from t 0 records n c R
  pass zero records l h = refl
  pass (suc s) records l h =
      let o : edge_from t (s + 1) records n c R ≡ edge_from t s records n c R = scan-on t n c R s records None (omega arith) (other-node t s n c R (h s (omega arith))) refl in
      rw (← add-one s) (o ∙ pass s records (omega arith) (λ k d. h k (omega arith)))

  none-leave : (k m : ℕ) → ((j : ℕ) → k ≤ j → j < k + m → from_at t j ≡ n.0 → ⊥) → edge_for (collect (edge_at t) k m) n c R ≡ none
  unfolding edge_for collect first
  none-leave k zero h = refl
  none-leave k (suc m) h =
      first-append _ (listed (edge_at t k)) (collect (edge_at t) (suc k) m) (held-none (edge_there t k n c R) (sym (other-node t k n c R (h k (omega arith) (omega arith)))))
      ∙ none-leave (suc k) m (λ j d e. h j (omega arith) (omega arith))

  -- in order, what leaves the node stands together
  near-all : (k m : ℕ) → ((i j : ℕ) → i ≤ j → j < k + m → from_at t i ≤ from_at t j) → ((j : ℕ) → k ≤ j → j < k + m → n.0 ≤ from_at t j) → edge_near t n c R k m ≡ edge_for (collect (edge_at t) k m) n c R
  unfolding edge_near edge_for collect first
  near-all k zero s h = refl
  near-all k (suc m) s h =
      go (eqb (from_at t k) n.0) refl (edge_there t k n c R) refl (near-all (suc k) m (λ i j d e. s i j d (omega arith)) (λ j d e. h j (omega arith) (omega arith)))
    where
      go : (b : Bool) → eqb (from_at t k) n.0 ≡ b → (x : Option Edge) → edge_there t k n c R ≡ x → edge_near t n c R (suc k) m ≡ edge_for (collect (edge_at t) (suc k) m) n c R
          → edge_near t n c R k (suc m) ≡ edge_for (collect (edge_at t) k (suc m)) n c R
      go true b (some e) x ih =
          near-one k m (some e) (true-eq (from_at t k) n.0 b) x ∙ sym (first_found _ (listed (edge_at t k)) (collect (edge_at t) (suc k) m) e x)
      go true b none x ih =
          near-one k m none (true-eq (from_at t k) n.0 b) x ∙ ih ∙ sym (first-append _ (listed (edge_at t k)) (collect (edge_at t) (suc k) m) x)
      go false b x q ih =
          let ne = false-eq (from_at t k) n.0 b in
          near-not k m ne ∙ sym (none-leave k (suc m) (λ j d e g. ne (omega (arith, s k j d e, h k (omega arith) (omega arith)))))

  -- a table in the order of its nodes: the search finds what the scan finds
  pub sought : Sorted t → edge_sought t n c R ≡ edge_for (edges_in t) n c R
  unfolding edge_sought start_of
  sought s = go (parts (lower t n) N falls N 0 N (omega arith) (omega arith) (omega arith) (λ k d. absurd (omega arith)) (λ k d e. absurd (omega arith)))
    where
      N : ℕ
      N = records_in 7 t

      falls : (i j : ℕ) → i ≤ j → j < N → lower t n j ≡ true → lower t n i ≡ true
      falls i j d e q = lt-true (from_at t i) n.0 (omega (arith, s i j d e, true-lt (from_at t j) n.0 q))

      go : Parts (lower t n) N (start_of t n) → edge_near t n c R (start_of t n) (N - start_of t n) ≡ edge_for (edges_in t) n c R
      go w =
          let p = start_of t n in
          let whole : p + (N - p) ≡ N = omega (arith, w.within) in
          near-all p (N - p) (λ i j d e. s i j d (omega arith)) (λ j d e. false-lt (from_at t j) n.0 (w.after j d (omega arith)))
          ∙ pass p N w.within (λ k d e. omega (arith, true-lt (from_at t k) n.0 (w.before k d)))
          ∙ scan-all t n c R
