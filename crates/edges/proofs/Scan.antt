-- Laws of the scan: the first edge that fits, record by record.
use mathlib.Core.Path.{◌≡◌, sym, ap, ◌∙◌}
use mathlib.Core.Bool.{Bool, true, false, cond}
use mathlib.Core.Option.{Option, none, some}
use Prim.Native.Nat.{ℕ, suc, ◌+◌, ◌-◌, ◌≤◌, ◌<◌}
use native.Mathlib.Numerals.{add-one}
use native.Mathlib.Nat.{sub-zero}
use native.Mathlib.Omega.{arith}
use mathlib.Core.List.{List, [], ◌∷◌, ◌++◌}
use Rattle.std.specs.Prelude as code
use Rattle.std.specs.Prelude.{Some, None}
use Rattle.lists.specs.Lists.{first, listed, collect}
use Rattle.lists.specs.Options.{option_of}
use Rattle.lists.proofs.Options.{held-none, held-some}
use Rattle.lists.proofs.Lists.{first-append}
use Rattle.thread.specs.declared.Node.{Node}
use Rattle.graphs.specs.declared.Edge.{Edge}
use Rattle.graphs.specs.Records.{edge_at, edges_in, records_in}
use Rattle.generated.specs.Machine.{edge_for}
use Rattle.edges.specs.Sought.{edge_there}

pub first_found : {A : Type 0} (p : A → Bool) (l k : List A) (a : A) → first p l ≡ some a → first p (l ++ k) ≡ some a
unfolding first
first_found p [] k a e = let z : ◌≡◌ {A = Option _} none (some a) = e in cc
first_found p (x ∷ l) k a e = go (p x) e (first_found p l k a)
  where
    go : (b : Bool) → cond b (some x) (first p l) ≡ some a → (first p l ≡ some a → first p (l ++ k) ≡ some a) → cond b (some x) (first p (l ++ k)) ≡ some a
    go true e ih = e
    go false e ih = ih e

pub collect-more : {A : Type 0} (f : ℕ → Option A) (k n : ℕ) → k < n → collect f k (n - k) ≡ listed (f k) ++ collect f (k + 1) (n - (k + 1))
unfolding collect
collect-more f k n h = let e : n - k ≡ suc (n - suc k) = omega arith in rw (e, add-one)

pub collect-end : {A : Type 0} (f : ℕ → Option A) (k n : ℕ) → n ≤ k → collect f k (n - k) ≡ []
unfolding collect
collect-end f k n h = let e : n - k ≡ 0 = omega arith in rw e

-- what is left of the scan from record k on
abbrev pub edge_from : List ℕ → ℕ → ℕ → Node → ℕ → List ℕ → Option Edge
edge_from t k records n c R = edge_for (collect (edge_at t) k (records - k)) n c R

module _ (t : List ℕ) (n : Node) (c : ℕ) (R : List ℕ) where
  pub scan-all : edge_from t 0 (records_in 7 t) n c R ≡ edge_for (edges_in t) n c R
  unfolding edges_in
  scan-all = rw sub-zero

  -- the code's way: r is what record k gives
  module _ (k records : ℕ) (r : code.Option Edge) (h : k < records) (i : r ≡ option_of (edge_there t k n c R)) where
    pub scan-on : r ≡ None → edge_from t (k + 1) records n c R ≡ edge_from t k records n c R
    unfolding edge_for
    scan-on q = sym (rw (collect-more (edge_at t) k records h) (first-append _ (listed (edge_at t k)) (collect (edge_at t) (k + 1) (records - (k + 1))) (held-none (edge_there t k n c R) (sym i ∙ q))))

    pub scan-found : (e : Edge) → r ≡ Some e → Some e ≡ option_of (edge_from t k records n c R)
    unfolding edge_for option_of
    scan-found e q =
        let f : edge_from t k records n c R ≡ some e =
        rw (collect-more (edge_at t) k records h) (first_found _ (listed (edge_at t k)) (collect (edge_at t) (k + 1) (records - (k + 1))) e (held-some (edge_there t k n c R) e (sym i ∙ q))) in
        ap option_of (sym f)

  pub scan-end : (k records : ℕ) → records ≤ k → None ≡ option_of (edge_from t k records n c R)
  unfolding edge_for first option_of
  scan-end k records h = rw (collect-end (edge_at t) k records h)
