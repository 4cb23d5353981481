-- Laws of halving: turn by turn, and what it finds where the test holds up to a place and not from there on.
use mathlib.Core.Path.{◌≡◌, refl, sym, ◌∙◌}
use mathlib.Core.Bool.{Bool, true, false}
use Prim.Native.Nat.{ℕ, zero, suc, ◌+◌, ◌-◌, ◌/◌, ◌≤◌, ◌<◌}
use native.Mathlib.Decide.{dec_lt}
use native.Mathlib.Omega.{arith}
use Rattle.lists.proofs.Tests.{lt-true, lt-false}
use Rattle.edges.specs.Sought.{halved}

abbrev pub middle : ℕ → ℕ → ℕ
middle lo hi = lo + (hi - lo) / 2

module _ (p : ℕ → Bool) where
  up : (n lo hi : ℕ) → lo < hi → p (middle lo hi) ≡ true → halved p (suc n) lo hi ≡ halved p n (middle lo hi + 1) hi
  unfolding halved
  up n lo hi h q = rw (lt-true lo hi h, q)

  down : (n lo hi : ℕ) → lo < hi → p (middle lo hi) ≡ false → halved p (suc n) lo hi ≡ halved p n lo (middle lo hi)
  unfolding halved
  down n lo hi h q = rw (lt-true lo hi h, q)

  stop : (n lo hi : ℕ) → hi ≤ lo → halved p n lo hi ≡ lo
  unfolding halved
  stop zero lo hi h = refl
  stop (suc n) lo hi h = rw (lt-false lo hi h)

  -- from lo to hi, turns enough lead to w
  abbrev pub Leads : ℕ → ℕ → ℕ → Type 0
  Leads lo hi w = (n : ℕ) × (hi ≤ lo + n) × (halved p n lo hi ≡ w)

  pub leads-up : (lo hi w : ℕ) → lo < hi → p (middle lo hi) ≡ true → Leads lo hi w → Leads (middle lo hi + 1) hi w
  leads-up lo hi w h q l = go l.0 l.1 l.2
    where
      go : (n : ℕ) → hi ≤ lo + n → halved p n lo hi ≡ w → Leads (middle lo hi + 1) hi w
      go zero g e = absurd (omega arith)
      go (suc n) g e = (n, omega arith, sym (up n lo hi h q) ∙ e)

  pub leads-down : (lo hi w : ℕ) → lo < hi → p (middle lo hi) ≡ false → Leads lo hi w → Leads lo (middle lo hi) w
  leads-down lo hi w h q l = go l.0 l.1 l.2
    where
      go : (n : ℕ) → hi ≤ lo + n → halved p n lo hi ≡ w → Leads lo (middle lo hi) w
      go zero g e = absurd (omega arith)
      go (suc n) g e = (n, omega arith, sym (down n lo hi h q) ∙ e)

  pub leads-end : (lo hi w : ℕ) → hi ≤ lo → Leads lo hi w → lo ≡ w
  leads-end lo hi w h l = sym (stop l.0 lo hi h) ∙ l.2

  -- the test holds below s, and of no number from s on that is below m
  pub record Parts (m s : ℕ) : Type 0 where
    pub within : s ≤ m
    pub before : (k : ℕ) → k < s → p k ≡ true
    pub after : (k : ℕ) → s ≤ k → k < m → p k ≡ false

  -- a test that holds of every number below one of which it holds
  module _ (m : ℕ) (falls : (i j : ℕ) → i ≤ j → j < m → p j ≡ true → p i ≡ true) where
    pub parts : (n lo hi : ℕ) → lo ≤ hi → hi ≤ m → hi ≤ lo + n → ((k : ℕ) → k < lo → p k ≡ true) → ((k : ℕ) → hi ≤ k → k < m → p k ≡ false) → Parts m (halved p n lo hi)
    parts zero lo hi g h f b a = rw (stop zero lo hi (omega arith)) (record { within = omega arith; before = b; after = λ k d. a k (omega arith) })
    parts (suc n) lo hi g h f b a = turn (dec_lt lo hi) (λ l t e. goes l t e (parts n))
      where
        not-above : p (middle lo hi) ≡ false → (k : ℕ) (t : Bool) → p k ≡ t → middle lo hi ≤ k → k < m → p k ≡ false
        not-above e k true q d i = let z : true ≡ false = sym (falls (middle lo hi) k d i q) ∙ e in q ∙ z
        not-above e k false q d i = q

        goes : lo < hi → (t : Bool) → p (middle lo hi) ≡ t
            → ((lo hi : ℕ) → lo ≤ hi → hi ≤ m → hi ≤ lo + n → ((k : ℕ) → k < lo → p k ≡ true) → ((k : ℕ) → hi ≤ k → k < m → p k ≡ false) → Parts m (halved p n lo hi))
            → Parts m (halved p (suc n) lo hi)
        goes l true e ih = rw (up n lo hi l e) (ih (middle lo hi + 1) hi (omega arith) h (omega arith) (λ k d. falls k (middle lo hi) (omega arith) (omega arith) e) a)
        goes l false e ih = rw (down n lo hi l e) (ih lo (middle lo hi) (omega arith) (omega arith) (omega arith) b (λ k d i. not-above e k (p k) refl d i))

        turn : Dec (lo < hi) → (lo < hi → (t : Bool) → p (middle lo hi) ≡ t → Parts m (halved p (suc n) lo hi)) → Parts m (halved p (suc n) lo hi)
        turn (yes l) go = go l (p (middle lo hi)) refl
        turn (no l) go = rw (stop (suc n) lo hi (omega arith)) (record { within = omega arith; before = b; after = λ k d. a k (omega arith) })
