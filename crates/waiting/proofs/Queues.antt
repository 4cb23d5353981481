-- The discipline is the paper's queues: under TSO one, under PSO one for each variable. What is ready is complete, once each, by variable ascending.
use mathlib.Core.Path.{◌≡◌, refl, sym, ap, ◌∙◌}
use mathlib.Core.Logic.{◌≢◌, ◌↔◌}
use mathlib.Core.Bool.{Bool, true, false, cond}
use mathlib.Core.Option.{Option, none, some, map}
use Prim.Native.Nat.{ℕ, zero, suc, ◌≤◌, ◌<◌}
use native.Mathlib.Omega.{arith}
use native.Mathlib.Decide.{dec_lt}
use mathlib.Core.List.{List, [], ◌∷◌, ◌++◌, append-nil, Memᴰ}
use lib.Dec.{eqb}
use Rattle.lists.specs.Lists.{All, first, those, listed, collect}
use Rattle.lists.proofs.Lists.{Holds, holds-imp, holds-both, holds_at, all-imp, all_of, all-at, not_some, Collected, mem-collect}
use Rattle.lists.proofs.Tests.{eq-true, eq-false, true-eq, false-eq}
use Rattle.thread.specs.declared.Model.{Model}
use Rattle.thread.specs.declared.Model.TheVariants.{Tso, Pso}
use Rattle.thread.specs.Sizes.{variables}
use Rattle.waiting.specs.Discipline.{Ready, or_else, behind, add_wait, newest, oldest, ready_for, ready}
use Rattle.waiting.proofs.Keeps.{by-add, by-tso, by-pso, mem-ready, all-add_wait, all-ready_for}

-- the last element
unfoldable pub last : {A : Type 0} → List A → Option A
unfolding or_else
last [] = none
last (a ∷ w) = or_else (last w) (some a)

or_else-none : {A : Type 0} (o : Option A) → or_else o none ≡ o
unfolding or_else
or_else-none none = refl
or_else-none (some a) = refl

not-cons : {A : Type 0} {a : A} {l : List A} → [] ≡ a ∷ l → ⊥
not-cons e = let z : ◌≡◌ {A = ℕ} 0 1 = cc in omega arith

slide : {A : Type 0} (b : Bool) (a : A) (p q : List A) → cond b (a ∷ p) p ++ q ≡ cond b (a ∷ p ++ q) (p ++ q)
slide true a p q = refl
slide false a p q = refl

module _ {A : Type 0} (v : A → ℕ) where
  -- the entries for x, oldest first
  unfoldable pub queue : ℕ → List A → List A
  unfolding those
  queue x w = those (λ a. eqb (v a) x) w

  -- listed by variable ascending
  abbrev pub Ascending : List A → Type 0
  Ascending [] = Unit {0}
  Ascending (a ∷ w) = All (λ b. v a ≤ v b) w × Ascending w

  -- TSO is one queue: what is added goes to its end
  pub tso-add : (w : List A) (a : A) → add_wait v Tso w a ≡ w ++ a ∷ []
  unfolding add_wait
  tso-add w a = refl

  -- and what is ready is its first
  pub tso-ready : (x : ℕ) (w : List A) (q : Ready A) → (ready_for v Tso x w ≡ some q) ↔ ((w ≡ q.store ∷ q.left) × (v q.store ≡ x))
  unfolding ready_for
  tso-ready x [] q = (λ e. absurd (not_some e), λ h. absurd (not-cons h.0))
  tso-ready x (a ∷ w) q = (to (eqb (v a) x) refl, from)
    where
      to : (c : Bool) → eqb (v a) x ≡ c → cond c (some (record { store = a; left = w })) none ≡ some q → (a ∷ w ≡ q.store ∷ q.left) × (v q.store ≡ x)
      to true t e = let p : record { store = a; left = w } ≡ q = cc in (ap (λ (q : Ready A). q.store ∷ q.left) p, ap (λ (q : Ready A). v q.store) (sym p) ∙ true-eq (v a) x t)
      to false t e = absurd (not_some e)

      from : (a ∷ w ≡ q.store ∷ q.left) × (v q.store ≡ x) → cond (eqb (v a) x) (some (record { store = a; left = w })) none ≡ some q
      from h =
          let e : a ∷ w ≡ q.store ∷ q.left = h.0 in
          let p : a ≡ q.store = cc in
          let r : w ≡ q.left = cc in
          rw (p, r, h.1, eq-true)

  -- PSO is a queue for each variable: an entry stands in its own, and in no other
  queue-own : (x : ℕ) (a : A) (w : List A) → v a ≡ x → queue x (a ∷ w) ≡ a ∷ queue x w
  unfolding queue
  queue-own x a w e = rw (e, eq-true)

  queue-other : (x : ℕ) (a : A) (w : List A) → v a ≢ x → queue x (a ∷ w) ≡ queue x w
  unfolding queue
  queue-other x a w n = rw (eq-false (v a) x n)

  queue-empty : (x : ℕ) (w : List A) → All (λ b. x < v b) w → queue x w ≡ []
  unfolding queue
  queue-empty x [] h = refl
  queue-empty x (b ∷ w) h = rw (eq-false (v b) x (omega (arith, h.0)), queue-empty x w h.1)

  -- what is added goes to the end of its variable's queue
  pub queue-add : (x : ℕ) (w : List A) (a : A) → Ascending w → queue x (add_wait v Pso w a) ≡ queue x w ++ queue x (a ∷ [])
  unfolding queue add_wait
  queue-add x [] a h = refl
  queue-add x (b ∷ w) a h = by-add v (λ l. queue x l ≡ queue x (b ∷ w) ++ queue x (a ∷ [])) b w a (λ l. rw (queue-add x w a h.1, slide)) (past (eqb (v a) x) refl)
    where
      past : (c : Bool) → eqb (v a) x ≡ c → v a < v b → cond c (a ∷ queue x (b ∷ w)) (queue x (b ∷ w)) ≡ queue x (b ∷ w) ++ cond c (a ∷ []) []
      past true e lt =
          let p : v a ≡ x = true-eq (v a) x e in
          rw (queue-empty x (b ∷ w) (omega arith, all-imp (λ k. v b ≤ v k) (λ k. x < v k) (λ k l. omega arith) w h.0))
      past false e lt = rw append-nil

  -- the newest is the last of its queue
  pub queue-newest : (x : ℕ) (w : List A) → newest v w x ≡ last (queue x w)
  unfolding queue newest last
  queue-newest x [] = refl
  queue-newest x (a ∷ w) = rw (queue-newest x w) (go (eqb (v a) x))
    where
      go : (c : Bool) → or_else (last (queue x w)) (cond c (some a) none) ≡ last (cond c (a ∷ queue x w) (queue x w))
      go true = refl
      go false = or_else-none (last (queue x w))

  -- what is ready is the first of its queue, and no other queue changes
  pub record FirstOf (x : ℕ) (w : List A) (q : Ready A) : Type 0 where
    pub own : queue x w ≡ q.store ∷ queue x q.left
    pub its : v q.store ≡ x
    pub others : (y : ℕ) → y ≢ x → queue y w ≡ queue y q.left

  first-front : (x : ℕ) (a : A) (w : List A) → v a ≡ x → FirstOf x (a ∷ w) (record { store = a; left = w })
  first-front x a w e = record { own = queue-own x a w e; its = e; others = λ y n. queue-other y a w (λ p. n (sym p ∙ e)) }

  first-behind : (x : ℕ) (a : A) (w : List A) (q : Ready A) → v a ≢ x → FirstOf x w q → FirstOf x (a ∷ w) (record { store = q.store; left = a ∷ q.left })
  unfolding queue
  first-behind x a w q n f = record { own = rw (eq-false (v a) x n, f.own); its = f.its; others = λ y d. rw (f.others y d) }

  pub pso-ready : (x : ℕ) (w : List A) → Holds (FirstOf x w) (ready_for v Pso x w)
  unfolding ready_for
  pso-ready x [] = tt
  pso-ready x (a ∷ w) = by-pso v (FirstOf x (a ∷ w)) x a w (first-front x a w)
      (λ n. holds-imp (FirstOf x w) (λ q. FirstOf x (a ∷ w) (record { store = q.store; left = a ∷ q.left })) (λ q f. first-behind x a w q n f) (ready_for v Pso x w) (pso-ready x w))

  none-empty : (x : ℕ) (w : List A) → oldest v x w ≡ none → queue x w ≡ []
  unfolding oldest queue
  none-empty x [] e = refl
  none-empty x (a ∷ w) e = go (eqb (v a) x) (oldest v x w) (none-empty x w) e
    where
      go : (c : Bool) (o : Option (Ready A)) → (o ≡ none → queue x w ≡ []) → cond c (some (record { store = a; left = w })) (map (behind a) o) ≡ none → cond c (a ∷ queue x w) (queue x w) ≡ []
      go true o ih e = absurd (not_some (sym e))
      go false none ih e = ih refl
      go false (some q) ih e = absurd (not_some (sym e))

  pub pso-none : (x : ℕ) (w : List A) → (ready_for v Pso x w ≡ none) ↔ (queue x w ≡ [])
  unfolding ready_for
  pso-none x w = (none-empty x w, λ e. go (ready_for v Pso x w) (pso-ready x w) e)
    where
      go : (o : Option (Ready A)) → Holds (FirstOf x w) o → queue x w ≡ [] → o ≡ none
      go none f e = refl
      go (some q) f e = absurd (not-cons (sym e ∙ f.own))

  pub ascending-add : (w : List A) (a : A) → Ascending w → Ascending (add_wait v Pso w a)
  unfolding add_wait
  ascending-add [] a h = (tt, tt)
  ascending-add (b ∷ w) a h = by-add v Ascending b w a
      (λ l. (all-add_wait v (λ k. v b ≤ v k) Pso w a h.0 l, ascending-add w a h.1))
      (λ l. ((omega arith, all-imp (λ k. v b ≤ v k) (λ k. v a ≤ v k) (λ k g. omega arith) w h.0), h))

  pub ascending-ready : (x : ℕ) (w : List A) → Ascending w → Holds (λ q. Ascending q.left) (ready_for v Pso x w)
  unfolding ready_for
  ascending-ready x [] h = tt
  ascending-ready x (a ∷ w) h = by-pso v (λ q. Ascending q.left) x a w (λ e. h.1)
      (λ n. holds-both (λ q. All (λ b. v a ≤ v b) q.left) (λ q. Ascending q.left) (ready_for v Pso x w)
      (holds-imp (λ q. (v a ≤ v q.store) × All (λ b. v a ≤ v b) q.left) (λ q. All (λ b. v a ≤ v b) q.left) (λ q g. g.1) (ready_for v Pso x w) (all-ready_for v (λ b. v a ≤ v b) Pso x w h.0))
      (ascending-ready x w h.1))

  -- what is ready for x is for x
  its-ready : (m : Model) (x : ℕ) (w : List A) → Holds (λ q. v q.store ≡ x) (ready_for v m x w)
  unfolding ready_for
  its-ready Tso x [] = tt
  its-ready Tso x (a ∷ w) = by-tso v (λ q. v q.store ≡ x) x a w (λ e. e)
  its-ready Pso x w = holds-imp (FirstOf x w) (λ q. v q.store ≡ x) (λ q f. f.its) (ready_for v Pso x w) (pso-ready x w)

  its-some : (m : Model) (x : ℕ) (w : List A) (q : Ready A) → ready_for v m x w ≡ some q → v q.store ≡ x
  its-some m x w q e = holds_at (λ q. v q.store ≡ x) (ready_for v m x w) q e (its-ready m x w)

  -- what is ready is complete: all that is ready for a variable, and nothing else
  pub ready-iff : (m : Model) (w : List A) (q : Ready A) → Memᴰ q (ready v m w) ↔ ((v q.store < variables) × (ready_for v m (v q.store) w ≡ some q))
  ready-iff m w q = (λ k. to ((mem-ready v m w q).0 k), λ h. (mem-ready v m w q).1 (record { number = v q.store; from = omega arith; below = omega (arith, h.0); gives = h.1 }))
    where
      to : Collected (λ x. ready_for v m x w) 0 variables q → (v q.store < variables) × (ready_for v m (v q.store) w ≡ some q)
      to g = let e : v q.store ≡ g.number = its-some m g.number w q g.gives in (omega arith, rw e g.gives)

  -- by variable strictly ascending, so that no variable is ready twice
  abbrev pub Rising : List (Ready A) → Type 0
  Rising [] = Unit {0}
  Rising (q ∷ qs) = All (λ r. v q.store < v r.store) qs × Rising qs

  rising-collect : (f : ℕ → Option (Ready A)) → ((x : ℕ) → Holds (λ q. v q.store ≡ x) (f x)) → (k n : ℕ) → Rising (collect f k n)
  unfolding collect
  rising-collect f h k zero = tt
  rising-collect f h k (suc n) = go (f k) (h k) (rising-collect f h (suc k) n)
    where
      later : (q : Ready A) → v q.store ≡ k → (r : Ready A) → Memᴰ r (collect f (suc k) n) → v q.store < v r.store
      later q e r m = let g = mem-collect f (suc k) n r m in let p : v r.store ≡ g.number = holds_at (λ s. v s.store ≡ g.number) (f g.number) r g.gives (h g.number) in omega arith

      go : (o : Option (Ready A)) → Holds (λ q. v q.store ≡ k) o → Rising (collect f (suc k) n) → Rising (listed o ++ collect f (suc k) n)
      go none e r = r
      go (some q) e r = (all_of (λ r. v q.store < v r.store) (collect f (suc k) n) (later q e), r)

  pub ready-ascending : (m : Model) (w : List A) → Rising (ready v m w)
  unfolding ready
  ready-ascending m w = rising-collect (λ x. ready_for v m x w) (λ x. its-ready m x w) 0 variables

  abbrev for : ℕ → Ready A → Bool
  for x q = eqb (v q.store) x

  first-is : (x : ℕ) (qs : List (Ready A)) (q : Ready A) → Memᴰ q qs → Rising qs → v q.store ≡ x → first (for x) qs ≡ some q
  unfolding first
  first-is x [] q m h p = elim m [ ]
  first-is x (r ∷ qs) q (Memᴰ.head e) h p = rw (← e, p, eq-true)
  first-is x (r ∷ qs) q (Memᴰ.tail m) h p =
      let l : v r.store < v q.store = all-at (λ s. v r.store < v s.store) m h.0 in
      rw (eq-false (v r.store) x (omega arith), first-is x qs q m h.1 p)

  first-none : (x : ℕ) (qs : List (Ready A)) → ((q : Ready A) → Memᴰ q qs → v q.store ≢ x) → first (for x) qs ≡ none
  unfolding first
  first-none x [] h = refl
  first-none x (q ∷ qs) h = rw (eq-false (v q.store) x (h q (Memᴰ.head refl)), first-none x qs (λ r m. h r (Memᴰ.tail m)))

  -- so that the first for x is the ready one for x
  pub first-ready : (m : Model) (x : ℕ) (w : List A) → All (λ a. v a < variables) w → first (λ (q : Ready A). eqb (v q.store) x) (ready v m w) ≡ ready_for v m x w
  first-ready m x w h = go (ready_for v m x w) refl (all-ready_for v (λ a. v a < variables) m x w h)
    where
      go : (o : Option (Ready A)) → ready_for v m x w ≡ o → Holds (λ q. (v q.store < variables) × All (λ a. v a < variables) q.left) o → first (for x) (ready v m w) ≡ o
      go none e b = first-none x (ready v m w) (λ q k p. not_some (sym e ∙ (rw p at ((ready-iff m w q).0 k).1)))
      go (some q) e b = let p : v q.store ≡ x = its-some m x w q e in first-is x (ready v m w) q ((ready-iff m w q).1 (b.0, rw p e)) (ready-ascending m w) p

  -- a listing is determined by its queues
  pub listing-unique : (w u : List A) → Ascending w → Ascending u → ((x : ℕ) → queue x w ≡ queue x u) → w ≡ u
  unfolding queue
  listing-unique [] [] g h e = refl
  listing-unique [] (b ∷ u) g h e = absurd (not-cons (e (v b) ∙ queue-own (v b) b u refl))
  listing-unique (a ∷ w) [] g h e = absurd (not-cons (sym (e (v a)) ∙ queue-own (v a) a w refl))
  listing-unique (a ∷ w) (b ∷ u) g h e =
      let p : v a ≡ v b = same-variable in
      let t : a ∷ queue (v a) w ≡ b ∷ queue (v a) u = sym (queue-own (v a) a w refl) ∙ e (v a) ∙ queue-own (v a) b u (sym p) in
      let r : a ≡ b = cc in
      let s : queue (v a) w ≡ queue (v a) u = cc in
      let l : w ≡ u = listing-unique w u g.1 h.1 (rest p s) in
      cc
    where
      not-before : (a b : A) (w u : List A) → Ascending (b ∷ u) → queue (v a) (a ∷ w) ≡ queue (v a) (b ∷ u) → v a < v b → ⊥
      not-before a b w u h e l = not-cons (sym (queue-empty (v a) (b ∷ u) (l, all-imp (λ c. v b ≤ v c) (λ c. v a < v c) (λ c k. omega arith) u h.0)) ∙ sym e ∙ queue-own (v a) a w refl)

      same-variable : v a ≡ v b
      same-variable = go (dec_lt (v a) (v b)) (dec_lt (v b) (v a))
        where
          go : Dec (v a < v b) → Dec (v b < v a) → v a ≡ v b
          go (yes l) d = absurd (not-before a b w u h (e (v a)) l)
          go (no l) (yes k) = absurd (not-before b a u w g (sym (e (v b))) k)
          go (no l) (no k) = omega arith

      rest : v a ≡ v b → queue (v a) w ≡ queue (v a) u → (x : ℕ) → queue x w ≡ queue x u
      rest p s x = go (eqb (v a) x) refl
        where
          go : (c : Bool) → eqb (v a) x ≡ c → queue x w ≡ queue x u
          go true t = rw (true-eq (v a) x t) at s
          go false t = let n = false-eq (v a) x t in sym (queue-other x a w n) ∙ e x ∙ queue-other x b u (λ k. n (p ∙ k))

  -- of two entries for different variables, no queue has both
  apart : (x : ℕ) (l : List A) (a b : A) → v a ≢ v b → l ++ queue x (a ∷ []) ++ queue x (b ∷ []) ≡ l ++ queue x (b ∷ []) ++ queue x (a ∷ [])
  unfolding queue
  apart x l a b n = go (eqb (v a) x) refl
    where
      go : (c : Bool) → eqb (v a) x ≡ c → l ++ cond c (a ∷ []) [] ++ queue x (b ∷ []) ≡ l ++ queue x (b ∷ []) ++ cond c (a ∷ []) []
      go true e = rw (eq-false (v b) x (λ k. n (true-eq (v a) x e ∙ sym k))) (simp append-nil)
      go false e = simp append-nil

  -- adds for different variables commute
  pub adds-commute : (w : List A) (a b : A) → Ascending w → v a ≢ v b → add_wait v Pso (add_wait v Pso w a) b ≡ add_wait v Pso (add_wait v Pso w b) a
  adds-commute w a b h n =
      listing-unique (add_wait v Pso (add_wait v Pso w a) b) (add_wait v Pso (add_wait v Pso w b) a)
      (ascending-add (add_wait v Pso w a) b (ascending-add w a h)) (ascending-add (add_wait v Pso w b) a (ascending-add w b h)) same
    where
      same : (x : ℕ) → queue x (add_wait v Pso (add_wait v Pso w a) b) ≡ queue x (add_wait v Pso (add_wait v Pso w b) a)
      same x = rw (queue-add x (add_wait v Pso w a) b (ascending-add w a h), queue-add x w a h, queue-add x (add_wait v Pso w b) a (ascending-add w b h), queue-add x w b h) (apart x (queue x w) a b n)
