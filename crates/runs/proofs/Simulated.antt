-- Two kinds of thread in step by a relation: if related threads step alike, related worlds run alike, for every schedule and every beginning of one.
use mathlib.Core.Path.{◌≡◌, refl}
use mathlib.Core.Logic.{◌⊎◌, inl, inr, ⊎_elim}
use mathlib.Core.Bool.{Bool, true, false}
use mathlib.Core.Option.{Option, none, some, map, Option-elim, bind}
use Prim.Native.Nat.{ℕ, zero, suc}
use mathlib.Core.List.{List, [], ◌∷◌, ◌++◌}
use lib.ListN.{get_elem?, set}
use Rattle.lists.proofs.Tests.{true-T, false-T}
use Rattle.runs.specs.Run.{In, World, Stand, Item, back, takes, move, run}
use Rattle.runs.proofs.Beside.{Beside}
use Rattle.runs.proofs.Laws.{not-before}

-- what thread t, by its number, does at choice c
abbrev pub Step : Type 0 → Type 0
Step T = ℕ → ℕ → In T → Option (In T)

-- the second has got what the first has got
abbrev pub Followed : {A B : Type 0} → (A → B → Type 0) → Option A → Option B → Type 0
Followed = Beside (Unit {0})

-- each has got what the other has got
abbrev pub Together : {A B : Type 0} → (A → B → Type 0) → Option A → Option B → Type 0
Together = Beside ⊥

pub beside-imp : {A B : Type 0} (Alone : Type 0) (P Q : A → B → Type 0) → ((a : A) (b : B) → P a b → Q a b) → (o : Option A) (p : Option B) → Beside Alone P o p → Beside Alone Q o p
beside-imp Alone P Q f none none h = tt
beside-imp Alone P Q f none (some b) h = h
beside-imp Alone P Q f (some a) none h = h
beside-imp Alone P Q f (some a) (some b) h = f a b h

-- P of each two threads and their number; as many on both sides
abbrev pub Pairwise : {T U : Type 0} → (ℕ → T → U → Type 0) → List T → List U → Type 0
Pairwise P [] [] = Unit {0}
Pairwise P [] (b ∷ us) = ⊥
Pairwise P (a ∷ ts) [] = ⊥
Pairwise P (a ∷ ts) (b ∷ us) = P 0 a b × Pairwise (λ k. P (suc k)) ts us

pair-get : {T U : Type 0} (P : ℕ → T → U → Type 0) (ts : List T) (us : List U) (t : ℕ) → Pairwise P ts us → Together (P t) (get_elem? ts t) (get_elem? us t)
pair-get P [] [] t h = tt
pair-get P [] (b ∷ us) t h = absurd h
pair-get P (a ∷ ts) [] t h = absurd h
pair-get P (a ∷ ts) (b ∷ us) zero h = h.0
pair-get P (a ∷ ts) (b ∷ us) (suc t) h = pair-get (λ k. P (suc k)) ts us t h.1

pair_set : {T U : Type 0} (P : ℕ → T → U → Type 0) (ts : List T) (us : List U) (t : ℕ) (a : T) (b : U) → Pairwise P ts us → P t a b → Pairwise P (set ts t a) (set us t b)
pair_set P [] [] t a b h g = tt
pair_set P [] (d ∷ us) t a b h g = absurd h
pair_set P (c ∷ ts) [] t a b h g = absurd h
pair_set P (c ∷ ts) (d ∷ us) zero a b h g = (g, h.1)
pair_set P (c ∷ ts) (d ∷ us) (suc t) a b h g = (h.0, pair_set (λ k. P (suc k)) ts us t a b h.1 g)

-- one memory, and related threads
pub record AlikeIn {T U : Type 0} (P : T → U → Type 0) (r : In T) (s : In U) : Type 0 where
  pub memory : r.memory ≡ s.memory
  pub own : P r.own s.own

pub record AlikeWorld {T U : Type 0} (P : ℕ → T → U → Type 0) (w : World T) (u : World U) : Type 0 where
  pub memory : w.memory ≡ u.memory
  pub threads : Pairwise P w.threads u.threads

pub record AlikeStand {T U : Type 0} (P : ℕ → T → U → Type 0) (e : Stand T) (f : Stand U) : Type 0 where
  pub world : AlikeWorld P e.world f.world
  pub steps : e.steps ≡ f.steps
  pub stopped : e.stopped ≡ f.stopped

module _ {T U : Type 0} (Alone : Type 0) (P : ℕ → T → U → Type 0) (gs : Step T) (bs : Step U)
    (sim : (t c : ℕ) (M : List ℕ) (a : T) (b : U) → P t a b → Beside Alone (AlikeIn (P t)) (gs t c (record { memory = M; own = a })) (bs t c (record { memory = M; own = b }))) where
  beside_back : (w : World T) (u : World U) (t : ℕ) → AlikeWorld P w u → (o : Option (In T)) (p : Option (In U)) → Beside Alone (AlikeIn (P t)) o p
      → Beside Alone (AlikeWorld P) (map (back gs w t) o) (map (back bs u t) p)
  unfolding back
  beside_back w u t h none none g = tt
  beside_back w u t h none (some s) g = g
  beside_back w u t h (some r) none g = g
  beside_back w u t h (some r) (some s) g = record { memory = g.memory; threads = pair_set P w.threads u.threads t r.own s.own h.threads g.own }

  beside-takes : (w : World T) (u : World U) (t c : ℕ) → AlikeWorld P w u → Beside Alone (AlikeWorld P) (takes gs w t c) (takes bs u t c)
  unfolding takes
  beside-takes w u t c h = go (get_elem? w.threads t) (get_elem? u.threads t) (pair-get P w.threads u.threads t h.threads)
    where
      go : (o : Option T) (p : Option U) → Together (P t) o p
          → Beside Alone (AlikeWorld P) (bind o (λ (a : T). map (back gs w t) (gs t c (record { memory = w.memory; own = a })))) (bind p (λ (b : U). map (back bs u t) (bs t c (record { memory = u.memory; own = b }))))
      go none none g = tt
      go none (some b) g = absurd g
      go (some a) none g = absurd g
      go (some a) (some b) g = beside_back w u t h (gs t c (record { memory = w.memory; own = a })) (bs t c (record { memory = u.memory; own = b })) (rw h.memory (sim t c u.memory a b g))

  beside-move : (k : Item) (w : World T) (u : World U) → AlikeWorld P w u → Beside Alone (AlikeWorld P) (move gs k w) (move bs k u)
  unfolding move
  beside-move k w u h = go k.choice
    where
      go : (o : Option ℕ) → Beside Alone (AlikeWorld P) (bind o (takes gs w k.thread)) (bind o (takes bs u k.thread))
      go none = tt
      go (some c) = beside-takes w u k.thread c h

  -- the first is not stopped, or the second never goes on alone
  abbrev GoesOn : Bool → Type 0
  GoesOn stopped = (stopped ≡ false) ⊎ (Alone → ⊥)

  carried : (a : World T → Stand T) (b : World U → Stand U) → ((x : World T) (y : World U) → AlikeWorld P x y → GoesOn (a x).stopped → AlikeStand P (a x) (b y))
      → (o : Option (World T)) (p : Option (World U)) → Beside Alone (AlikeWorld P) o p → (s : Stand T) (t : Stand U) → AlikeStand P s t → s.stopped ≡ true → GoesOn (Option-elim o s a).stopped
      → AlikeStand P (Option-elim o s a) (Option-elim p t b)
  unfolding Option-elim
  carried a b h none none g s t k d e = k
  carried a b h none (some y) g s t k d e = absurd (⊎_elim (λ (f : s.stopped ≡ false). false-T f (true-T d)) (λ (n : Alone → ⊥). n g) e)
  carried a b h (some x) none g s t k d e = absurd g
  carried a b h (some x) (some y) g s t k d e = h x y g e

  beside-runs : (ks : List Item) (n : ℕ) (w : World T) (u : World U) → AlikeWorld P w u → GoesOn (run gs ks n w).stopped → AlikeStand P (run gs ks n w) (run bs ks n u)
  unfolding run
  beside-runs [] n w u h e = record { world = h; steps = refl; stopped = refl }
  beside-runs (k ∷ ks) n w u h e =
      carried (run gs ks (suc n)) (run bs ks (suc n)) (beside-runs ks (suc n)) (move gs k w) (move bs k u) (beside-move k w u h) _ _ (record { world = h; steps = refl; stopped = refl }) refl e

module _ {T U : Type 0} (P : ℕ → T → U → Type 0) (gs : Step T) (bs : Step U)
    (sim : (t c : ℕ) (M : List ℕ) (a : T) (b : U) → P t a b → Followed (AlikeIn (P t)) (gs t c (record { memory = M; own = a })) (bs t c (record { memory = M; own = b }))) where
  -- a schedule that the first can carry out the second can, and they stand alike
  pub sim-runs : (ks : List Item) (n : ℕ) (w : World T) (u : World U) → AlikeWorld P w u → (run gs ks n w).stopped ≡ false → AlikeStand P (run gs ks n w) (run bs ks n u)
  sim-runs ks n w u h e = beside-runs (Unit {0}) P gs bs sim ks n w u h (inl e)

  -- and so after every step
  pub sim-steps : (ks js : List Item) (n : ℕ) (w : World T) (u : World U) → AlikeWorld P w u → (run gs (ks ++ js) n w).stopped ≡ false → AlikeStand P (run gs ks n w) (run bs ks n u)
  sim-steps ks js n w u h e = sim-runs ks n w u h (not-before gs ks js n w e)

module _ {T U : Type 0} (P : ℕ → T → U → Type 0) (gs : Step T) (bs : Step U)
    (lock : (t c : ℕ) (M : List ℕ) (a : T) (b : U) → P t a b → Together (AlikeIn (P t)) (gs t c (record { memory = M; own = a })) (bs t c (record { memory = M; own = b }))) where
  -- each can carry out what the other can: they stand alike whatever the schedule, also where it is stopped
  pub lock-runs : (ks : List Item) (n : ℕ) (w : World T) (u : World U) → AlikeWorld P w u → AlikeStand P (run gs ks n w) (run bs ks n u)
  lock-runs ks n w u h = beside-runs ⊥ P gs bs lock ks n w u h (inr (λ x. x))
