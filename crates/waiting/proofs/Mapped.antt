-- Mapping the entries before or after is the same, for each part of the discipline.
use mathlib.Core.Path.{◌≡◌, refl}
use mathlib.Core.Option
use mathlib.Core.Option.{Option, none, some}
use Prim.Native.Nat.{ℕ, zero, suc}
use mathlib.Core.List.{List, [], ◌∷◌, map, map-append}
use Rattle.lists.specs.Lists.{listed, collect}
use Rattle.lists.proofs.Tests.{cond-ap}
use Rattle.thread.specs.declared.Model.{Model}
use Rattle.thread.specs.declared.Model.TheVariants.{Tso, Pso}
use Rattle.thread.specs.Sizes.{variables}
use Rattle.waiting.specs.Discipline.{Ready, or_else, behind, insert, add_wait, newest, oldest, ready_for, ready}

module _ {A B : Type 0} (f : A → B) where
  map-or_else : (o p : Option A) → Option.map f (or_else o p) ≡ or_else (Option.map f o) (Option.map f p)
  unfolding or_else
  map-or_else none p = refl
  map-or_else (some a) p = refl

  map-listed : (o : Option A) → map f (listed o) ≡ listed (Option.map f o)
  unfolding listed
  map-listed none = refl
  map-listed (some a) = refl

  map-collect : (g : ℕ → Option A) (h : ℕ → Option B) → ((x : ℕ) → Option.map f (g x) ≡ h x) → (k n : ℕ) → map f (collect g k n) ≡ collect h k n
  unfolding collect
  map-collect g h e k zero = refl
  map-collect g h e k (suc n) = rw (map-append, map-listed, e k, map-collect g h e (suc k) n)

module _ {A B : Type 0} (f : A → B) (v : B → ℕ) where
  abbrev pub u : A → ℕ
  u a = v (f a)

  map-insert : (w : List A) (a : A) → map f (insert u w a) ≡ insert v (map f w) (f a)
  unfolding insert
  map-insert [] a = refl
  map-insert (b ∷ w) a = rw (cond-ap (map f), map-insert w a)

  pub map-add_wait : (m : Model) (w : List A) (a : A) → map f (add_wait u m w a) ≡ add_wait v m (map f w) (f a)
  unfolding add_wait
  map-add_wait Tso w a = map-append f w (a ∷ [])
  map-add_wait Pso w a = map-insert w a

  pub map-newest : (w : List A) (x : ℕ) → Option.map f (newest u w x) ≡ newest v (map f w) x
  unfolding newest
  map-newest [] x = refl
  map-newest (a ∷ w) x = rw (map-or_else, map-newest w x, cond-ap (Option.map f))

  unfoldable pub map_ready : Ready A → Ready B
  map_ready q = record { store = f q.store; left = map f q.left }

  map-behind : (a : A) (o : Option (Ready A)) → Option.map map_ready (Option.map (behind a) o) ≡ Option.map (behind (f a)) (Option.map map_ready o)
  unfolding behind map_ready
  map-behind a none = refl
  map-behind a (some q) = refl

  map-oldest : (x : ℕ) (w : List A) → Option.map map_ready (oldest u x w) ≡ oldest v x (map f w)
  unfolding oldest map_ready
  map-oldest x [] = refl
  map-oldest x (a ∷ w) = rw (cond-ap (Option.map map_ready), map-behind, map-oldest x w)

  pub map-ready_for : (m : Model) (x : ℕ) (w : List A) → Option.map map_ready (ready_for u m x w) ≡ ready_for v m x (map f w)
  unfolding ready_for map_ready
  map-ready_for Tso x [] = refl
  map-ready_for Tso x (a ∷ w) = rw (cond-ap (Option.map map_ready))
  map-ready_for Pso x w = map-oldest x w

  pub map-ready : (m : Model) (w : List A) → map map_ready (ready u m w) ≡ ready v m (map f w)
  unfolding ready
  map-ready m w = map-collect map_ready (λ x. ready_for u m x w) (λ x. ready_for v m x (map f w)) (λ x. map-ready_for m x w) 0 variables
