-- A turn of a run's loop, for any kind of thread: the item at hand is done or refused, and the run of the others is left.
use mathlib.Core.Path.{◌≡◌, refl, sym, ap, ◌∙◌}
use mathlib.Core.Bool.{true, false}
use mathlib.Core.Option.{Option, none, some, map}
use Prim.Native.Nat.{ℕ, zero, suc, ◌+◌, ◌≤◌, ◌<◌}
use native.Mathlib.Numerals.{add-one}
use native.Mathlib.Omega.{arith}
use mathlib.Core.List.{List, [], ◌∷◌}
use lib.ListN.{length, get_or, get_elem?, take, drop, set, drop_of_length-le}
use lib.Seq.{drop-cons, take-set-lt}
use Rattle.thread.specs.Numbers.{◌!◌}
use Rattle.runs.specs.Run.{In, Stand, Item, items, back, takes, move, run}
use Rattle.runs.proofs.Laws.{run_step, run-stop}
use Rattle.shown.specs.Ran.{world}

module _ {A : Type 0} where
  pub get-taken : (l : List A) (n t : ℕ) (d : A) → t < n → t < length l → get_elem? (take n l) t ≡ some (get_or l t d)
  get-taken [] n t d h k = absurd (omega arith)
  get-taken (a ∷ l) zero t d h k = absurd (omega arith)
  get-taken (a ∷ l) (suc n) zero d h k = refl
  get-taken (a ∷ l) (suc n) (suc t) d h k = get-taken l n t d (omega arith) (omega arith)

  get-past-end : (l : List A) (n t : ℕ) → length l ≤ t → get_elem? (take n l) t ≡ none
  get-past-end [] zero t h = refl
  get-past-end [] (suc n) t h = refl
  get-past-end (a ∷ l) zero t h = refl
  get-past-end (a ∷ l) (suc n) zero h = absurd (omega arith)
  get-past-end (a ∷ l) (suc n) (suc t) h = get-past-end l n t (omega arith)

  pub get-past : (l : List A) (n t : ℕ) → n ≤ t → get_elem? (take n l) t ≡ none
  get-past [] zero t h = refl
  get-past [] (suc n) t h = refl
  get-past (a ∷ l) zero t h = refl
  get-past (a ∷ l) (suc n) zero h = absurd (omega arith)
  get-past (a ∷ l) (suc n) (suc t) h = get-past l n t (omega arith)

module _ {T : Type 0} (step : ℕ → ℕ → In T → Option (In T)) (count : ℕ) (M : List ℕ) (ts : List T) where
  -- no such thread
  pub takes-absent : (t c : ℕ) → count ≤ t → takes step (world count M ts) t c ≡ none
  unfolding takes
  takes-absent t c h = rw (get-past ts count t h)

  pub takes-past : (t c : ℕ) → length ts ≤ t → takes step (world count M ts) t c ≡ none
  unfolding takes
  takes-past t c h = rw (get-past-end ts count t h)

  goes_back : (t : ℕ) (x : In T) → t < count → back step (world count M ts) t x ≡ world count x.memory (set ts t x.own)
  unfolding back
  goes_back t x h = rw (take-set-lt count ts t x.own h)

  -- thread t is present
  module _ (t c : ℕ) (d : T) (present : t < count) (there : t < length ts) where
    stepping : (o : Option (In T)) → step t c (record { memory = M; own = get_or ts t d }) ≡ o → takes step (world count M ts) t c ≡ map (back step (world count M ts) t) o
    unfolding takes
    stepping o e = rw (get-taken ts count t d present there, e)

    pub takes_none : step t c (record { memory = M; own = get_or ts t d }) ≡ none → takes step (world count M ts) t c ≡ none
    takes_none e = stepping none e

    pub takes-some : (x : In T) → step t c (record { memory = M; own = get_or ts t d }) ≡ some x → takes step (world count M ts) t c ≡ some (world count x.memory (set ts t x.own))
    takes-some x e = stepping (some x) e ∙ ap some (goes_back t x present)

module _ {T : Type 0} (step : ℕ → ℕ → In T → Option (In T)) (count : ℕ) (s : List ℕ) where
  -- what is left of the run from place p of the schedule on, with n items done
  abbrev pub left : ℕ → ℕ → List ℕ → List T → Stand T
  left p n M ts = run step (items (drop p s)) n (world count M ts)

  abbrev pub stopped : ℕ → List ℕ → List T → Stand T
  stopped n M ts = record { world = world count M ts; steps = n; stopped = true }

  abbrev pub ended : ℕ → List ℕ → List T → Stand T
  ended n M ts = record { world = world count M ts; steps = n; stopped = false }

  module _ (p n : ℕ) (M : List ℕ) (ts : List T) where
    abbrev item_at : Item
    item_at = record { thread = s ! p; choice = some (s ! (p + 1)) }

    pub item-first : p + 1 < length s → items (drop p s) ≡ item_at ∷ items (drop (p + 2) s)
    unfolding items
    item-first h =
        let a : drop p s ≡ s ! p ∷ drop (suc p) s = drop-cons s p 0 (omega arith) in
        let b : drop (suc p) s ≡ s ! suc p ∷ drop (suc (suc p)) s = drop-cons s (suc p) 0 (omega arith) in
        let e : p + 1 ≡ suc p = add-one p in
        let f : p + 2 ≡ suc (suc p) = omega arith in
        rw (a, b, e, f, items)

    item-lone : p < length s → length s ≤ p + 1 → items (drop p s) ≡ record { thread = s ! p; choice = none } ∷ []
    unfolding items
    item-lone h g =
        let a : drop p s ≡ s ! p ∷ drop (suc p) s = drop-cons s p 0 h in
        let b : drop (suc p) s ≡ [] = drop_of_length-le s {i = suc p} (omega arith) in
        rw (a, b, items)

    moves-none : (t : ℕ) → move step (record { thread = t; choice = none }) (world count M ts) ≡ none
    unfolding move
    moves-none t = refl

    moves-choice : (t c : ℕ) → move step (record { thread = t; choice = some c }) (world count M ts) ≡ takes step (world count M ts) t c
    unfolding move
    moves-choice t c = refl

    module _ (h : p + 1 < length s) where
      -- the item names no step
      pub turn-refused : takes step (world count M ts) (s ! p) (s ! (p + 1)) ≡ none → left p n M ts ≡ stopped n M ts
      turn-refused e =
          ap (λ (ks : List Item). run step ks n (world count M ts)) (item-first h)
          ∙ run-stop step item_at (items (drop (p + 2) s)) n (world count M ts) (moves-choice (s ! p) (s ! (p + 1)) ∙ e)

      -- the item is done
      pub turn-done : (M' : List ℕ) (ts' : List T) → takes step (world count M ts) (s ! p) (s ! (p + 1)) ≡ some (world count M' ts') → left p n M ts ≡ left (p + 2) (n + 1) M' ts'
      turn-done M' ts' e =
          ap (λ (ks : List Item). run step ks n (world count M ts)) (item-first h)
          ∙ run_step step item_at (items (drop (p + 2) s)) n (world count M ts) (world count M' ts') (moves-choice (s ! p) (s ! (p + 1)) ∙ e)
          ∙ ap (λ (k : ℕ). run step (items (drop (p + 2) s)) k (world count M' ts')) (sym (add-one n))

    -- a lone last number
    pub turn-lone : p < length s → length s ≤ p + 1 → left p n M ts ≡ stopped n M ts
    turn-lone h g =
        ap (λ (ks : List Item). run step ks n (world count M ts)) (item-lone h g) ∙ run-stop step (record { thread = s ! p; choice = none }) [] n (world count M ts) (moves-none (s ! p))

    -- no item is left
    pub turn_end : length s ≤ p → left p n M ts ≡ ended n M ts
    unfolding run items
    turn_end h = rw (drop_of_length-le s {i = p} h)

-- where the loop stands: place p of the schedule, n items done, and the rest left
pub record Standing {T : Type 0} (step : ℕ → ℕ → In T → Option (In T)) (count : ℕ) (s M₀ : List ℕ) (ts₀ : List T) (M : List ℕ) (ts : List T) (p n : ℕ) : Type 0 where
  pub inside : p ≤ length s
  pub few : n ≤ p
  pub rest : left step count s 0 0 M₀ ts₀ ≡ left step count s p n M ts
