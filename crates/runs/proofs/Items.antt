-- One turn of a run over a schedule: the item at hand is done or refused, and the run of the others is left.
use Rattle.std.specs.Prelude.{Ok, Err}
use mathlib.Core.Path.{◌≡◌, refl, sym, ap, ◌∙◌}
use mathlib.Core.Bool.{true, false}
use mathlib.Core.Option.{Option, none, some}
use Prim.Native.Nat.{ℕ, zero, suc, ◌+◌, ◌*◌, ◌/◌, ◌≤◌, ◌<◌}
use native.Mathlib.Numerals.{add-one}
use native.Mathlib.Omega.{arith}
use mathlib.Core.List.{List, [], ◌∷◌}
use lib.ListN.{length, drop, get_or, drop_of_length-le}
use lib.Seq.{drop-cons}
use Rattle.std.specs.Simd.{first_chunks}
use Rattle.thread.specs.Numbers.{◌!◌}
use Rattle.runs.specs.declared.Unfinished.TheVariants as U
use Rattle.runs.specs.Run.{In, World, Stand, Item, items, takes, move, run, end_of}
use Rattle.runs.specs.Machine.{Led}
use Rattle.runs.proofs.Laws.{run_step, run-stop}

-- the items of a schedule in pairs
module _ (s : List ℕ) where
  abbrev pub item_at : ℕ → Item
  item_at p = record { thread = s ! p; choice = some (s ! (p + 1)) }

  pub item-first : (p : ℕ) → p + 1 < length s → items (drop p s) ≡ item_at p ∷ items (drop (p + 2) s)
  unfolding items
  item-first p h =
      let a : drop p s ≡ s ! p ∷ drop (suc p) s = drop-cons s p 0 (omega arith) in
      let b : drop (suc p) s ≡ s ! suc p ∷ drop (suc (suc p)) s = drop-cons s (suc p) 0 (omega arith) in
      let e : p + 1 ≡ suc p = add-one p in
      let f : p + 2 ≡ suc (suc p) = omega arith in
      rw (a, b, e, f, items)

  pub item-lone : (p : ℕ) → p < length s → length s ≤ p + 1 → items (drop p s) ≡ record { thread = s ! p; choice = none } ∷ []
  unfolding items
  item-lone p h g =
      let a : drop p s ≡ s ! p ∷ drop (suc p) s = drop-cons s p 0 h in
      let b : drop (suc p) s ≡ [] = drop_of_length-le s {i = suc p} (omega arith) in
      rw (a, b, items)

-- pair k of a schedule cut in pairs
pub pair-at : (s : List ℕ) (n k : ℕ) (d : List ℕ) → k < n → 2 * n ≤ length s → get_or (first_chunks 2 n s) k d ≡ s ! (2 * k) ∷ s ! (2 * k + 1) ∷ []
pair-at s zero k d h g = absurd (omega arith)
pair-at [] (suc n) k d h g = absurd (omega arith)
pair-at (a ∷ []) (suc n) k d h g = absurd (omega arith)
pair-at (a ∷ b ∷ s) (suc n) zero d h g = refl
pair-at (a ∷ b ∷ s) (suc n) (suc k) d h g =
    let e : 2 * suc k ≡ suc (suc (2 * k)) = omega arith in
    let f : suc (suc (2 * k)) + 1 ≡ suc (suc (2 * k + 1)) = omega arith in
    rw (e, f) (pair-at s n k d (omega arith) (omega arith))

module _ {T : Type 0} (step : ℕ → ℕ → In T → Option (In T)) (s : List ℕ) where
  -- what is left of the run from place p of the schedule on, with n items done
  abbrev pub left : ℕ → ℕ → World T → Stand T
  left p n w = run step (items (drop p s)) n w

  module _ (p n : ℕ) (w : World T) where
    moves-none : (t : ℕ) → move step (record { thread = t; choice = none }) w ≡ none
    unfolding move
    moves-none t = refl

    moves-choice : (t c : ℕ) → move step (record { thread = t; choice = some c }) w ≡ takes step w t c
    unfolding move
    moves-choice t c = refl

    module _ (h : p + 1 < length s) where
      -- the item names no step
      pub turn-refused : takes step w (s ! p) (s ! (p + 1)) ≡ none → left p n w ≡ record { world = w; steps = n; stopped = true }
      turn-refused e =
          ap (λ (ks : List Item). run step ks n w) (item-first s p h)
          ∙ run-stop step (item_at s p) (items (drop (p + 2) s)) n w (moves-choice (s ! p) (s ! (p + 1)) ∙ e)

      -- the item is done
      pub turn-done : (w' : World T) → takes step w (s ! p) (s ! (p + 1)) ≡ some w' → left p n w ≡ left (p + 2) (suc n) w'
      turn-done w' e =
          ap (λ (ks : List Item). run step ks n w) (item-first s p h)
          ∙ run_step step (item_at s p) (items (drop (p + 2) s)) n w w' (moves-choice (s ! p) (s ! (p + 1)) ∙ e)

    -- a lone last number
    pub turn-lone : p < length s → length s ≤ p + 1 → left p n w ≡ record { world = w; steps = n; stopped = true }
    turn-lone h g = ap (λ (ks : List Item). run step ks n w) (item-lone s p h g) ∙ run-stop step (record { thread = s ! p; choice = none }) [] n w (moves-none (s ! p))

    -- no item is left
    pub turn-end : length s ≤ p → left p n w ≡ record { world = w; steps = n; stopped = false }
    unfolding run items
    turn-end h = rw (drop_of_length-le s {i = p} h)

-- A loop over the pairs of a schedule: pair k is the item at place 2 k.
module _ {T : Type 0} (step now : ℕ → ℕ → In T → Option (In T)) (s : List ℕ) (pairs : List (List ℕ)) (w : World T) where
  abbrev pair : ℕ → List ℕ
  pair k = get_or pairs k []

  module _ (k : ℕ) (same : now ≡ step) (cut : pairs ≡ first_chunks 2 (length s / 2) s) (many : length pairs ≡ length s / 2) (here : k < length pairs) where
    takes-pair : (o : Option (World T)) → takes now w (get_or (pair k) 0 0) (get_or (pair k) 1 0) ≡ o → takes step w (s ! (2 * k)) (s ! (2 * k + 1)) ≡ o
    takes-pair o e =
        let p : pair k ≡ s ! (2 * k) ∷ s ! (2 * k + 1) ∷ [] = ap (λ (l : List (List ℕ)). get_or l k []) cut ∙ pair-at s (length s / 2) k [] (omega (arith, many)) (omega arith) in
        sym (ap (λ (f : ℕ → ℕ → In T → Option (In T)). takes f w (s ! (2 * k)) (s ! (2 * k + 1))) same)
        ∙ sym (ap (λ (l : List ℕ). takes now w (get_or l 0 0) (get_or l 1 0)) p)
        ∙ e

    pub pair-refused : takes now w (get_or (pair k) 0 0) (get_or (pair k) 1 0) ≡ none → left step s (2 * k) k w ≡ record { world = w; steps = k; stopped = true }
    pair-refused e = turn-refused step s (2 * k) k w (omega (arith, many)) (takes-pair none e)

    pub pair-done : (w' : World T) → takes now w (get_or (pair k) 0 0) (get_or (pair k) 1 0) ≡ some w' → left step s (2 * k) k w ≡ left step s (2 * (k + 1)) (k + 1) w'
    pair-done w' e =
        let d : 2 * (k + 1) ≡ 2 * k + 2 = omega arith in
        let f : k + 1 ≡ suc k = add-one k in
        rw (d, f) (turn-done step s (2 * k) k w (omega (arith, many)) w' (takes-pair (some w') e))

-- where a run stands, a machine was led
module _ {T : Type 0} (e : Stand T) (k : ℕ) (w w' : World T) where
  pub led-stopped : e ≡ record { world = w; steps = k; stopped = true } → w' ≡ w → Led e (Err (U.Stopped k)) w'
  unfolding end_of
  led-stopped p q = rw (p, q) (record { ended = refl; world = refl })

  pub led-done : e ≡ record { world = w; steps = k; stopped = false } → w' ≡ w → Led e (Ok k) w'
  unfolding end_of
  led-done p q = rw (p, q) (record { ended = refl; world = refl })
