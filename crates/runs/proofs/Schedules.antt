-- A run that is not stopped has carried its items out and stands where they lead, and what some items lead to some schedule leads to.
use mathlib.Core.Path.{◌≡◌, refl, ap, ◌∙◌, sym}
use mathlib.Core.Bool.{true, false}
use mathlib.Core.Option.{Option, none, some, map, Option-elim, bind}
use Prim.Native.Nat.{ℕ, suc, ◌+◌}
use native.Mathlib.Nat.{add-zero, add-suc, suc-add}
use mathlib.Core.List.{List, [], ◌∷◌}
use lib.ListN.{length, get_elem?, length-set}
use Rattle.lists.proofs.Lists.{Holds, holds_at, not_some}
use Rattle.lists.proofs.Tests.{true-T, false-T}
use Rattle.runs.specs.Run.{In, World, Stand, Item, items, back, takes, move, run}
use Rattle.runs.specs.Carried.{CarriedOut}
use Rattle.runs.proofs.Laws.{run_step}
use Rattle.runs.proofs.Simulated.{Step}

module _ {T : Type 0} (step : Step T) where
  pub carried-run : (ks : List Item) (n : ℕ) (w e : World T) → CarriedOut (move step) ks w e → run step ks n w ≡ record { world = e; steps = n + length ks; stopped = false }
  unfolding run
  carried-run [] n w e g = rw (g, add-zero)
  carried-run (k ∷ ks) n w e g =
      run_step step k ks n w g.0 g.1 ∙ carried-run ks (suc n) g.0 e g.2
      ∙ ap (λ (i : ℕ). record { world = e; steps = i; stopped = false }) (suc-add n (length ks) ∙ sym (add-suc n (length ks)))

  pub run-carried : (ks : List Item) (n : ℕ) (w : World T) → (run step ks n w).stopped ≡ false → CarriedOut (move step) ks w (run step ks n w).world
  unfolding run Option-elim
  run-carried [] n w e = refl
  run-carried (k ∷ ks) n w e = go (run-carried ks (suc n)) (move step k w) refl e
    where
      stand : Option (World T) → Stand T
      stand o = Option-elim o (record { world = w; steps = n; stopped = true }) (run step ks (suc n))

      go : ((x : World T) → (run step ks (suc n) x).stopped ≡ false → CarriedOut (move step) ks x (run step ks (suc n) x).world)
          → (o : Option (World T)) → move step k w ≡ o → (stand o).stopped ≡ false → CarriedOut (move step) (k ∷ ks) w (stand o).world
      go later none d e = absurd (false-T e (true-T refl))
      go later (some x) d e = (x, d, later x e)

  -- an item that can be carried out names a choice
  pub as-schedule : (ks : List Item) (w e : World T) → CarriedOut (move step) ks w e → (s : List ℕ) × (items s ≡ ks)
  unfolding items move bind
  as-schedule [] w e g = ([], refl)
  as-schedule (k ∷ ks) w e g = go (as-schedule ks g.0 e g.2) k.choice refl g.1
    where
      go : (s : List ℕ) × (items s ≡ ks) → (o : Option ℕ) → k.choice ≡ o → bind o (takes step w k.thread) ≡ some g.0 → (s : List ℕ) × (items s ≡ k ∷ ks)
      go r none d f = absurd (not_some f)
      go r (some c) d f = (k.thread ∷ c ∷ r.0, λ i. record { thread = k.thread; choice = sym d i } ∷ r.1 i)

  -- no thread comes and none goes
  abbrev AsMany : World T → World T → Type 0
  AsMany w x = length x.threads ≡ length w.threads

  takes-as-many : (w : World T) (t c : ℕ) → Holds (AsMany w) (takes step w t c)
  unfolding takes bind back
  takes-as-many w t c = go (get_elem? w.threads t)
    where
      after : (o : Option (In T)) → Holds (AsMany w) (map (back step w t) o)
      after none = tt
      after (some r) = length-set w.threads t r.own

      go : (o : Option T) → Holds (AsMany w) (bind o (λ (a : T). map (back step w t) (step t c (record { memory = w.memory; own = a }))))
      go none = tt
      go (some a) = after (step t c (record { memory = w.memory; own = a }))

  move-as-many : (k : Item) (w : World T) → Holds (AsMany w) (move step k w)
  unfolding move bind
  move-as-many k w = go k.choice
    where
      go : (o : Option ℕ) → Holds (AsMany w) (bind o (takes step w k.thread))
      go none = tt
      go (some c) = takes-as-many w k.thread c

  pub carried-as-many : (ks : List Item) (w e : World T) → CarriedOut (move step) ks w e → AsMany w e
  carried-as-many [] w e g = ap (λ (x : World T). length x.threads) (sym g)
  carried-as-many (k ∷ ks) w e g = carried-as-many ks g.0 e g.2 ∙ holds_at (AsMany w) (move step k w) g.0 g.1 (move-as-many k w)

  pub run-as-many : (ks : List Item) (n : ℕ) (w : World T) → AsMany w (run step ks n w).world
  unfolding run Option-elim
  run-as-many [] n w = refl
  run-as-many (k ∷ ks) n w = go (run-as-many ks (suc n)) (move step k w) (move-as-many k w)
    where
      stand : Option (World T) → Stand T
      stand o = Option-elim o (record { world = w; steps = n; stopped = true }) (run step ks (suc n))

      go : ((x : World T) → AsMany x (run step ks (suc n) x).world) → (o : Option (World T)) → Holds (AsMany w) o → AsMany w (stand o).world
      go later none h = refl
      go later (some x) h = later x ∙ h
