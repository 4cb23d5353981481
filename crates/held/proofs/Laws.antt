-- Laws of an item carried out on a machine: an edge found and then gone along is the step, a flat table's step is the one along its edges, and the world that an item leaves is the one that the run's item leaves.
use mathlib.Core.Path.{◌≡◌, refl, sym, ap, ◌∙◌}
use mathlib.Core.Bool.{Bool, true, false, ◌&&◌}
use mathlib.Core.Option as maybe
use mathlib.Core.Option.{none, some, map, bind}
use Rattle.std.specs.Prelude.{Option, Some, None}
use Rattle.std.proofs.lemmas.List.{get_or_default}
use Rattle.std.proofs.lemmas.Option.{same_Some}
use Prim.Native.Nat.{ℕ, zero, suc, ◌≤◌, ◌<◌}
use native.Mathlib.Omega.{arith}
use mathlib.Core.List.{List, [], ◌∷◌, ◌++◌}
use lib.Dec.{ltb, ltb→lt}
use lib.ListN.{length, get_or, get_elem?, take, drop, set, length-take, take-append-drop}
use lib.Seq.{set-append_left}
use Rattle.lists.specs.Options.{option_of}
use Rattle.lists.proofs.Options.{held-none, held-some}
use Rattle.lists.proofs.Tests.{both, true-T, true-lt, false-lt}
use Rattle.runs.specs.Run.{In, World, Item, back, takes, move, run}
use Rattle.runs.proofs.Laws.{run_step, run-stop}
use Rattle.graphs.specs.declared.Edge.{Edge}
use Rattle.graphs.specs.Records.{edges_in}
use Rattle.generated.specs.declared.Generated.{Generated}
use Rattle.generated.specs.Machine.{follow, edge_for, generated_step}
use Rattle.step.specs.declared.Change.{Change}
use Rattle.step.specs.declared.Moved.{Moved}
use Rattle.step.specs.Step.{change_along, applied}
use Rattle.step.proofs.Laws.{acts}
use Rattle.shown.proofs.Turns.{get-taken, get-past}
use Rattle.held.specs.declared.Machine.{Machine}
use Rattle.held.specs.Held.{step_along, world_of, machine_in, next_for, stepped, along_own, item_done, own_at, along, moved_along}

-- the step by the numbers of a flat table is the step along its edges
pub flat_step : (table : List ℕ) (c : ℕ) (s : In Generated) → generated_step table c s ≡ step_along (edges_in table) c s
unfolding generated_step step_along
flat_step table c s = refl

module _ {A : Type 0} where
  get-short : (l : List A) (t : ℕ) → length l ≤ t → get_elem? l t ≡ none
  get-short [] t h = refl
  get-short (a ∷ l) zero h = absurd (omega arith)
  get-short (a ∷ l) (suc t) h = get-short l t (omega arith)

  -- a thread that is there is written; those behind it stay
  set_front : (l : List A) (n t : ℕ) (a : A) → t < n → t < length l → set (take n l) t a ++ drop n l ≡ set l t a
  set_front l n t a h k =
      sym (set-append_left (take n l) (drop n l) t a (rw (length-take n l) (omega arith))) ∙ ap (λ (r : List A). set r t a) (take-append-drop n l)

  take-front : (l : List A) (n t : ℕ) (a : A) → take n (set (take n l) t a ++ drop n l) ≡ set (take n l) t a
  take-front [] zero t a = refl
  take-front [] (suc n) t a = refl
  take-front (x ∷ l) zero t a = refl
  take-front (x ∷ l) (suc n) zero a = ap (λ (r : List A). a ∷ take n r) (take-append-drop n l)
  take-front (x ∷ l) (suc n) (suc t) a = ap (λ (r : List A). x ∷ r) (take-front l n t a)

-- whether thread t is there, as the code asks
module _ (m : Machine) (t : ℕ) (four : length m.threads ≡ 4) (r : Bool) (e : r ≡ ltb t m.count && ltb t 4) where
  pub there : r ≡ true → (t < m.count) × (t < length m.threads)
  there h = let q = both (ltb t m.count) (ltb t 4) (true-T (sym e ∙ h)) in (ltb→lt t m.count q.0, omega (arith, ltb→lt t 4 q.1, four))

  pub own-there : r ≡ true → (d : Generated) → own_at m t ≡ some (get_or m.threads t d)
  own-there h d = let q = there h in get-taken m.threads m.count t d q.0 q.1

  pub own-absent : r ≡ false → own_at m t ≡ none
  own-absent h = go (ltb t m.count) refl (sym e ∙ h)
    where
      go : (b : Bool) → ltb t m.count ≡ b → b && ltb t 4 ≡ false → own_at m t ≡ none
      go true p k = get-short (take m.count m.threads) t (rw (length-take m.count m.threads) (omega (arith, false-lt t 4 k, four)))
      go false p k = get-past m.threads m.count t (false-lt t m.count p)

-- a thread that was given is there
module _ (m : Machine) (t : ℕ) (four : length m.threads ≡ 4) (o : Option Generated) (e : o ≡ option_of (own_at m t)) where
  pub present : (g : Generated) → o ≡ Some g → (t < m.count) × (t < 4)
  present g q = go (ltb t m.count) refl (ltb t 4) refl
    where
      held : own_at m t ≡ some g
      held = held-some (own_at m t) g (sym e ∙ q)

      lost : {A : Type 0} → own_at m t ≡ none → A
      lost h = let z : ◌≡◌ {A = maybe.Option Generated} none (some g) = sym h ∙ held in cc

      go : (a : Bool) → ltb t m.count ≡ a → (b : Bool) → ltb t 4 ≡ b → (t < m.count) × (t < 4)
      go true p true r = (true-lt t m.count p, true-lt t 4 r)
      go true p false r = lost (get-short (take m.count m.threads) t (rw (length-take m.count m.threads) (omega (arith, false-lt t 4 r, four))))
      go false p b r = lost (get-past m.threads m.count t (false-lt t m.count p))

  -- the code's way to `moved_along`
  pub moved-absent : o ≡ None → (found : Option Edge) → None ≡ moved_along m t found
  unfolding moved_along takes next_for
  moved-absent q found = rw (held-none (own_at m t) (sym e ∙ q))

  module _ (g : Generated) (q : o ≡ Some g) where
    -- what the change that is found leaves of the machine, if one is
    abbrev changed_to : Option Change → Option Machine
    changed_to None = None
    changed_to (Some c) = let a = applied c m.memory g.registers g.auxiliaries in Some (record { memory = a.memory; threads = set m.threads t a.own; count = m.count })

    moves : (found : Option Edge) → changed_to (change_along found m.memory g.registers g.auxiliaries) ≡ moved_along m t found
    unfolding change_along moved_along takes next_for back follow
    moves None = rw (held-some (own_at m t) g (sym e ∙ q))
    moves (Some x) =
        let there = present g q in
        rw (held-some (own_at m t) g (sym e ∙ q), acts x.op x.to m.memory g, set_front m.threads m.count t (follow (record { memory = m.memory; own = g }) x).own there.0 (omega (arith, there.1, four)))

    pub moved_still : (found : Option Edge) (c : Option Change) → c ≡ change_along found m.memory g.registers g.auxiliaries → c ≡ None → None ≡ moved_along m t found
    moved_still found c p h = ap changed_to (sym h ∙ p) ∙ moves found

    pub moved-done : (found : Option Edge) (c : Option Change) (x : Change) (a : Moved) → c ≡ change_along found m.memory g.registers g.auxiliaries → c ≡ Some x → a ≡ applied x m.memory g.registers g.auxiliaries
        → Some (record { memory = a.memory; threads = set m.threads t a.own; count = m.count }) ≡ moved_along m t found
    moved-done found c x a p h k = ap (λ (b : Moved). Some (record { memory = b.memory; threads = set m.threads t b.own; count = m.count })) k ∙ ap changed_to (sym h ∙ p) ∙ moves found

module _ (m : Machine) (t : ℕ) where
  goes : (s : In Generated) (x : maybe.Option Edge) → along s (option_of x) ≡ map (follow s) x
  unfolding option_of
  goes s none = refl
  goes s (some e) = refl

  -- found, then gone along: the step
  module _ (es : List Edge) (c : ℕ) (o : Option Generated) (e : o ≡ option_of (own_at m t)) where
    pub step-absent : o ≡ None → None ≡ stepped m es t c
    unfolding stepped takes next_for
    step-absent q = rw (held-none (own_at m t) (sym e ∙ q))

    found-step : (a : Generated) → own_at m t ≡ some a → moved_along m t (option_of (edge_for es a.node c a.registers)) ≡ stepped m es t c
    unfolding moved_along stepped takes step_along back
    found-step a q = rw (q, goes (record { memory = m.memory; own = a }) (edge_for es a.node c a.registers))

    pub step-done : (a : Generated) (f : Option Edge) (r : Option Machine) → o ≡ Some a → f ≡ option_of (edge_for es a.node c a.registers) → r ≡ moved_along m t f → r ≡ stepped m es t c
    step-done a f r q h k = k ∙ ap (moved_along m t) h ∙ found-step a (held-some (own_at m t) a (sym e ∙ q))

  -- the same whether the thread is there or not: one that isn't may be looked up as any other
  pub step-either : (es : List Edge) (c : ℕ) (other : Generated) (f : Option Edge) (r : Option Machine)
      → f ≡ option_of (edge_for es (maybe.get_or (own_at m t) other).node c (maybe.get_or (own_at m t) other).registers) → r ≡ moved_along m t f → r ≡ stepped m es t c
  unfolding moved_along stepped takes next_for option_of
  step-either es c other f r h k = go (own_at m t) refl
    where
      go : (o : maybe.Option Generated) → own_at m t ≡ o → r ≡ stepped m es t c
      go none q = k ∙ rw q
      go (some a) q =
          step-done es c (Some a) (sym (ap option_of q)) a f r refl (h ∙ ap (λ (o : maybe.Option Generated). option_of (edge_for es (maybe.get_or o other).node c (maybe.get_or o other).registers)) q) k

  -- one item of a run in which each thread has its own edges
  pub step-item : (edges : List (List Edge)) (c : ℕ) → stepped m (get_or edges t []) t c ≡ item_done m edges t c
  unfolding stepped item_done move takes back
  step-item edges c = refl

  -- no thread is past the fourth
  pub item-absent : length m.threads ≡ 4 → 4 ≤ t → (edges : List (List Edge)) (c : ℕ) → None ≡ item_done m edges t c
  unfolding item_done move takes next_for
  item-absent four h edges c = rw (get-short (take m.count m.threads) t (rw (length-take m.count m.threads) (omega (arith, h, four))))

  -- the code's way to `item_done`
  pub item-done : (edges : List (List Edge)) (c : ℕ) (es : List Edge) (r : Option Machine) → t < length edges → es ≡ get_or edges t es → r ≡ stepped m es t c → r ≡ item_done m edges t c
  item-done edges c es r h p q = q ∙ ap (λ (x : List Edge). stepped m x t c) (p ∙ get_or_default edges t es [] h) ∙ step-item edges c

  -- what an item leaves of the machine is the world that the run's item leaves: so items carried out one after another are the run
  module _ (step : ℕ → ℕ → In Generated → maybe.Option (In Generated)) (c : ℕ) where
    abbrev pub left : maybe.Option (World Generated) → maybe.Option (World Generated)
    left = map (λ (w : World Generated). world_of (machine_in w m))

    pub next-world : left (takes step (world_of m) t c) ≡ takes step (world_of m) t c
    unfolding takes back
    next-world = go (own_at m t)
      where
        on : (x : maybe.Option (In Generated)) → left (map (back step (world_of m) t) x) ≡ map (back step (world_of m) t) x
        on none = refl
        on (some s) = ap (λ (l : List Generated). some (record { memory = s.memory; threads = l })) (take-front m.threads m.count t s.own)

        go : (o : maybe.Option Generated)
            → left (bind o (λ (a : Generated). map (back step (world_of m) t) (step t c (record { memory = m.memory; own = a }))))
            ≡ bind o (λ (a : Generated). map (back step (world_of m) t) (step t c (record { memory = m.memory; own = a })))
        go none = refl
        go (some a) = on (step t c (record { memory = m.memory; own = a }))

  -- an item that is done leads to the world of the machine that it leaves; one that isn't leads nowhere
  module _ (edges : List (List Edge)) (c : ℕ) where
    world-some : (o : maybe.Option (World Generated)) (m' : Machine) → takes (along_own edges) (world_of m) t c ≡ o → next_for o m ≡ Some m' → o ≡ some (world_of m')
    unfolding next_for
    world-some none m' e h = let z : ◌≡◌ {A = Option Machine} None (Some m') = h in cc
    world-some (some w) m' e h = sym (rw e at (next-world (along_own edges) c)) ∙ ap (λ (x : Machine). some (world_of x)) (same_Some (machine_in w m) m' h)

    world-none : (o : maybe.Option (World Generated)) → next_for o m ≡ None → o ≡ none
    unfolding next_for
    world-none none h = refl
    world-none (some w) h = let z : ◌≡◌ {A = Option Machine} (Some (machine_in w m)) None = h in cc

    pub item-some : (m' : Machine) → item_done m edges t c ≡ Some m' → takes (along_own edges) (world_of m) t c ≡ some (world_of m')
    unfolding item_done move
    item-some m' h = world-some (takes (along_own edges) (world_of m) t c) m' refl h

    pub item-none : item_done m edges t c ≡ None → takes (along_own edges) (world_of m) t c ≡ none
    unfolding item_done move
    item-none h = world-none (takes (along_own edges) (world_of m) t c) h

  -- an item that is done: the run goes on from the machine that it leaves; one that isn't: the run stops there
  module _ (edges : List (List Edge)) (c n : ℕ) (ks : List Item) where
    abbrev each : ℕ → ℕ → In Generated → maybe.Option (In Generated)
    each = along_own edges

    abbrev item : Item
    item = record { thread = t; choice = some c }

    pub item_on : (m' : Machine) → item_done m edges t c ≡ Some m' → run (along_own edges) (record { thread = t; choice = some c } ∷ ks) n (world_of m) ≡ run (along_own edges) ks (suc n) (world_of m')
    unfolding move
    item_on m' h = run_step each item ks n (world_of m) (world_of m') (item-some edges c m' h)

    pub item-stops : item_done m edges t c ≡ None → run (along_own edges) (record { thread = t; choice = some c } ∷ ks) n (world_of m) ≡ record { world = world_of m; steps = n; stopped = true }
    unfolding move
    item-stops h = run-stop each item ks n (world_of m) (item-none edges c h)
