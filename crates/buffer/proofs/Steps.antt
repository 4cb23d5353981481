-- The code's step of a buffered thread is the step by the buffer rules in 16 places.
use mathlib.Core.Path.{◌≡◌, refl, sym, ap, ◌∙◌}
use mathlib.Core.Bool.{Bool, true, false, cond}
use mathlib.Core.Option
use mathlib.Core.Option.{Option, none, some, Option-elim, bind}
use Prim.Native.Nat.{ℕ, zero, suc, ◌+◌, ◌-◌, ◌≤◌, ◌<◌, min}
use native.Mathlib.Nat.{mod-eq_of_lt}
use native.Mathlib.Omega.{arith}
use native.Mathlib.Decide.{dec_lt}
use mathlib.Core.List.{List, [], ◌∷◌, ◌++◌, map}
use lib.ListN.{length, get_or, set, take, drop, length-map, length-append, length-take, length-drop, get_or-map}
use lib.Dec.{eqb, leb}
use Rattle.lists.proofs.Lists.{Holds}
use Rattle.lists.proofs.Tests.{le-true, le-false, eq-false}
use Rattle.thread.proofs.Filled.{filled_at}
use Rattle.thread.specs.declared.Line.{Line}
use Rattle.thread.specs.declared.Model.{Model}
use Rattle.thread.specs.declared.Instr.{Instr}
use Rattle.thread.specs.declared.Instr.TheVariants as I
use Rattle.thread.specs.Sizes.{most_waiting}
use Rattle.thread.specs.Word.{word, add32, sub32}
use Rattle.thread.specs.Numbers.{◌!◌, filled}
use Rattle.thread.specs.Table.{line, next, Prog}
use Rattle.waiting.specs.Discipline.{Ready, add_wait, newest, ready_for, drained}
use Rattle.runs.specs.Run.{In}
use Rattle.buffered.specs.Machine.{Pair, var_of, Buffered, at, seen, program_step, put_pair, buffered_step, fitting, placed_step}
use Rattle.pending.specs.Places.{place_for, last_for, ready_at}
use Rattle.pending.specs.Pending.{put_in, take_out}
use Rattle.pending.proofs.Places.{put_at, taken_at, add-place, newest-place, ready-place, place-le, last-lt, ready-lt}
use Rattle.pending.proofs.Discipline.{map-put, map-left}
use Rattle.chosen.specs.declared.Change.{Change}
use Rattle.chosen.specs.declared.Change.TheVariants as C
use Rattle.buffer.specs.declared.Moved.{Moved}
use Rattle.buffer.specs.States.{val_of, pairs, buffered_of, core_of, moves, with_pair, without_pair}
use Rattle.chosen.specs.Decide.{following, waiting_vars, seen_by, drained_change, cas_change, program_change, put_change, decided}
use Rattle.buffer.specs.Step.{waits, puts, applied, stepped}
use Rattle.buffer.proofs.Cases.{waits-full, waits-room, puts-pair}
use Rattle.buffer.proofs.Filled.{filled-taken, put-filled, take-filled}

-- a step of the rules, as the code answers it
unfoldable pub moved_of : Option (In Buffered) → Option Moved
unfolding core_of
moved_of o = Option.map (λ s. record { memory = s.memory; core = core_of s.own }) o

pub following-next : (l : Line) → l.0 + 1 < word → following l ≡ next l
unfolding following add32
following-next l h = ap line (mod-eq_of_lt h)

abbrev nothing : Pair
nothing = record { var = 0; val = 0 }

module _ (w : List Pair) (few : length w ≤ 16) where
  vars-taken : take (length w) (filled 16 (map var_of w)) ≡ map var_of w
  vars-taken = filled-taken (map var_of w) (length w) (sym (length-map w var_of))

  at_place : (f : Pair → ℕ) → f nothing ≡ 0 → (i : ℕ) → i < length w → filled 16 (map f w) ! i ≡ f (get_or w i nothing)
  at_place f e i h =
      let k : i < length (map f w) = rw length-map h in
      filled_at 16 (map f w) i ∙ ap (get_or (map f w) i) (sym e) ∙ get_or-map f w i nothing

  less-place : (f : Pair → ℕ) (i : ℕ) → i < length w → take_out i 0 (filled 16 (map f w)) ≡ filled 16 (map f (take i w ++ drop (suc i) w))
  less-place f i h =
      let k : i < length (map f w) = rw length-map h in
      let g : length (map f w) ≤ 16 = rw length-map few in
      take-filled (map f w) i k g ∙ ap (filled 16) (sym (map-left f w i))

  more-place : (f : Pair → ℕ) (i : ℕ) (p : Pair) → i ≤ length w → length w < 16 → put_in i (f p) (filled 16 (map f w)) ≡ filled 16 (map f (put_at i p w))
  more-place f i p h room =
      let k : i ≤ length (map f w) = rw length-map h in
      let g : length (map f w) < 16 = rw length-map room in
      put-filled (map f w) i (f p) k g ∙ ap (filled 16) (sym (map-put f w i p))

  more-length : (i : ℕ) (p : Pair) → i ≤ length w → length (put_at i p w) ≡ length w + 1
  more-length i p h = simp (length-append, length-take, length-drop) (omega arith)

  less-length : (i : ℕ) → i < length w → length (take i w ++ drop (suc i) w) ≡ length w - 1
  less-length i h = simp (length-append, length-take, length-drop) (omega arith)

paired : (w : List Pair) → pairs (map var_of w) (map val_of w) ≡ w
unfolding pairs
paired [] = refl
paired (p ∷ w) = ap (λ (l : List Pair). p ∷ l) (paired w)

-- nothing is lost in the code's form
pub read_back : (b : Buffered) → length b.waiting ≤ 16 → buffered_of (core_of b) ≡ b
unfolding buffered_of core_of
read_back b few =
    let xs = filled-taken (map var_of b.waiting) (length b.waiting) (sym (length-map b.waiting var_of)) in
    let vs = filled-taken (map val_of b.waiting) (length b.waiting) (sym (length-map b.waiting val_of)) in
    rw (xs, vs, paired b.waiting)

module _ (m : Model) (M : List ℕ) (b : Buffered) (few : length b.waiting ≤ 16) where
  abbrev w : List Pair
  w = b.waiting

  -- a step that changes nothing of what waits fits
  fits : (N : List ℕ) (l : Line) (R : List ℕ) → fitting 16 (at N l R w) ≡ at N l R w
  unfolding fitting at
  fits N l R = rw (le-true (length w) 16 few)

  vars-are : waiting_vars (core_of b) ≡ map var_of w
  unfolding core_of
  vars-are = vars-taken w few

  core-len : length w < 16 → (core_of b).count < 16
  unfolding core_of
  core-len h = h

  core-full : 16 ≤ length w → 16 ≤ (core_of b).count
  unfolding core_of
  core-full h = h

  seen_at : (x : ℕ) (o : Option ℕ) → Holds (λ i. i < length (map var_of w)) o → Option-elim o (M ! x) (λ i. (core_of b).values ! i) ≡ seen M x (Option.map (λ i. get_or w i nothing) o)
  unfolding core_of seen Option-elim
  seen_at x none h = refl
  seen_at x (some i) h = at_place w few val_of refl i (rw length-map at h)

  seen-is : (x : ℕ) → seen_by M (core_of b) x ≡ seen M x (newest var_of w x)
  unfolding seen_by
  seen-is x =
      ap (λ (vs : List ℕ). Option-elim (last_for vs x) (M ! x) (λ i. (core_of b).values ! i)) vars-are
      ∙ seen_at x (last_for (map var_of w) x) (last-lt (map var_of w) x)
      ∙ ap (seen M x) (sym (newest-place var_of nothing w x))

  module _ (l : Line) (p : Pair) where
    abbrev place : ℕ
    place = place_for m (map var_of w) p.var

    place_in : place ≤ length w
    place_in = rw length-map at (place-le m (map var_of w) p.var)

    abbrev more : Buffered
    more = record { line = l; registers = b.registers; waiting = put_at place p w }

    more-core : length w < 16 → with_pair (core_of b) l place p.var p.val ≡ core_of more
    unfolding with_pair core_of
    more-core room =
        let xs = more-place w few var_of place p place_in room in
        let vs = more-place w few val_of place p place_in room in
        let n = sym (more-length w few place p place_in) in
        λ i. record { line = l; registers = b.registers; names = xs i; values = vs i; count = n i }

    waits_there : length w < 16 → waits m M (core_of b) l p.var p.val ≡ moves M (with_pair (core_of b) l place p.var p.val)
    unfolding with_pair
    waits_there room =
        sym (waits-room m M (core_of b) l p.var p.val (core-len room) place (ap (λ (vs : List ℕ). place_for m vs p.var) (sym vars-are)) (put_in place p.var (core_of b).names) (put_in place p.val (core_of b).values) refl refl)

    waits-more : Dec (length w < 16) → waits m M (core_of b) l p.var p.val ≡ moved_of (fitting 16 (some (record { memory = M; own = more })))
    unfolding fitting moved_of
    waits-more (yes room) =
        let e : leb (length (put_at place p w)) 16 ≡ true = le-true (length (put_at place p w)) 16 (rw (more-length w few place p place_in) (omega arith)) in
        rw e (waits_there room ∙ ap (moves M) (more-core room))
    waits-more (no full) =
        let e : leb (length (put_at place p w)) 16 ≡ false = le-false (length (put_at place p w)) 16 (rw (more-length w few place p place_in) (omega arith)) in
        rw e (sym (waits-full m M (core_of b) l p.var p.val (core-full (omega arith))))

    -- a pair more waits, where there is a place for it
    waits-is : waits m M (core_of b) l p.var p.val ≡ moved_of (fitting 16 (at M l b.registers (add_wait var_of m w p)))
    unfolding at
    waits-is = rw (add-place var_of m w p) (waits-more (dec_lt (length w) 16))

  module _ (i : ℕ) (h : i < length w) where
    abbrev less : Buffered
    less = record { line = b.line; registers = b.registers; waiting = take i w ++ drop (suc i) w }

    less-core : without_pair (core_of b) i ≡ core_of less
    unfolding without_pair core_of
    less-core =
        let xs = less-place w few var_of i h in
        let vs = less-place w few val_of i h in
        let n = sym (less-length w few i h) in
        λ j. record { line = b.line; registers = b.registers; names = xs j; values = vs j; count = n j }

    core-in : i < min (length w) 16 → i < min (core_of b).count 16
    unfolding core_of
    core-in g = g

    core-var : (core_of b).names ! i ≡ (get_or w i nothing).var
    unfolding core_of
    core-var = at_place w few var_of refl i h

    core-val : (core_of b).values ! i ≡ (get_or w i nothing).val
    unfolding core_of
    core-val = at_place w few val_of refl i h

    puts-is : puts M (core_of b) i ≡ moved_of (fitting 16 (some (put_pair M b.line b.registers (taken_at nothing w i))))
    unfolding fitting moved_of put_pair without_pair
    puts-is =
        let e : leb (length (take i w ++ drop (suc i) w)) 16 ≡ true = le-true (length (take i w ++ drop (suc i) w)) 16 (rw (less-length w few i h) (omega arith)) in
        let g : i < min (length w) 16 = omega arith in
        let core = sym (puts-pair M (core_of b) i (core-in g) (take_out i 0 (core_of b).names) (take_out i 0 (core_of b).values) (set M (get_or w i nothing).var (get_or w i nothing).val) (get_or w i nothing).var (get_or w i nothing).val refl refl (sym core-var) (sym core-val) refl) in
        rw e (core ∙ ap (moves (set M (get_or w i nothing).var (get_or w i nothing).val)) less-core)

  -- what a change, if there is one, leaves is what a step of the rules, if there is one, leaves
  abbrev Is : Option Change → Option (In Buffered) → Type 0
  Is d o = bind d (λ d. applied d m M (core_of b)) ≡ moved_of (fitting 16 o)

  put-at : (o : Option ℕ) → Holds (λ i. i < length (map var_of w)) o
      → Is (Option.map C.Put o) (Option.map (put_pair M b.line b.registers) (Option.map (taken_at nothing w) o))
  unfolding applied bind fitting moved_of
  put-at none h = refl
  put-at (some i) h = puts-is i (rw length-map at h)

  put_is : (x : ℕ) → Is (put_change m x (core_of b)) (Option.map (put_pair M b.line b.registers) (ready_for var_of m x w))
  unfolding put_change
  put_is x =
      ap (λ (vs : List ℕ). bind (Option.map C.Put (ready_at m vs x)) (λ d. applied d m M (core_of b))) vars-are
      ∙ put-at (ready_at m (map var_of w) x) (ready-lt m (map var_of w) x)
      ∙ ap (λ (o : Option (Ready Pair)). moved_of (fitting 16 (Option.map (put_pair M b.line b.registers) o))) (sym (ready-place var_of nothing m x w))

  -- each kind of change
  goes : (l : Line) → Is (some (C.Go l)) (at M l b.registers w)
  unfolding applied bind moved_of core_of at
  goes l = rw (fits M l b.registers)

  sets : (l : Line) (r v : ℕ) → Is (some (C.Register l r v)) (at M l (set b.registers r v) w)
  unfolding applied bind moved_of core_of at
  sets l r v = rw (fits M l (set b.registers r v))

  stores : (l : Line) (p : Pair) → Is (some (C.Wait l p.var p.val)) (at M l b.registers (add_wait var_of m w p))
  unfolding applied bind
  stores l p = waits-is l p

  swaps : (l : Line) (r x v : ℕ) → Is (some (C.Swap l r x v)) (at (set M x v) l (set b.registers r 1) w)
  unfolding applied bind moved_of core_of at
  swaps l r x v = rw (fits (set M x v) l (set b.registers r 1))

  no_step : Is none none
  unfolding moved_of bind fitting
  no_step = refl

  -- a branch: to the one line or to the other
  goes-if : (t : Bool) (l to : Line) → Is (some (C.Go (cond t l to))) (cond t (at M l b.registers w) (at M to b.registers w))
  goes-if true l to = goes l
  goes-if false l to = goes to

  -- a cas
  cas-if : (t : Bool) (l : Line) (r x v : ℕ) → Is (some (cond t (C.Swap l r x v) (C.Register l r 0))) (cond t (at (set M x v) l (set b.registers r 1) w) (at M l (set b.registers r 0) w))
  cas-if true l r x v = swaps l r x v
  cas-if false l r x v = sets l r 0

  waits-nothing : (u : List Pair) (d : Change) (o : Option (In Buffered)) → Is (some d) o → Is (cond (eqb (length u) 0) (some d) none) (drained u o none)
  unfolding drained
  waits-nothing [] d o g = g
  waits-nothing (p ∷ u) d o g = rw (eq-false (suc (length u)) 0 (λ e. omega arith)) no_step

  -- "passes when nothing waits"
  drained-is : (d : Change) (o : Option (In Buffered)) → Is (some d) o → Is (drained_change (core_of b) d) (drained w o none)
  unfolding core_of
  drained-is d o g = waits-nothing w d o g

  -- each instruction's program step
  module _ (short : b.line.0 + 1 < word) where
    on : following b.line ≡ next b.line
    on = following-next b.line short

    program-is : (i : Instr) → Is (program_change i M (core_of b)) (program_step m i M b.line b.registers w)
    unfolding program_change program_step cas_change core_of
    program-is (I.Set r v) = rw on (sets (next b.line) r v)
    program-is (I.Copy r s) = rw on (sets (next b.line) r (b.registers ! s))
    program-is (I.Add r s t) = rw on (sets (next b.line) r (add32 (b.registers ! s) (b.registers ! t)))
    program-is (I.Sub r s t) = rw on (sets (next b.line) r (sub32 (b.registers ! s) (b.registers ! t)))
    program-is (I.Load r x) = rw (on, seen-is x) (sets (next b.line) r (seen M x (newest var_of w x)))
    program-is (I.StoreR x r) = rw on (stores (next b.line) (record { var = x; val = b.registers ! r }))
    program-is (I.StoreC x v) = rw on (stores (next b.line) (record { var = x; val = v }))
    program-is I.Fence = rw on (drained-is (C.Go (next b.line)) (at M (next b.line) b.registers w) (goes (next b.line)))
    program-is (I.Cas r x s t) =
        let R = b.registers in
        rw on (drained-is _ _ (cas-if (eqb (M ! x) (R ! s)) (next b.line) r x (R ! t)))
    program-is (I.Branch r to) = rw on (goes-if (eqb (b.registers ! r) 0) (next b.line) to)
    program-is (I.Jump to) = goes to
    program-is I.Return = no_step

    -- one step, whatever the choice
    pub step_is : (prog : Prog) (c : ℕ) → stepped m (prog b.line) c M (core_of b) ≡ moved_of (placed_step most_waiting m prog c (record { memory = M; own = b }))
    unfolding stepped decided placed_step buffered_step
    step_is prog zero = program-is (prog b.line)
    step_is prog (suc x) = put_is x
