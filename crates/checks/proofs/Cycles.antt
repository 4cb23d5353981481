-- The test's words and demand 2's words: a store line of an unfenced loop is one on a reachable cycle that holds neither fence nor cas.
use mathlib.Core.Path.{◌≡◌, refl, sym, subst}
use mathlib.Core.Logic.{◌↔◌, ⊎_elim}
use mathlib.Core.Bool.{Bool, true, false, cond}
use Prim.Native.Nat.{ℕ}
use mathlib.Core.List.Memᴰ
use mathlib.Core.List.{List, [], ◌∷◌, ◌++◌, Memᴰ}
use lib.Dec.{T}
use Rattle.lists.specs.Lists.{All}
use Rattle.lists.proofs.Lists.{all_append}
use Rattle.explore.specs.Explore.{reach_start, reach_step}
use Rattle.thread.specs.declared.Line.{Line}
use Rattle.thread.specs.declared.Instr.{Instr}
use Rattle.thread.specs.declared.Instr.TheVariants as I
use Rattle.thread.specs.Table.{next, Prog, stores, is_store}
use Rattle.checks.specs.Lines.{after, drains, follows, passes, Leads, Unfenced, Walk, one, more, Cycle}
use Rattle.checks.proofs.Loops.{leads-step, arc-mem, passes-is}

-- a store passes
store-passes : (i : Instr) → T (is_store i) → drains i ≡ false
unfolding is_store stores drains
store-passes (I.Set a v) t = absurd t
store-passes (I.Copy a b) t = absurd t
store-passes (I.Add a b c) t = absurd t
store-passes (I.Sub a b c) t = absurd t
store-passes (I.Load a x) t = absurd t
store-passes (I.StoreR x a) t = refl
store-passes (I.StoreC x v) t = refl
store-passes I.Fence t = absurd t
store-passes (I.Cas a x b c) t = absurd t
store-passes (I.Branch a to) t = absurd t
store-passes (I.Jump to) t = absurd t
store-passes I.Return t = absurd t

leads-trans : (out : Line → List Line) {j k l : Line} → Leads out j k → Leads out k l → Leads out j l
leads-trans out r reach_start = r
leads-trans out r (reach_step s m) = reach_step (leads-trans out r s) m

module _ (prog : Prog) where
  abbrev Free : Line → Type 0
  Free l = drains (prog l) ≡ false

  passed : (l k : Line) → Free l → Memᴰ k (follows prog l) → Memᴰ k (passes prog l)
  passed l k e m = rw (passes-is prog l, e) m

  followed : (l k : Line) → Memᴰ k (passes prog l) → Free l × Memᴰ k (follows prog l)
  followed l k m = go (drains (prog l)) refl (rw (passes-is prog l) at m)
    where
      go : (b : Bool) → drains (prog l) ≡ b → Memᴰ k (cond b [] (follows prog l)) → (drains (prog l) ≡ false) × Memᴰ k (follows prog l)
      go true e m = absurd (Memᴰ.not-nil m)
      go false e m = (e, m)

  passes-follows : {k l : Line} → Leads (passes prog) k l → Leads (follows prog) k l
  passes-follows reach_start = reach_start
  passes-follows (reach_step {a} {b} r m) = leads-step (follows prog) (passes-follows r) (followed a b (arc-mem (passes prog a) m)).1

  -- from a loop to a cycle: the loop is walked from its store on
  walk_first : {l k : Line} {ls : List Line} → Walk prog l ls k → Memᴰ l ls
  walk_first (one m) = Memᴰ.head refl
  walk_first (more m w) = Memᴰ.head refl

  walk-snoc : {l j k : Line} {ls : List Line} → Walk prog l ls j → Memᴰ k (follows prog j) → Walk prog l (ls ++ j ∷ []) k
  walk-snoc (one m) n = more m (one n)
  walk-snoc (more m w) n = more m (walk-snoc w n)

  record FreeWalk (l k : Line) : Type 0 where
    lines : List Line
    walk : Walk prog l lines k
    free : All Free lines

  walk-on : {l j k : Line} → FreeWalk l j → Leads (passes prog) j k → FreeWalk l k
  walk-on w reach_start = w
  walk-on w (reach_step {a} {b} r m) =
      let v = walk-on w r in
      let p = followed a b (arc-mem (passes prog a) m) in
      record { lines = v.lines ++ a ∷ []; walk = walk-snoc v.walk p.1; free = all_append Free v.lines (a ∷ []) v.free (p.0, tt) }

  cycle-of : (l : Line) → Unfenced prog l → Cycle prog l
  cycle-of l u =
      let w = walk-on (record { lines = l ∷ []; walk = one u.left; free = (store-passes (prog l) u.is_stored, tt) }) u.again in
      record { at = l; lines = w.lines; cycle = w.walk; reached = u.reached; holds = walk_first w.walk; is_stored = u.is_stored; free = w.free }

  -- from a cycle to a loop: the cycle is turned, so that it begins at its store
  pass_on : {l j k : Line} → Free l → Memᴰ j (follows prog l) → Leads (passes prog) j k → Leads (passes prog) l k
  pass_on {l} {j} e m r = leads-trans (passes prog) (leads-step (passes prog) reach_start (passed l j e m)) r

  walk-leads : {l k : Line} {ls : List Line} → Walk prog l ls k → All Free ls → Leads (passes prog) l k
  walk-leads (one m) f = pass_on f.0 m reach_start
  walk-leads (more m w) f = pass_on f.0 m (walk-leads w f.1)

  -- the part of a walk up to a line of it
  up-to : {s l k : Line} {ls : List Line} → Walk prog l ls k → All Free ls → Memᴰ s ls → Leads (passes prog) l s
  up-to {s} {l} (one m) f n = subst (Leads (passes prog) l) (sym (Memᴰ.eq_of_singleton n)) reach_start
  up-to {s} (more {l} {j} {k} {ls} m w) f n =
      ⊎_elim (λ (q : s ≡ l). subst (Leads (passes prog) l) (sym q) reach_start) (λ (n' : Memᴰ s ls). pass_on f.0 m (up-to w f.1 n')) (Memᴰ.cases_cons n)

  -- the part of a walk from a line of it on
  record Onward (s k : Line) : Type 0 where
    way : Line
    left : Memᴰ way (follows prog s)
    leads : Leads (passes prog) way k

  onward : {s l k : Line} {ls : List Line} → Walk prog l ls k → All Free ls → Memᴰ s ls → Onward s k
  onward {s} {l} {k} (one m) f n = subst (λ (x : Line). Onward x k) (sym (Memᴰ.eq_of_singleton n)) (record { way = k; left = m; leads = reach_start })
  onward {s} (more {l} {j} {k} {ls} m w) f n =
      ⊎_elim (λ (q : s ≡ l). subst (λ (x : Line). Onward x k) (sym q) (record { way = j; left = m; leads = walk-leads w f.1 }))
      (λ (n' : Memᴰ s ls). onward w f.1 n') (Memᴰ.cases_cons n)

  loop-of : (l : Line) → Cycle prog l → Unfenced prog l
  loop-of l c =
      let to = up-to c.cycle c.free c.holds in
      let on = onward c.cycle c.free c.holds in
      record {
        is_stored = c.is_stored;
        reached = leads-trans (follows prog) c.reached (passes-follows to);
        way = on.way;
        left = on.left;
        again = leads-trans (passes prog) on.leads to;
      }

  pub unfenced-cycle : (l : Line) → Unfenced prog l ↔ Cycle prog l
  unfenced-cycle l = (cycle-of l, loop-of l)

  -- both ways of a branch count
  pub branch-both : (l : Line) (a : ℕ) (to : Line) → prog l ≡ I.Branch a to → Memᴰ to (follows prog l) × Memᴰ (next l) (follows prog l)
  unfolding follows after
  branch-both l a to e = rw e (Memᴰ.head refl, Memᴰ.tail (Memᴰ.head refl))
