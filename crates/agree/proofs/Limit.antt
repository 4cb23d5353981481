-- Law L8: in a thread free of 2 to 10 the buffered rule never holds more than 16 pairs, whether or not its graph fits any room. So a buffer with 16 places never differs from it.
use mathlib.Core.Path.{◌≡◌, refl, ap, ◌∙◌, sym}
use mathlib.Core.Option.{Option, none, some, map}
use Prim.Native.Nat.{ℕ, ◌≤◌}
use native.Mathlib.Omega.{arith}
use mathlib.Core.List.{List, []}
use lib.ListN.{length, length-map, length-replicate}
use Rattle.lists.specs.Lists.{first}
use Rattle.lists.proofs.Lists.{Holds, holds-map, holds-imp, holds_at, all_first}
use Rattle.lists.proofs.Tests.{le-true}
use Rattle.explore.specs.Explore.{Arc}
use Rattle.thread.specs.declared.Model.{Model}
use Rattle.thread.specs.declared.Op.{Op}
use Rattle.thread.specs.Sizes.{most_lines, most_waiting}
use Rattle.thread.specs.Numbers.{zeros}
use Rattle.thread.specs.Table.{line, Prog, instr_at, lines_of}
use Rattle.checks.specs.Lines.{follows}
use Rattle.checks.specs.Checks.{admission}
use Rattle.checks.proofs.Instructions.{good-var}
use Rattle.checks.proofs.Loops.{leads-inside}
use Rattle.checks.proofs.Given.{Admitted, admitted}
use Rattle.graphs.specs.Graph.{Standing, begin, edges_of}
use Rattle.graphs.proofs.Waits.{Good, good_start, good-edges, fresh}
use Rattle.graphs.proofs.Pending.{few}
use Rattle.runs.specs.Run.{In}
use Rattle.runs.proofs.Worlds.{within}
use Rattle.buffered.specs.Machine.{Buffered, buffered_step, Comes, comes_start, comes_step, fitting, placed_step}
use Rattle.agree.proofs.Middle.{Middle, pair_of, shows, arrive, follow_arc, test, middle_step, step_along}
use Rattle.agree.proofs.Same.{Fresh, same_step}
use Rattle.agree.proofs.Numbers.{act-length}

module _ (m : ℕ) (t : List ℕ) (free : admission m t ≡ none) (model : Model) where
  ok : Admitted m t
  ok = admitted m t free

  abbrev prog : Prog
  prog = instr_at t

  -- a thread along the graph's edges that shows b: no numbering, no cap and no room
  pub record Mirror (b : Buffered) : Type 0 where
    pub state : Middle
    pub shown : shows prog state ≡ b
    pub good : Good prog state.standing
    pub room : most_lines ≤ length state.auxiliaries

  mirror-start : (R : List ℕ) → Mirror (record { line = line 0; registers = R; waiting = [] })
  unfolding shows
  mirror-start R = record { state = record { standing = begin; registers = R; auxiliaries = zeros most_lines }; shown = refl; good = good_start prog; room = rw length-replicate (omega arith) }

  abbrev Keeps : Middle → In Middle → Type 0
  Keeps a r = Good prog r.own.standing × (length r.own.auxiliaries ≡ length a.auxiliaries)

  middle-keeps : (c : ℕ) (s : In Middle) → Good prog s.own.standing → Holds (Keeps s.own) (middle_step model prog c s)
  unfolding step_along edges_of follow_arc arrive
  middle-keeps c s g =
      let es = edges_of model prog s.own.standing in
      let o = first (test c s.own.registers) es in
      holds-map (Keeps s.own) (follow_arc s) o
      (holds-imp (λ (a : Arc Standing Op). Good prog a.target) (λ a. Keeps s.own (follow_arc s a)) (λ a h. (h, act-length a.label s.memory s.own.registers s.own.auxiliaries)) o
      (all_first (λ (a : Arc Standing Op). Good prog a.target) (test c s.own.registers) es (good-edges model prog ok.fenced s.own.standing g)))

  fresh_at : (s : In Middle) → Good prog s.own.standing → most_lines ≤ length s.own.auxiliaries → Fresh prog s
  fresh_at s g room = record {
    inside = omega (arith, ok.few_lines, leads-inside (follows prog) (lines_of t) ok.stays ok.some_lines g.reached);
    new = λ b. fresh model prog ok.fenced s.own.standing.line s.own.standing.waiting g.waits;
  }

  module _ (M : List ℕ) (c : ℕ) (b : Buffered) (q : Mirror b) where
    from : In Middle
    from = record { memory = M; own = q.state }

    matches : map (within (shows prog)) (middle_step model prog c from) ≡ buffered_step model prog c (record { memory = M; own = b })
    unfolding from
    matches =
        same_step model prog (λ l. good-var prog l (ok.instrs l)) c from (fresh_at from q.good q.room)
        ∙ ap (λ (x : Buffered). buffered_step model prog c (record { memory = M; own = x })) q.shown

    shown-mirror : (o : Option (In Middle)) → Holds (Keeps q.state) o → Holds (λ (r : In Buffered). Mirror r.own) (map (within (shows prog)) o)
    shown-mirror none h = tt
    shown-mirror (some r) h = record { state = r.own; shown = refl; good = h.0; room = omega (arith, q.room, h.1) }

    pub mirror-step : Holds (λ (r : In Buffered). Mirror r.own) (buffered_step model prog c (record { memory = M; own = b }))
    unfolding from
    mirror-step = rw (← matches) (shown-mirror (middle_step model prog c from) (middle-keeps c from q.good))

  pub mirrored : {b : Buffered} → Comes model prog b → Mirror b
  mirrored (comes_start R) = mirror-start R
  mirrored (comes_step {b} M c s r e) = holds_at (λ (r : In Buffered). Mirror r.own) (buffered_step model prog c (record { memory = M; own = b })) s e (mirror-step M c b (mirrored r))

  few-pairs : (b : Buffered) → Mirror b → length b.waiting ≤ most_waiting
  unfolding shows
  few-pairs b q =
      let n : length b.waiting ≡ length q.state.standing.waiting = sym (ap (λ (x : Buffered). length x.waiting) q.shown) ∙ length-map q.state.standing.waiting (pair_of prog q.state.auxiliaries) in
      omega (arith, few m t ok model q.state.standing q.good)

  -- never more than 16 pairs
  pub never-more : {b : Buffered} → Comes model prog b → length b.waiting ≤ most_waiting
  never-more {b} r = few-pairs b (mirrored r)

  fits : (o : Option (In Buffered)) → Holds (λ (r : In Buffered). Mirror r.own) o → fitting most_waiting o ≡ o
  unfolding fitting
  fits none h = refl
  fits (some s) h = rw (le-true (length s.own.waiting) most_waiting (few-pairs s.own h))

  -- so a step in 16 places is the step
  pub placed-step : (M : List ℕ) (c : ℕ) (b : Buffered) → Mirror b → placed_step most_waiting model prog c (record { memory = M; own = b }) ≡ buffered_step model prog c (record { memory = M; own = b })
  unfolding placed_step
  placed-step M c b q = fits (buffered_step model prog c (record { memory = M; own = b })) (mirror-step M c b q)

  pub never-differs : (M : List ℕ) (c : ℕ) {b : Buffered} → Comes model prog b → placed_step most_waiting model prog c (record { memory = M; own = b }) ≡ buffered_step model prog c (record { memory = M; own = b })
  never-differs M c {b} r = placed-step M c b (mirrored r)
