-- The program step along the edges of the graph, shown, is the buffered program step of what is shown. So all steps match.
use mathlib.Core.Path.{◌≡◌, refl, ap, ◌∙◌, sym}
use mathlib.Core.Bool.{Bool, true, false, cond, not}
use mathlib.Core.Option
use mathlib.Core.Option.{Option, none, some, get_or}
use Prim.Native.Nat.{ℕ, zero, suc, ◌<◌}
use mathlib.Core.List.{List, [], ◌∷◌, ◌++◌, map, Memᴰ}
use lib.ListN.{length, set}
use lib.Seq.{get_or-set_same, get_or-set_other}
use lib.Dec.{T, eqb}
use Rattle.lists.specs.Lists.{first}
use Rattle.lists.proofs.Tests.{cond-ap}
use Rattle.thread.specs.declared.Line.{Line}
use Rattle.thread.specs.declared.Model.{Model}
use Rattle.thread.specs.declared.Instr.{Instr}
use Rattle.thread.specs.declared.Instr.TheVariants as I
use Rattle.thread.specs.Numbers.{◌!◌}
use Rattle.thread.specs.Sizes.{variables}
use Rattle.thread.specs.Table.{Prog, next, var_at, stores, is_store}
use Rattle.waiting.specs.Discipline.{Ready, add_wait, newest, ready}
use Rattle.waiting.proofs.Mapped.{map-add_wait, map-newest}
use Rattle.runs.specs.Run.{In}
use Rattle.runs.proofs.Worlds.{within}
use Rattle.graphs.specs.Graph.{program_edges, put_edge, edges_of}
use Rattle.buffered.specs.Machine.{var_of, Buffered, program_step, buffered_step}
use Rattle.generated.specs.Machine.{serves, Values}
use Rattle.agree.proofs.Middle.{Middle, arrive, follow_arc, test, middle_step, step_along, pair_of, shows, no-put, same-put}

-- an auxiliary that is written shows in no line that waits
kept : (prog : Prog) (A : List ℕ) (l : Line) (v : ℕ) (w : List Line) → (Memᴰ l w → ⊥) → map (pair_of prog (set A l.0 v)) w ≡ map (pair_of prog A) w
unfolding pair_of
kept prog A l v [] h = refl
kept prog A l v (b ∷ w) h = rw (get_or-set_other A l.0 b.0 v 0 (λ e. h (Memᴰ.head (λ i. record { 0 = sym e i }))), kept prog A l v w (λ n. h (Memᴰ.tail n)))

stored : (m : Model) (prog : Prog) (A : List ℕ) (l : Line) (x v : ℕ) (w : List Line) → var_at prog l ≡ x → l.0 < length A → (Memᴰ l w → ⊥)
    → map (pair_of prog (set A l.0 v)) (add_wait (var_at prog) m w l) ≡ add_wait var_of m (map (pair_of prog A) w) (record { var = x; val = v })
unfolding pair_of
stored m prog A l x v w e lt fr = map-add_wait (pair_of prog (set A l.0 v)) var_of m w l ∙ rw (kept prog A l v w fr, get_or-set_same A l.0 v 0 lt, e)

one_of : {A B C : Type 0} (g : B → C) (f : A → B) (b : Bool) (p q : A) (o : Option A)
    → Option.map g (Option.map f (cond (not b) (some p) (cond b (some q) o))) ≡ cond b (some (g (f q))) (some (g (f p)))
one_of g f true p q o = refl
one_of g f false p q o = refl

module _ (m : Model) (prog : Prog) (M : List ℕ) (l : Line) (R A : List ℕ) (qs : List (Ready Line)) where
  from : List Line → In Middle
  from w = record { memory = M; own = record { standing = record { line = l; waiting = w }; registers = R; auxiliaries = A } }

  -- the program step along the edges of an instruction i, shown
  by_edges : List Line → Instr → Option (In Buffered)
  unfolding first serves follow_arc shows program_edges put_edge from
  by_edges w i = Option.map (within (shows prog)) (Option.map (follow_arc (from w)) (first (test 0 R) (program_edges m prog l w i ++ map (put_edge prog l) qs)))

  direct : List Line → Instr → Option (In Buffered)
  unfolding program_step pair_of
  direct w i = program_step m i M l R (map (pair_of prog A) w)

  loaded : (w : List Line) (r x : ℕ) (o : Option Line) → newest (var_at prog) w x ≡ o → by_edges w (I.Load r x) ≡ direct w (I.Load r x)
  unfolding by_edges direct
  loaded w r x none e = rw (← map-newest (pair_of prog A) var_of w x, e)
  loaded w r x (some k) e = rw (← map-newest (pair_of prog A) var_of w x, e)

  fenced : (w : List Line) → by_edges w I.Fence ≡ direct w I.Fence
  unfolding by_edges direct
  fenced [] = refl
  fenced (k ∷ w) = rw (no-put prog l R qs)

  compared : (w : List Line) (r x s t : ℕ) → by_edges w (I.Cas r x s t) ≡ direct w (I.Cas r x s t)
  unfolding by_edges direct
  compared [] r x s t = cond-ap (λ (v : Values). some (within (shows prog) (arrive (record { line = next l; waiting = [] }) v))) (eqb (M ! x) (R ! s)) _ _
  compared (k ∷ w) r x s t = rw (no-put prog l R qs)

  same-program : (w : List Line) (i : Instr) → prog l ≡ i → l.0 < length A → (T (is_store i) → Memᴰ l w → ⊥) → by_edges w i ≡ direct w i
  unfolding by_edges direct is_store
  same-program w (I.Set a v) e lt fr = refl
  same-program w (I.Copy a b) e lt fr = refl
  same-program w (I.Add a b c) e lt fr = refl
  same-program w (I.Sub a b c) e lt fr = refl
  same-program w (I.Load a x) e lt fr = loaded w a x (newest (var_at prog) w x) refl
  same-program w (I.StoreR x a) e lt fr = rw (stored m prog A l x (R ! a) w (ap (λ (i : Instr). get_or (stores i) 0) e) lt (fr tt))
  same-program w (I.StoreC x v) e lt fr = rw (stored m prog A l x v w (ap (λ (i : Instr). get_or (stores i) 0) e) lt (fr tt))
  same-program w I.Fence e lt fr = fenced w
  same-program w (I.Cas a x b c) e lt fr = compared w a x b c
  same-program w (I.Branch a to) e lt fr = one_of (within (shows prog)) (follow_arc (from w)) (eqb (R ! a) 0) _ _ _
  same-program w (I.Jump to) e lt fr = refl
  same-program w I.Return e lt fr = rw (no-put prog l R qs)

-- the line has an auxiliary value, and a store line that is about to store does not wait already
pub record Fresh (prog : Prog) (s : In Middle) : Type 0 where
  pub inside : s.own.standing.line.0 < length s.own.auxiliaries
  pub new : T (is_store (prog s.own.standing.line)) → Memᴰ s.own.standing.line s.own.standing.waiting → ⊥

pub same_step : (m : Model) (prog : Prog) → ((l : Line) → var_at prog l < variables) → (c : ℕ) (s : In Middle) → Fresh prog s
    → Option.map (within (shows prog)) (middle_step m prog c s) ≡ buffered_step m prog c (within (shows prog) s)
unfolding step_along edges_of buffered_step shows by_edges direct
same_step m prog vars zero s f =
    let n = s.own.standing in
    same-program m prog s.memory n.line s.own.registers s.own.auxiliaries (ready (var_at prog) m n.waiting) n.waiting (prog n.line) refl f.inside f.new
same_step m prog vars (suc x) s f = same-put m prog vars x s
