-- Between the two runs: a thread that steps along the edges of the graph before any numbering. Its step, shown, is the buffered step of what is shown.
use mathlib.Core.Path.{◌≡◌, refl, ap, ◌∙◌}
use mathlib.Core.Bool.{Bool, true, false, ◌&&◌}
use mathlib.Core.Option
use mathlib.Core.Option.{Option, none, some}
use Prim.Native.Nat.{ℕ, suc, ◌<◌}
use mathlib.Core.List.{List, [], ◌∷◌, ◌++◌, map}
use lib.Dec.{eqb, eqb-zero-suc, eqb-suc-zero, eqb-suc-suc}
use Rattle.lists.specs.Lists.{All, first}
use Rattle.lists.proofs.Lists.{all_of, first-map, first-ext}
use Rattle.explore.specs.Explore.{Arc}
use Rattle.thread.specs.declared.Line.{Line}
use Rattle.thread.specs.declared.Model.{Model}
use Rattle.thread.specs.declared.Instr.{Instr}
use Rattle.thread.specs.declared.Instr.TheVariants as I
use Rattle.thread.specs.declared.Op.{Op}
use Rattle.thread.specs.Sizes.{variables}
use Rattle.thread.specs.Table.{Prog, var_at}
use Rattle.waiting.specs.Discipline.{Ready, newest, ready, ready_for}
use Rattle.waiting.proofs.Mapped.{map_ready, map-ready_for}
use Rattle.waiting.proofs.Queues.{first-ready}
use Rattle.runs.specs.Run.{In}
use Rattle.runs.proofs.Worlds.{within}
use Rattle.graphs.specs.Graph.{Standing, NodeEdges, load_op, edge, program_edges, put_edge, edges_of}
use Rattle.buffered.specs.Machine.{Pair, var_of, Buffered, put_pair, buffered_step}
use Rattle.generated.specs.Machine.{waiting_value, choice_of, test_holds, serves, Values, act}

pub record Middle : Type 0 where
  pub standing : Standing
  pub registers : List ℕ
  pub auxiliaries : List ℕ

unfoldable pub arrive : Standing → Values → In Middle
arrive n v = record { memory = v.memory; own = record { standing = n; registers = v.registers; auxiliaries = v.auxiliaries } }

unfoldable pub follow_arc : In Middle → Arc Standing Op → In Middle
unfolding act arrive
follow_arc s a = arrive a.target (act a.label s.memory s.own.registers s.own.auxiliaries)

abbrev pub test : ℕ → List ℕ → Arc Standing Op → Bool
test c R a = serves c R a.label

-- a step along the first of a node's edges that serves the choice, for any edges
unfoldable pub step_along : NodeEdges → ℕ → In Middle → Option (In Middle)
unfolding first serves follow_arc
step_along succ c s = Option.map (follow_arc s) (first (test c s.own.registers) (succ s.own.standing))

abbrev pub middle_step : Model → Prog → ℕ → In Middle → Option (In Middle)
middle_step m prog = step_along (edges_of m prog)

-- what the store line l shows
unfoldable pub pair_of : Prog → List ℕ → Line → Pair
unfolding var_at
pair_of prog A l = record { var = var_at prog l; val = waiting_value A l }

unfoldable pub shows : Prog → Middle → Buffered
unfolding pair_of
shows prog s = record { line = s.standing.line; registers = s.registers; waiting = map (pair_of prog s.auxiliaries) s.standing.waiting }

-- Which edges serve which choice.
pub for-program : (o : Op) (R : List ℕ) → choice_of o ≡ 0 → serves 0 R o ≡ test_holds R o
unfolding serves
for-program o R e = rw e

not-put : (o : Op) (R : List ℕ) (x : ℕ) → choice_of o ≡ 0 → serves (suc x) R o ≡ false
unfolding serves
not-put o R x e = rw (e, eqb-zero-suc)

load-choice : (r x : ℕ) (o : Option Line) → choice_of (load_op r x o) ≡ 0
unfolding choice_of load_op
load-choice r x none = refl
load-choice r x (some l) = refl

abbrev pub Program : Arc Standing Op → Type 0
Program a = choice_of a.label ≡ 0

pub program-choice : (m : Model) (prog : Prog) (l : Line) (w : List Line) (i : Instr) → All Program (program_edges m prog l w i)
unfolding program_edges choice_of
program-choice m prog l w (I.Set r v) = (refl, tt)
program-choice m prog l w (I.Copy r s) = (refl, tt)
program-choice m prog l w (I.Add r s t) = (refl, tt)
program-choice m prog l w (I.Sub r s t) = (refl, tt)
program-choice m prog l w (I.Load r x) = (load-choice r x (newest (var_at prog) w x), tt)
program-choice m prog l w (I.StoreR x r) = (refl, tt)
program-choice m prog l w (I.StoreC x v) = (refl, tt)
program-choice m prog l [] I.Fence = (refl, tt)
program-choice m prog l (k ∷ w) I.Fence = tt
program-choice m prog l [] (I.Cas r x s t) = (refl, tt)
program-choice m prog l (k ∷ w) (I.Cas r x s t) = tt
program-choice m prog l w (I.Branch r to) = (refl, (refl, tt))
program-choice m prog l w (I.Jump to) = (refl, tt)
program-choice m prog l w I.Return = tt

-- no program edge serves a put
pub skip : (x : ℕ) (R : List ℕ) (es ps : List (Arc Standing Op)) → All Program es → first (test (suc x) R) (es ++ ps) ≡ first (test (suc x) R) ps
unfolding first
skip x R [] ps h = refl
skip x R (e ∷ es) ps h = rw (not-put e.label R x h.0, skip x R es ps h.1)

-- no put edge serves the program step
pub no-put : (prog : Prog) (l : Line) (R : List ℕ) (qs : List (Ready Line)) → first (test 0 R) (map (put_edge prog l) qs) ≡ none
unfolding first serves choice_of put_edge
no-put prog l R [] = refl
no-put prog l R (q ∷ qs) = rw (eqb-suc-zero, no-put prog l R qs)

pub put-test : (prog : Prog) (l : Line) (R : List ℕ) (x : ℕ) (q : Ready Line) → test (suc x) R (put_edge prog l q) ≡ eqb (var_at prog q.store) x
unfolding serves choice_of test_holds put_edge
put-test prog l R x q = rw eqb-suc-suc (and-true (eqb (var_at prog q.store) x))
  where
    and-true : (b : Bool) → b && true ≡ b
    and-true true = refl
    and-true false = refl

module _ (m : Model) (prog : Prog) (vars : (l : Line) → var_at prog l < variables) where
  put-edge : (x : ℕ) (l : Line) (w : List Line) (R : List ℕ) → first (test (suc x) R) (map (put_edge prog l) (ready (var_at prog) m w)) ≡ Option.map (put_edge prog l) (ready_for (var_at prog) m x w)
  put-edge x l w R =
      first-map (put_edge prog l) (test (suc x) R) (ready (var_at prog) m w)
      ∙ ap (Option.map (put_edge prog l)) (first-ext (λ (q : Ready Line). test (suc x) R (put_edge prog l q)) (λ (q : Ready Line). eqb (var_at prog q.store) x) (ready (var_at prog) m w) (put-test prog l R x) ∙ first-ready (var_at prog) m x w (all_of (λ a. var_at prog a < variables) w (λ a n. vars a)))

  shown-put : (s : In Middle) (o : Option (Ready Line)) →
      Option.map (within (shows prog)) (Option.map (follow_arc s) (Option.map (put_edge prog s.own.standing.line) o))
      ≡ Option.map (put_pair s.memory s.own.standing.line s.own.registers) (Option.map (map_ready (pair_of prog s.own.auxiliaries) var_of) o)
  unfolding follow_arc put_edge edge put_pair map_ready shows
  shown-put s none = refl
  shown-put s (some q) = refl

  -- a store reaches memory on both sides, or on neither
  pub same-put : (x : ℕ) (s : In Middle) → Option.map (within (shows prog)) (middle_step m prog (suc x) s) ≡ buffered_step m prog (suc x) (within (shows prog) s)
  unfolding buffered_step shows step_along edges_of
  same-put x s =
      let l = s.own.standing.line in
      let w = s.own.standing.waiting in
      let R = s.own.registers in
      ap (λ (o : Option (Arc Standing Op)). Option.map (within (shows prog)) (Option.map (follow_arc s) o)) (skip x R (program_edges m prog l w (prog l)) (map (put_edge prog l) (ready (var_at prog) m w)) (program-choice m prog l w (prog l)) ∙ put-edge x l w R)
      ∙ shown-put s (ready_for (var_at prog) m x w)
      ∙ ap (Option.map (put_pair s.memory l R)) (map-ready_for (pair_of prog s.own.auxiliaries) var_of m x w)
