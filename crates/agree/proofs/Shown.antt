-- What the two kinds of thread show: the line's variable is the pair's, the values are equal, in order.
use mathlib.Core.Path.{◌≡◌, refl, ap}
use Prim.Native.Nat.{ℕ, zero, suc, ◌<◌}
use native.Mathlib.Omega.{arith}
use mathlib.Core.List.{List, [], ◌∷◌, map}
use lib.ListN.{length, get_or, length-map}
use Rattle.lists.specs.Lists.{each}
use Rattle.thread.specs.declared.Line.{Line}
use Rattle.thread.specs.Sizes.{most_waiting}
use Rattle.thread.proofs.Filled.{filled_at}
use Rattle.thread.specs.Numbers.{◌!◌, filled}
use Rattle.thread.specs.Table.{line, Prog, var_at}
use Rattle.runs.specs.Shown.{ShownThread, name_of, value_of, shown_thread, nobody}
use Rattle.runs.proofs.Worlds.{Each}
use Rattle.buffered.specs.RunBuffered.{pair_shown}
use Rattle.generated.specs.RunGenerated.{line_shown}
use Rattle.agree.specs.Demands.{SameThread}
use Rattle.agree.proofs.Middle.{pair_of}

-- the values, and the names, of what waits
values_same : (prog : Prog) (A : List ℕ) (w : List Line) → map value_of (map pair_shown (map (pair_of prog A) w)) ≡ map value_of (map (line_shown A) w)
unfolding pair_of
values_same prog A [] = refl
values_same prog A (l ∷ w) = rw (values_same prog A w)

name-at : (prog : Prog) (A : List ℕ) (w : List Line) (i : ℕ) → i < length w → map name_of (map pair_shown (map (pair_of prog A) w)) ! i ≡ var_at prog (line (map name_of (map (line_shown A) w) ! i))
unfolding pair_of
name-at prog A [] i h = absurd (omega arith)
name-at prog A (l ∷ w) zero h = refl
name-at prog A (l ∷ w) (suc i) h = name-at prog A w i (omega arith)

count_same : (prog : Prog) (A : List ℕ) (w : List Line) → length (map pair_shown (map (pair_of prog A) w)) ≡ length (map (line_shown A) w)
count_same prog A [] = refl
count_same prog A (l ∷ w) = ap suc (count_same prog A w)

pub same-shown : (prog : Prog) (A R : List ℕ) (l : Line) (w : List Line) → SameThread prog (shown_thread l R (map pair_shown (map (pair_of prog A) w))) (shown_thread l R (map (line_shown A) w))
unfolding shown_thread
same-shown prog A R l w = record {
  line = refl;
  registers = refl;
  count = count_same prog A w;
  values = ap (filled most_waiting) (values_same prog A w);
  variables = λ i h.
      let n : length (map (line_shown A) w) ≡ length w = length-map w (line_shown A) in
      let j : i < length w = omega arith in
      rw (filled_at most_waiting (map name_of (map pair_shown (map (pair_of prog A) w))) i, filled_at most_waiting (map name_of (map (line_shown A) w)) i) (name-at prog A w i j);
}

pub same-nobody : (prog : Prog) → SameThread prog nobody nobody
same-nobody prog = record { line = refl; registers = refl; count = refl; values = refl; variables = λ i h. absurd (omega arith) }

-- thread by thread
pub same-each : {T : Type 0} (prog : ℕ → Prog) (G : ℕ → T → Type 0) (b g : ℕ → T → ShownThread) → ((t : ℕ) (a : T) → G t a → SameThread (prog t) (b t a) (g t a))
    → (ts : List T) → Each G ts → (t : ℕ) → SameThread (prog t) (get_or (each b ts) t nobody) (get_or (each g ts) t nobody)
unfolding each
same-each prog G b g h [] k t = same-nobody (prog t)
same-each prog G b g h (a ∷ ts) k zero = h 0 a k.0
same-each prog G b g h (a ∷ ts) k (suc t) = same-each (λ i. prog (suc i)) (λ i. G (suc i)) (λ i. b (suc i)) (λ i. g (suc i)) (λ i. h (suc i)) ts k.1 t
