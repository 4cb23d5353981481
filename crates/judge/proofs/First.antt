-- The first thread that is refused, thread by thread, as the code finds it.
use mathlib.Core.Path.{◌≡◌, refl, sym, ap, ◌∙◌}
use mathlib.Core.Option.{Option, none, some}
use mathlib.Core.List.{List, []}
use lib.ListN.{get_or}
use lib.Dec.{ltb, eqb}
use mathlib.Core.Bool.{Bool, true, false, ◌||◌}
use denote.Ref.{Bor}
use Rattle.lists.specs.Slices.{contents}
use Rattle.lists.proofs.Slices.{content-at}
use Rattle.checks.specs.Checks.{admission}
use Prim.Native.Nat.{ℕ, suc, ◌+◌, ◌-◌, ◌≤◌, ◌<◌}
use native.Mathlib.Numerals.{add-one}
use native.Mathlib.Omega.{arith}
use Rattle.lists.proofs.Tests.{eq-false, lt-true, false-lt}
use Rattle.thread.specs.declared.Refusal.{Refusal}
use Rattle.thread.specs.declared.Refusal.TheVariants as R
use Rattle.thread.specs.Sizes.{most_threads}
use Rattle.runs.specs.Run.{Bad, bad_threads, first_bad, threads_refused}
use Rattle.std.specs.Prelude.{Ok, Err}
use Rattle.admit.specs.Answer.{Answer, answer}
use Rattle.admit.proofs.Answers.{answer-accepted, answer-refused}
use Rattle.judge.specs.Answers.{Judged, judged}

-- 2 to 10 of each thread
abbrev pub refusals : ℕ → List (Bor (List ℕ)) → ℕ → Option Refusal
refusals model tables t = admission model (get_or (contents tables) t [])

-- the table of thread t, read through the slices
pub read : (model : ℕ) (tables : List (Bor (List ℕ))) (t : ℕ) → answer (admission model (get_or tables t (record { ref_ptr = (0, 0); now = [] })).now) ≡ answer (refusals model tables t)
read model tables t = ap (λ (l : List ℕ). answer (admission model l)) (content-at tables t _ refl)

module _ (refusal : ℕ → Option Refusal) where
  -- one thread more
  first-turn : (t n : ℕ) → t < n → first_bad refusal t (n - t) ≡ first_bad refusal t (suc (n - (t + 1)))
  first-turn t n h = let e : n - t ≡ suc (n - (t + 1)) = omega arith in rw e

  pass_on : (t k : ℕ) → refusal t ≡ none → first_bad refusal t (suc k) ≡ first_bad refusal (t + 1) k
  unfolding first_bad
  pass_on t k e = let f : t + 1 ≡ suc t = add-one t in rw (f, e, first_bad)

  module _ (t n : ℕ) (h : t < n) {a : Answer} (e : a ≡ answer (refusal t)) where
    pub bad-here : (r : Refusal) → a ≡ Err r → first_bad refusal t (n - t) ≡ some (record { thread = t; refusal = r })
    unfolding first_bad
    bad-here r f = first-turn t n h ∙ rw (answer-refused (refusal t) e r f, first_bad)

    pub bad-later : a ≡ Ok tt → first_bad refusal t (n - t) ≡ first_bad refusal (t + 1) (n - (t + 1))
    unfolding first_bad
    bad-later f = first-turn t n h ∙ pass_on t (n - (t + 1)) (answer-accepted (refusal t) e f)

  pub bad-nowhere : (t n : ℕ) → n ≤ t → first_bad refusal t (n - t) ≡ none
  unfolding first_bad
  bad-nowhere t n h = let e : n - t ≡ 0 = omega arith in rw e

  -- 14, and then the threads
  module _ (count : ℕ) where
    pub no_threads : count ≡ 0 → threads_refused refusal count ≡ some (record { thread = 0; refusal = R.BadThreads })
    unfolding threads_refused bad_threads
    no_threads e = rw (e, threads_refused)

    pub many-threads : 4 < count → threads_refused refusal count ≡ some (record { thread = 0; refusal = R.BadThreads })
    unfolding threads_refused bad_threads
    many-threads h = rw (eq-false count 0 (λ e. omega arith), lt-true most_threads count h, threads_refused)

    pub wrong-threads : bad_threads count ≡ true → Err (0, R.BadThreads) ≡ judged (threads_refused refusal count)
    unfolding judged threads_refused
    wrong-threads e = rw (e, threads_refused)

    pub right-threads : bad_threads count ≡ false → threads_refused refusal count ≡ first_bad refusal 0 count
    unfolding threads_refused
    right-threads e = rw (e, threads_refused)

pub few_threads : (count : ℕ) → bad_threads count ≡ false → count ≤ 4
unfolding bad_threads
few_threads count e = false-lt 4 count (second (eqb count 0) (ltb 4 count) e)
  where
    second : (a b : Bool) → a || b ≡ false → b ≡ false
    second true b e = cc
    second false b e = e

-- what is judged says of the first thread that is refused
module _ (o : Option Bad) {j : Judged} (e : j ≡ judged o) where
  pub is-fine : j ≡ Ok tt → o ≡ none
  unfolding judged
  is-fine f = go o (sym e ∙ f)
    where
      go : (o : Option Bad) → judged o ≡ Ok tt → o ≡ none
      go none h = refl
      go (some b) h = cc

  pub is-bad : (t : ℕ) (r : Refusal) → j ≡ Err (t, r) → o ≡ some (record { thread = t; refusal = r })
  unfolding judged
  is-bad t r f = go o (sym e ∙ f)
    where
      go : (o : Option Bad) → judged o ≡ Err (t, r) → o ≡ some (record { thread = t; refusal = r })
      go none h = cc
      go (some b) h = let p : (b.thread, b.refusal) ≡ (t, r) = cc in ap (λ (q : ℕ × Refusal). some (record { thread = q.0; refusal = q.1 })) p
