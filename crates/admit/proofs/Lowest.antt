-- The lowest line that passes a test, looked for from line to line: what is left to look at.
use mathlib.Core.Path.{◌≡◌, refl, sym, ap, subst, ◌∙◌}
use mathlib.Core.Bool.{Bool, true, false, cond, not}
use mathlib.Core.Option.{Option, none, some, map}
use Prim.Native.Nat.{ℕ, zero, suc, ◌+◌, ◌-◌, ◌≤◌, ◌<◌}
use native.Mathlib.Nat.{sub-zero}
use native.Mathlib.Numerals.{add-one}
use native.Mathlib.Omega.{arith}
use mathlib.Core.List.{List}
use Rattle.std.specs.Prelude.{Some}
use Rattle.std.specs.List.{find, range_with_len}
use Rattle.lists.specs.Lists.{lowest_from, lowest}
use Rattle.lists.specs.Options.{option_of}
use Rattle.thread.specs.declared.Line.{Line}
use Rattle.thread.specs.declared.Refusal.{Refusal}
use Rattle.thread.specs.declared.Refusal.TheVariants as R
use Rattle.thread.specs.Table.{line, instr_at, lines_of}
use Rattle.checks.specs.Lines.{unfenced}
use Rattle.checks.specs.Checks.{good_line, wrong_target, at_lowest, bad_field, bad_target, unfenced_loop}
use Rattle.std.specs.Prelude.{Ok, Err}
use Rattle.admit.specs.Answer.{Answer, answer}

-- what a search over numbers gives
pub lowest_found : (p : ℕ → Bool) (n : ℕ) → find p (range_with_len 0 n) ≡ option_of (lowest p n)
unfolding lowest lowest_from option_of
lowest_found p n = on 0 n
  where
    on : (k n : ℕ) → find p (range_with_len k n) ≡ option_of (lowest_from p k n)
    on k zero = refl
    on k (suc n) = go (p k) (rw add-one (on (suc k) n))
      where
        go : (b : Bool) → find p (range_with_len (k + 1) n) ≡ option_of (lowest_from p (suc k) n) → cond b (Some k) (find p (range_with_len (k + 1) n)) ≡ option_of (elim b [ true ↦ some k | false ↦ lowest_from p (suc k) n ])
        go true e = refl
        go false e = e

module _ (p : ℕ → Bool) (n : ℕ) where
  -- the lowest of the numbers from k to n
  abbrev pub lowest_on : ℕ → Option ℕ
  lowest_on k = lowest_from p k (n - k)

  pub lowest_start : lowest p n ≡ lowest_on 0
  unfolding lowest
  lowest_start = rw sub-zero

  pub lowest-here : (k : ℕ) → k < n → p k ≡ true → lowest_on k ≡ some k
  unfolding lowest_from
  lowest-here k h e = let q : n - k ≡ suc (n - suc k) = omega arith in rw (q, lowest_from, e)

  pub lowest-next : (k : ℕ) → k < n → p k ≡ false → lowest_on k ≡ lowest_on (k + 1)
  unfolding lowest_from
  lowest-next k h e = let q : n - k ≡ suc (n - suc k) = omega arith in rw (add-one, q, lowest_from, e)

  pub lowest-end : (k : ℕ) → n ≤ k → lowest_on k ≡ none
  unfolding lowest_from
  lowest-end k h = let q : n - k ≡ 0 = omega arith in rw q

-- a check that refuses at the lowest line that fails
module _ (r : Line → Refusal) (fails : Line → Bool) (n : ℕ) where
  abbrev test : ℕ → Bool
  test k = fails (line k)

  abbrev given : Option ℕ → Answer
  given o = answer (map (λ k. r (line k)) o)

  -- its answer, where no line below k fails
  abbrev pub from_line : ℕ → Answer
  from_line k = given (lowest_on test n k)

  from_start : answer (at_lowest r fails n) ≡ from_line 0
  unfolding at_lowest
  from_start = ap given (lowest_start test n)

  module _ {a : Answer} (k : ℕ) (left : a ≡ from_line k) where
    pub from-here : k < n → fails (line k) ≡ true → Err (r (line k)) ≡ a
    unfolding answer
    from-here h e = sym (left ∙ ap given (lowest-here test n k h e))

    pub from_next : k < n → fails (line k) ≡ false → a ≡ from_line (k + 1)
    from_next h e = left ∙ ap given (lowest-next test n k h e)

    pub from_end : n ≤ k → Ok tt ≡ a
    unfolding answer
    from_end h = sym (left ∙ ap given (lowest-end test n k h))

-- the checks of this kind, where nothing is looked at yet
module _ (t : List ℕ) where
  abbrev pub bad : Line → Bool
  bad l = not (good_line t l)

  abbrev pub wrong : ℕ → Line → Bool
  wrong n l = wrong_target n (instr_at t l)

  pub field-start : (n : ℕ) → n ≡ lines_of t → answer (bad_field t) ≡ from_line R.BadField bad n 0
  unfolding bad_field
  field-start n e = subst (λ (k : ℕ). answer (bad_field t) ≡ from_line R.BadField bad k 0) (sym e) (from_start R.BadField bad (lines_of t))

  pub target-start : (n : ℕ) → n ≡ lines_of t → answer (bad_target t) ≡ from_line R.BadTarget (wrong n) n 0
  unfolding bad_target
  target-start n e = subst (λ (k : ℕ). answer (bad_target t) ≡ from_line R.BadTarget (wrong k) k 0) (sym e) (from_start R.BadTarget (wrong (lines_of t)) (lines_of t))

  pub loop-start : (n : ℕ) → n ≡ lines_of t → answer (unfenced_loop t) ≡ from_line R.UnfencedLoop (unfenced (instr_at t) n) n 0
  unfolding unfenced_loop
  loop-start n e =
      subst (λ (k : ℕ). answer (unfenced_loop t) ≡ from_line R.UnfencedLoop (unfenced (instr_at t) k) k 0) (sym e)
      (from_start R.UnfencedLoop (unfenced (instr_at t) (lines_of t)) (lines_of t))

-- what a test of f a says of f b
pub told : {A B : Type 0} (f : A → B) {a b : A} {r c : B} → a ≡ b → r ≡ f a → r ≡ c → f b ≡ c
told f e p q = ap f (sym e) ∙ sym p ∙ q
