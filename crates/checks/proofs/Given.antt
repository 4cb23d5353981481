-- The computed answer is the one that is given, for 2 to 10; and what a table keeps that is free of them.
use mathlib.Core.Path.{◌≡◌, refl, ap}
use mathlib.Core.Logic.Iff
use mathlib.Core.Logic.{◌≢◌, ◌↔◌}
use mathlib.Core.Bool.{Bool, true, false, not}
use mathlib.Core.Option.{Option, none, some}
use Prim.Native.Nat.{ℕ, suc, ◌+◌, ◌*◌, ◌%◌, ◌≤◌, ◌<◌}
use native.Mathlib.Omega.{arith}
use native.Mathlib.Decide.{dec_lt}
use native.Mathlib.Nat.{div-add-mod}
use mathlib.Core.List.{List, [], ◌∷◌, ◌++◌}
use lib.ListN.{length, get_elem?}
use lib.Dec.{T, eqb, leb, ltb, ltb→lt, lt→ltb, eqb→eq, nleb→lt, nltb→le, not_T, T_not}
use Rattle.lists.specs.Lists.{All}
use Rattle.thread.specs.declared.Line.{Line}
use Rattle.thread.specs.declared.Instr.{Instr}
use Rattle.thread.specs.declared.Instr.TheVariants as I
use Rattle.thread.specs.declared.Refusal.{Refusal}
use Rattle.thread.specs.declared.Refusal.TheVariants as R
use Rattle.thread.specs.Sizes.{most_lines, line_width, most_stores}
use Rattle.thread.specs.Table.{line, Prog, instr_at, lines_of}
use Rattle.checks.specs.Lines.{after, follows, Unfenced, unfenced}
use Rattle.checks.specs.Checks.{bad_model, no_lines, too_many_lines, ragged_table, bad_field, too_many_stores, bad_target, no_next, unfenced_loop, first_of, checks, admission}
use Rattle.checks.specs.Checks.{good_line, store_lines, target_of, wrong_target, goes_on, last_line}
use Rattle.checks.specs.Given.{Condition, Seventeenth, conditions, Given}
use Rattle.checks.proofs.Instructions.{◌&◌, GoodInstr, good-instr, beyond}
use Rattle.checks.proofs.Loops.{Stays, leads-inside, unfenced-iff}
use Rattle.checks.proofs.Stores.{none-at, seventeenth-iff}
use Rattle.checks.proofs.Judged.{Gives, Judged, given-append, all-silent, when-answers, when-silent, map-answers, map-silent, lowest-answers, lowest-silent}

double-not : (b : Bool) → (T (not b) → ⊥) → T b
double-not true f = tt
double-not false f = f tt

empty-iff : (t : List ℕ) → T (eqb (length t) 0) ↔ (t ≡ [])
empty-iff [] = (λ e. refl, λ e. tt)
empty-iff (a ∷ t) = (λ e. absurd (omega (arith, eqb→eq (suc (length t)) 0 e)), λ e. let z : ◌≡◌ {A = ℕ} 0 1 = cc in absurd (omega arith))

nonzero-iff : (k : ℕ) → T (not (eqb k 0)) ↔ (k ≢ 0)
nonzero-iff k = (λ h e. T_not (eqb k 0) h (rw e tt), λ h. not_T (eqb k 0) (λ e. h (eqb→eq k 0 e)))

inside : (n : ℕ) (to : Line) → (T (leb n to.0) → ⊥) → to.0 < n
inside n to w = nleb→lt n to.0 (not_T (leb n to.0) w)

-- where no target is wrong and the last line does not go on, all that follows is inside
after-stays : (n : ℕ) (l : Line) (i : Instr) → (T (wrong_target n i) → ⊥) → (T (goes_on i) → l.0 + 1 < n) → All (λ (k : Line). k.0 < n) (after l i)
unfolding wrong_target target_of goes_on after
after-stays n l (I.Set a v) w g = (g tt, tt)
after-stays n l (I.Copy a b) w g = (g tt, tt)
after-stays n l (I.Add a b c) w g = (g tt, tt)
after-stays n l (I.Sub a b c) w g = (g tt, tt)
after-stays n l (I.Load a x) w g = (g tt, tt)
after-stays n l (I.StoreR x a) w g = (g tt, tt)
after-stays n l (I.StoreC x v) w g = (g tt, tt)
after-stays n l I.Fence w g = (g tt, tt)
after-stays n l (I.Cas a x b c) w g = (g tt, tt)
after-stays n l (I.Branch a to) w g = (inside n to w, (g tt, tt))
after-stays n l (I.Jump to) w g = (inside n to w, tt)
after-stays n l I.Return w g = tt

-- what silent checks say
module _ (t : List ℕ) where
  whole-lines : ragged_table t ≡ none → length t ≡ line_width * lines_of t
  unfolding ragged_table
  whole-lines e =
      let z : length t % line_width ≡ 0 = eqb→eq (length t % line_width) 0 (double-not (eqb (length t % line_width) 0) (when-silent (not (eqb (length t % line_width) 0)) R.RaggedTable e)) in
      omega (arith, div-add-mod (length t) line_width)

  has-lines : no_lines t ≡ none → ragged_table t ≡ none → 0 < lines_of t
  unfolding no_lines
  has-lines e g =
      let h : length t ≢ 0 = λ q. when-silent (eqb (length t) 0) R.NoLines e (rw q tt) in
      omega (arith, whole-lines g)

  pub inside-lines : bad_target t ≡ none → no_next t ≡ none → Stays (follows (instr_at t)) (lines_of t)
  unfolding bad_target no_next follows
  inside-lines e g l h = after-stays n l (instr_at t l) (lowest-silent R.BadTarget (λ l. wrong_target n (instr_at t l)) n e l h) (λ o. goes o (dec_lt (l.0 + 1) n))
    where
      n : ℕ
      n = lines_of t

      goes : T (goes_on (instr_at t l)) → Dec (l.0 + 1 < n) → l.0 + 1 < n
      goes o (yes k) = k
      goes o (no k) =
          let q : l ≡ last_line t = ap line (omega arith) in
          absurd (when-silent (goes_on (instr_at t (last_line t))) (R.NoNext (last_line t)) g (rw q at o))

module _ (m : ℕ) (t : List ℕ) where
  -- each check by its condition; 10 leans on the earlier ones
  judged : Judged (checks m t) (conditions m t)
  unfolding bad_model no_lines too_many_lines ragged_table bad_field too_many_stores bad_target no_next unfenced_loop
  judged =
      let prog : Prog = instr_at t in
      let n : ℕ = lines_of t in
      let most : ℕ = most_lines * line_width in
      let wrong : Line → Bool = λ l. wrong_target n (prog l) in
      let last : Line = last_line t in
      when-answers (ltb 1 m) R.BadModel (1 < m) (ltb→lt 1 m, lt→ltb 1 m)
      & λ e2. when-answers (eqb (length t) 0) R.NoLines (t ≡ []) (empty-iff t)
      & λ e3. when-answers (ltb most (length t)) R.TooManyLines (most < length t) (ltb→lt most (length t), lt→ltb most (length t))
      & λ e4. when-answers (not (eqb (length t % line_width) 0)) R.RaggedTable (length t % line_width ≢ 0) (nonzero-iff (length t % line_width))
      & λ e5. lowest-answers R.BadField (λ l. not (good_line t l)) n (λ l. T (not (good_line t l))) (λ l h. Iff.rfl)
      & λ e6. map-answers R.TooManyStores (get_elem? (store_lines prog n) most_stores) (Seventeenth prog n) (seventeenth-iff prog n)
      & λ e7. lowest-answers R.BadTarget wrong n (λ l. T (wrong l)) (λ l h. Iff.rfl)
      & λ e8. when-answers (goes_on (prog last)) (R.NoNext last) (T (goes_on (prog last))) Iff.rfl
      & λ e9. lowest-answers R.UnfencedLoop (unfenced prog n) n (Unfenced prog) (unfenced-iff prog n (has-lines t e3 e5) (inside-lines t e8 e9))
      & λ e10. tt

  pub given-from : (more : List (Option Refusal)) (More : List Condition) → (admission m t ≡ none → Gives more More) → Gives (checks m t ++ more) (conditions m t ++ More)
  unfolding admission
  given-from more More k = given-append (checks m t) more (conditions m t) More judged k

  pub given-iff : (r : Refusal) → (admission m t ≡ some r) ↔ Given m t r
  unfolding admission first_of
  given-iff = given-from [] [] (λ e r. (λ h. let z : ◌≡◌ {A = ℕ} 0 1 = cc in omega arith, λ x. absurd x))

  pub given-only : (r q : Refusal) → Given m t r → Given m t q → r ≡ q
  given-only r q g h = let e = (given-iff r).1 g in let f = (given-iff q).1 h in cc

-- what a table free of 2 to 10 keeps
pub record Admitted (m : ℕ) (t : List ℕ) : Type 0 where
  pub model : m ≤ 1
  pub some_lines : 0 < lines_of t
  pub few_lines : lines_of t ≤ most_lines
  pub whole : length t ≡ line_width * lines_of t
  pub instrs : (l : Line) → GoodInstr (instr_at t l)
  pub few-stores : length (store_lines (instr_at t) (lines_of t)) ≤ most_stores
  pub stays : Stays (follows (instr_at t)) (lines_of t)
  pub fenced : (l : Line) → Unfenced (instr_at t) l → ⊥

pub admitted : (m : ℕ) (t : List ℕ) → admission m t ≡ none → Admitted m t
unfolding admission bad_model too_many_lines bad_field too_many_stores unfenced_loop
admitted m t e =
    let prog : Prog = instr_at t in
    let n : ℕ = lines_of t in
    let most : ℕ = most_lines * line_width in
    let from2 = all-silent (checks m t) e in
    let from3 = from2.1 in
    let from4 = from3.1 in
    let from5 = from4.1 in
    let from6 = from5.1 in
    let from7 = from6.1 in
    let from8 = from7.1 in
    let from9 = from8.1 in
    let from10 = from9.1 in
    let lines : length t ≡ line_width * n = whole-lines t from5.0 in
    let some_lines : 0 < n = has-lines t from3.0 from5.0 in
    let stays : Stays (follows prog) n = inside-lines t from8.0 from9.0 in
    record {
      model = nltb→le 1 m (not_T (ltb 1 m) (when-silent (ltb 1 m) R.BadModel from2.0));
      some_lines = some_lines;
      few_lines = omega (arith, nltb→le most (length t) (not_T (ltb most (length t)) (when-silent (ltb most (length t)) R.TooManyLines from4.0)));
      whole = lines;
      instrs = λ l. good l lines from6.0 (dec_lt l.0 n);
      few-stores = none-at (store_lines prog n) most_stores (map-silent R.TooManyStores (get_elem? (store_lines prog n) most_stores) from7.0);
      stays = stays;
      fenced = λ l u.
          let h : l.0 < n = leads-inside (follows prog) n stays some_lines u.reached in
          lowest-silent R.UnfencedLoop (unfenced prog n) n from10.0 l h ((unfenced-iff prog n some_lines stays l h).1 u);
    }
  where
    good : (l : Line) → length t ≡ line_width * lines_of t → bad_field t ≡ none → Dec (l.0 < lines_of t) → GoodInstr (instr_at t l)
    good l w e (yes h) = good-instr t l (double-not (good_line t l) (lowest-silent R.BadField (λ l. not (good_line t l)) (lines_of t) e l h))
    good l w e (no h) = beyond t l (omega arith)
