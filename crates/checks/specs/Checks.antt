-- "Numbers returned", 2 to 10: the checks of a model and a table, in their order. The first that answers counts.
use Rattle.std.specs.Prelude.{Bool, true, false, cond, not, ◌&&◌, ℕ, ◌-◌, ◌*◌, ◌%◌, List, [], ◌∷◌, length, eqb, leb, ltb}
use Rattle.std.proofs.Math.Option.{Option, none, some, map, Option-elim}
use Rattle.std.proofs.Math.ListN.{get_elem?}
use Rattle.lists.specs.Lists.{collect, lowest}
use Rattle.thread.specs.declared.Line.{Line}
use Rattle.thread.specs.declared.Instr.{Instr}
use Rattle.thread.specs.declared.Instr.TheVariants as I
use Rattle.thread.specs.declared.Model.{Model}
use Rattle.thread.specs.declared.Model.TheVariants.{Tso, Pso}
use Rattle.thread.specs.declared.Refusal.{Refusal}
use Rattle.thread.specs.declared.Refusal.TheVariants as R
use Rattle.thread.specs.Sizes.{most_lines, line_width, registers, variables, most_stores}
use Rattle.thread.specs.Table.{line, Prog, number_at, kind_at, instr_at, lines_of, Field, register, variable, value, target, fields_of, is_store}
use Rattle.checks.specs.Lines.{unfenced}

unfoldable pub when : Bool → Refusal → Option Refusal
when true r = some r
when false r = none

-- "model above 1"
unfoldable pub bad_model : ℕ → Option Refusal
unfolding when
bad_model m = when (ltb 1 m) R.BadModel

-- "table empty"
unfoldable pub no_lines : List ℕ → Option Refusal
unfolding when
no_lines t = when (eqb (length t) 0) R.NoLines

-- "over 320 numbers"
unfoldable pub too_many_lines : List ℕ → Option Refusal
unfolding when
too_many_lines t = when (ltb (most_lines * line_width) (length t)) R.TooManyLines

-- "length not a multiple of 5"
unfoldable pub ragged_table : List ℕ → Option Refusal
unfolding when
ragged_table t = when (not (eqb (length t % line_width) 0)) R.RaggedTable

-- "kind above 11, register or variable above 15, unused field not 0"
unfoldable pub good_field : Field → ℕ → Bool
good_field register n = ltb n registers
good_field variable n = ltb n variables
good_field value n = true
good_field target n = true

unfoldable pub good_fields : List Field → List ℕ → Bool
unfolding good_field
good_fields [] [] = true
good_fields [] (n ∷ ns) = eqb n 0 && good_fields [] ns
good_fields (f ∷ fs) [] = false
good_fields (f ∷ fs) (n ∷ ns) = good_field f n && good_fields fs ns

unfoldable pub good_line : List ℕ → Line → Bool
unfolding good_fields fields_of
good_line t l = leb (kind_at t l) 11 && good_fields (fields_of (kind_at t l)) (number_at t l 1 ∷ number_at t l 2 ∷ number_at t l 3 ∷ number_at t l 4 ∷ [])

-- the refusal at the lowest line that fails a test
unfoldable pub at_lowest : (Line → Refusal) → (Line → Bool) → ℕ → Option Refusal
unfolding lowest
at_lowest r fails n = map (λ k. r (line k)) (lowest (λ k. fails (line k)) n)

unfoldable pub bad_field : List ℕ → Option Refusal
unfolding at_lowest good_line
bad_field t = at_lowest R.BadField (λ l. not (good_line t l)) (lines_of t)

-- "over 16 store lines, unreachable ones counted": the 17th
unfoldable pub store_lines : Prog → ℕ → List Line
unfolding collect is_store
store_lines prog n = collect (λ k. cond (is_store (prog (line k))) (some (line k)) none) 0 n

unfoldable pub too_many_stores : List ℕ → Option Refusal
unfolding store_lines instr_at
too_many_stores t = map R.TooManyStores (get_elem? (store_lines (instr_at t) (lines_of t)) most_stores)

-- "target at or beyond the line count"
unfoldable pub target_of : Instr → Option Line
target_of (I.Set a v) = none
target_of (I.Copy a b) = none
target_of (I.Add a b c) = none
target_of (I.Sub a b c) = none
target_of (I.Load a x) = none
target_of (I.StoreR x a) = none
target_of (I.StoreC x v) = none
target_of I.Fence = none
target_of (I.Cas a x b c) = none
target_of (I.Branch a to) = some to
target_of (I.Jump to) = some to
target_of I.Return = none

unfoldable pub wrong_target : ℕ → Instr → Bool
unfolding target_of Option-elim
wrong_target n i = Option-elim (target_of i) false (λ (to : Line). leb n to.0)

unfoldable pub bad_target : List ℕ → Option Refusal
unfolding at_lowest wrong_target instr_at
bad_target t = at_lowest R.BadTarget (λ l. wrong_target (lines_of t) (instr_at t l)) (lines_of t)

-- "last line neither jump nor return"
unfoldable pub goes_on : Instr → Bool
goes_on (I.Set a v) = true
goes_on (I.Copy a b) = true
goes_on (I.Add a b c) = true
goes_on (I.Sub a b c) = true
goes_on (I.Load a x) = true
goes_on (I.StoreR x a) = true
goes_on (I.StoreC x v) = true
goes_on I.Fence = true
goes_on (I.Cas a x b c) = true
goes_on (I.Branch a to) = true
goes_on (I.Jump to) = false
goes_on I.Return = false

abbrev pub last_line : List ℕ → Line
last_line t = line (lines_of t - 1)

unfoldable pub no_next : List ℕ → Option Refusal
unfolding when goes_on instr_at
no_next t = when (goes_on (instr_at t (last_line t))) (R.NoNext (last_line t))

unfoldable pub unfenced_loop : List ℕ → Option Refusal
unfolding at_lowest unfenced instr_at
unfenced_loop t = at_lowest R.UnfencedLoop (unfenced (instr_at t) (lines_of t)) (lines_of t)

-- the first check that answers
unfoldable pub first_of : List (Option Refusal) → Option Refusal
first_of [] = none
first_of (none ∷ cs) = first_of cs
first_of (some r ∷ cs) = some r

abbrev pub checks : ℕ → List ℕ → List (Option Refusal)
checks m t = bad_model m ∷ no_lines t ∷ too_many_lines t ∷ ragged_table t ∷ bad_field t ∷ too_many_stores t ∷ bad_target t ∷ no_next t ∷ unfenced_loop t ∷ []

-- 2 to 10, lowest number first
unfoldable pub admission : ℕ → List ℕ → Option Refusal
unfolding first_of
admission m t = first_of (checks m t)

-- "TSO (model 0)", "PSO (model 1)"
unfoldable pub model_of : ℕ → Model
model_of m = cond (eqb m 0) Tso Pso
