-- The known answers P1 to P11, and what they cannot tell apart, by computation: one list, one claim.
use mathlib.Core.Path.{◌≡◌, refl}
use Prim.Native.Nat.{ℕ}
use mathlib.Core.List.{List, ◌++◌, map}
use Rattle.checks.specs.Checks.{bad_model, no_lines, too_many_lines, ragged_table, bad_field, too_many_stores, bad_target, no_next, unfenced_loop}
use Rattle.agree.specs.Known.{answer, Case, known, slips, question_of, right_of}

abbrev given : Case → List ℕ
given c = answer (question_of c)

pub known-answers : map given (known ++ slips) ≡ map right_of (known ++ slips)
unfolding answer bad_model no_lines too_many_lines ragged_table bad_field too_many_stores bad_target no_next unfenced_loop
known-answers = refl
