-- What `admit` answers: the refusal that the checks give, or that the table is accepted.
use Rattle.std.proofs.Math.Option.{Option, none, some}
use Rattle.std.specs.Prelude.{ℕ, ⊤, List, [], ◌∷◌, Result, Ok, Err}
use Rattle.thread.specs.declared.Refusal.{Refusal}
use Rattle.checks.specs.Checks.{bad_field, too_many_stores, bad_target, no_next, unfenced_loop}

abbrev pub Answer : Type 0
Answer = Result ⊤ Refusal

unfoldable pub answer : Option Refusal → Answer
answer none = Ok tt
answer (some r) = Err r

-- 6 to 10, the checks of a table's lines
abbrev pub line_checks : List ℕ → List (Option Refusal)
line_checks t = bad_field t ∷ too_many_stores t ∷ bad_target t ∷ no_next t ∷ unfenced_loop t ∷ []
