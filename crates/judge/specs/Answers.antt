-- Whether a run is refused, as the code answers it.
use Rattle.std.proofs.Math.Option.{Option, none, some}
use Rattle.runs.specs.Run.{Bad}
use Rattle.std.specs.Prelude.{ℕ, ⊤, Result, Ok, Err}
use Rattle.thread.specs.declared.Refusal.{Refusal}

-- no thread is refused, or the first that is
abbrev pub Judged : Type 0
Judged = Result ⊤ (ℕ × Refusal)

unfoldable pub judged : Option Bad → Judged
judged none = Ok tt
judged (some b) = Err (b.thread, b.refusal)
