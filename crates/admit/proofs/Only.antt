-- Nothing is left open: two answers that keep the promise are equal.
use mathlib.Core.Path.{◌≡◌}
use Prim.Native.Nat.{ℕ}
use mathlib.Core.List.{List}
use Rattle.checks.specs.Checks.{admission}
use Rattle.admit.specs.Answer.{Answer, answer}

pub only : (m : ℕ) (t : List ℕ) (r q : Answer) → r ≡ answer (admission m t) → q ≡ answer (admission m t) → r ≡ q
only m t r q d e = cc
