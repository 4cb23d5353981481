-- What an answer says of the refusal that it was made of, and of the lines where there is none.
use mathlib.Core.Path.{◌≡◌, refl, sym, ap, ◌∙◌}
use mathlib.Core.Option.{Option, none, some}
use Prim.Native.Nat.{ℕ, ◌<◌}
use mathlib.Core.List.{List}
use Rattle.std.specs.Prelude.{Ok, Err}
use Rattle.lists.proofs.Lists.{all-at}
use Rattle.thread.specs.declared.Line.{Line}
use Rattle.thread.specs.declared.Refusal.{Refusal}
use Rattle.thread.specs.Table.{lines_of}
use Rattle.checks.specs.Checks.{bad_target, no_next}
use Rattle.checks.proofs.Given.{inside-lines}
use Rattle.admit.specs.Answer.{Answer, answer}
use Rattle.admit.specs.Marks.{Lined, Closed}

module _ (o : Option Refusal) {a : Answer} (e : a ≡ answer o) where
  pub answer-accepted : a ≡ Ok tt → o ≡ none
  unfolding answer
  answer-accepted f = go o (sym e ∙ f)
    where
      go : (o : Option Refusal) → answer o ≡ Ok tt → o ≡ none
      go none h = refl
      go (some r) h = cc

  pub answer-refused : (r : Refusal) → a ≡ Err r → o ≡ some r
  unfolding answer
  answer-refused r f = go o (sym e ∙ f)
    where
      go : (o : Option Refusal) → answer o ≡ Err r → o ≡ some r
      go none h = cc
      go (some q) h = let p : q ≡ r = cc in ap some p

-- where 8 and 9 are silent, the lines lead to each other alone
pub closed : (t : List ℕ) (n : ℕ) {a b : Answer} → Lined t n → a ≡ answer (bad_target t) → a ≡ Ok tt → b ≡ answer (no_next t) → b ≡ Ok tt → Closed t n
closed t n h d e f g =
    let stays = inside-lines t (answer-accepted (bad_target t) d e) (answer-accepted (no_next t) f g) in
    record { lined = h; stays = λ l k b m. rw h.lines (all-at (λ (k : Line). k.0 < lines_of t) m (stays l (rw h.lines at b))) }
