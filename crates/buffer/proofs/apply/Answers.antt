-- `apply` gives back what the change leaves in lent lists.
use mathlib.Core.Path.{sym, ap, ◌∙◌}
use Rattle.lists.specs.Options.{option_of}
use Rattle.buffer.specs.Step.{applied}
use Rattle.buffer.proofs.Cases.{left-none, left-some}
use Rattle.buffer.proofs.apply.Goals as goal

pub returns-in_err-next : goal.returns-in_err-next
unfolding option_of
returns-in_err-next c =
    let a = c.args in
    c.from_residual.ensures ∙ ap option_of (sym (left-none a.memory a.core _ _ _ _ (applied a.change a.model a.memory a.core) c.in_err-next.ensures))

pub returns : goal.returns
unfolding option_of
returns c =
    let a = c.args in
    ap option_of (sym (left-some a.memory a.core _ _ _ _ (applied a.change a.model a.memory a.core) c.in_ok-next.next c.in_ok-next.ensures))
