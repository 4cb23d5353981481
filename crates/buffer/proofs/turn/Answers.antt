-- `turn` decides and applies, where the pairs have their 16 places.
use mathlib.Core.Path.{ap, ◌∙◌}
use mathlib.Core.Option as maybe
use Rattle.std.specs.Prelude.{Option}
use Rattle.chosen.specs.Decide.{thread_of}
use Rattle.buffer.specs.declared.Moved.{Moved}
use Rattle.buffer.specs.declared.Turned.{Turned}
use Rattle.buffer.specs.States.{left, left_by}
use Rattle.buffer.proofs.Cases.{stepped-none, stepped-some, turned-names, turned-values, turned-step}
use Rattle.buffer.proofs.turn.Goals as goal
use Rattle.buffer.proofs.turn.Goals.{then-names-ne16-via-then-names-ne16, then-names-ne16-via-else-names-ne16+then-values-ne16}

pub returns-then-names-ne16 : goal.returns-then-names-ne16
returns-then-names-ne16 c =
    let a = c.args in
    let own = thread_of a.line a.count a.regs.now a.names.now a.values.now in
    elim c.then-names-ne16.branch [
      | then-names-ne16-via-then-names-ne16 w ↦ ap (λ (o : maybe.Option Moved). left_by o a.memory.now own) (turned-names a.model a.instr a.choice a.memory.now own w.if-names-ne16.true)
      | then-names-ne16-via-else-names-ne16+then-values-ne16 w ↦ ap (λ (o : maybe.Option Moved). left_by o a.memory.now own) (turned-values a.model a.instr a.choice a.memory.now own w.if-names-ne16.false w.if-values-ne16.true)
    ]

pub returns-in_err-change : goal.returns-in_err-change
returns-in_err-change c =
    let a = c.args in
    let own = thread_of a.line a.count a.regs.now a.names.now a.values.now in
    ap (λ (t : Option Turned). left t a.memory.now a.regs.now a.names.now a.values.now) c.from_residual.ensures
    ∙ ap (λ (o : maybe.Option Moved). left_by o a.memory.now own) (stepped-none a.model a.instr a.choice a.memory.now own c.in_err-change.ensures ∙ turned-step a.model a.instr a.choice a.memory.now own c.if-names-ne16.false c.if-values-ne16.false)

pub returns : goal.returns
returns c =
    let a = c.args in
    let own = thread_of a.line a.count a.regs.now a.names.now a.values.now in
    c.apply_lent.ensures
    ∙ ap (λ (o : maybe.Option Moved). left_by o a.memory.now own) (stepped-some a.model a.instr a.choice a.memory.now own c.in_ok-change.change c.in_ok-change.ensures ∙ turned-step a.model a.instr a.choice a.memory.now own c.if-names-ne16.false c.if-values-ne16.false)
