-- `turn` is the run's item.
use mathlib.Core.Path.{refl, sym, ◌∙◌}
use Rattle.held.proofs.Laws.{item-none, item-some}
use Rattle.held_steps.proofs.CarrierTurns.turn.Goals as goal

pub returns-in_default-clause-turned : goal.returns-in_default-clause-turned
returns-in_default-clause-turned c =
    let s = c.args.self.now in
    (item-none s.m c.args.t s.tables c.args.choice (sym c.item_among.ensures ∙ c.in_default.is), refl)

pub returns-clause-turned : goal.returns-clause-turned
returns-clause-turned c =
    let s = c.args.self.now in
    item-some s.m c.args.t s.tables c.args.choice c.in-Some.next (sym c.item_among.ensures ∙ c.in-Some.is)
