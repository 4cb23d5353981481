-- `bad_field` refuses the lowest bad line: the invariant says what is left to look at.
use mathlib.Core.Path.{sym, ap, ◌∙◌}
use mathlib.Core.Bool.{not}
use Rattle.thread.specs.declared.Refusal.TheVariants as R
use Rattle.admit.proofs.Lowest.{bad, field-start, from-here, from_next, from_end}
use Rattle.admit.proofs.Lines.bad_field.Goals as goal

pub loop-l-init : goal.loop-l-init
loop-l-init c =
    field-start c.args.self.table.now c.args.self.count c.args.self.lined.lines

pub returns-then-not-good_line : goal.returns-then-not-good_line
returns-then-not-good_line c =
    let a = c.args in
    from-here R.BadField (bad a.self.table.now) a.self.count c.loop-l.l c.loop-l.invariant c.loop-l-test.true (ap not (sym c.good_line.ensures ∙ c.if-not-good_line.true))

pub loop-l-preserved : goal.loop-l-preserved
loop-l-preserved c =
    let a = c.args in
    from_next R.BadField (bad a.self.table.now) a.self.count c.loop-l.l c.loop-l.invariant c.loop-l-test.true (ap not (sym c.good_line.ensures ∙ c.if-not-good_line.false))

pub returns : goal.returns
returns c =
    let a = c.args in
    from_end R.BadField (bad a.self.table.now) a.self.count c.loop-l.l c.loop-l.invariant c.loop-l-test.false
