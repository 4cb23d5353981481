-- `unfenced_loop` refuses the lowest store line of an unfenced loop: the invariant says what is left to look at.
use mathlib.Core.Path.{sym, ◌∙◌}
use Rattle.thread.specs.declared.Refusal.TheVariants as R
use Rattle.thread.specs.Table.{instr_at}
use Rattle.checks.specs.Lines.{unfenced}
use Rattle.admit.proofs.Lowest.{loop-start, from-here, from_next, from_end}
use Rattle.admit.proofs.Unfenced.{reached-inside, reached-from}
use Rattle.admit.proofs.ClosedLines.unfenced_loop.Goals as goal

pub spread-requires : goal.spread-requires
spread-requires c =
    (reached-inside c.args.self.table.now c.args.self.count c.args.self.closed c.mark.ensures)

pub loop-l-init : goal.loop-l-init
loop-l-init c =
    loop-start c.args.self.table.now c.args.self.count c.args.self.closed.lined.lines

pub unfenced_at-requires : goal.unfenced_at-requires
unfenced_at-requires c =
    (c.loop-l-test.true, reached-from c.args.self.table.now c.args.self.count c.args.self.closed c.mark.ensures c.spread.new.marks c.spread.ensures)

pub returns-then-unfenced_at : goal.returns-then-unfenced_at
returns-then-unfenced_at c =
    let a = c.args in
    from-here R.UnfencedLoop (unfenced (instr_at a.self.table.now) a.self.count) a.self.count c.loop-l.l c.loop-l.invariant c.loop-l-test.true (sym c.unfenced_at.ensures ∙ c.if-unfenced_at.true)

pub loop-l-preserved : goal.loop-l-preserved
loop-l-preserved c =
    let a = c.args in
    from_next R.UnfencedLoop (unfenced (instr_at a.self.table.now) a.self.count) a.self.count c.loop-l.l c.loop-l.invariant c.loop-l-test.true (sym c.unfenced_at.ensures ∙ c.if-unfenced_at.false)

pub returns : goal.returns
returns c =
    let a = c.args in
    from_end R.UnfencedLoop (unfenced (instr_at a.self.table.now) a.self.count) a.self.count c.loop-l.l c.loop-l.invariant c.loop-l-test.false
