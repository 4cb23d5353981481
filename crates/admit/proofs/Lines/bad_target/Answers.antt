-- `bad_target` refuses the lowest line with a wrong target: the invariant says what is left to look at.
use Rattle.thread.specs.declared.Refusal.TheVariants as R
use Rattle.checks.specs.Checks.{wrong_target}
use Rattle.admit.proofs.Lowest.{wrong, target-start, from-here, from_next, from_end, told}
use Rattle.admit.proofs.Lines.bad_target.Goals as goal

pub loop-l-init : goal.loop-l-init
loop-l-init c =
    target-start c.args.self.table.now c.args.self.count c.args.self.lined.lines

pub returns-then-wrong_target : goal.returns-then-wrong_target
returns-then-wrong_target c =
    let a = c.args in
    from-here R.BadTarget (wrong a.self.table.now a.self.count) a.self.count c.loop-l.l c.loop-l.invariant c.loop-l-test.true (told (wrong_target a.self.count) c.instr_at.ensures c.wrong_target.ensures c.if-wrong_target.true)

pub loop-l-preserved : goal.loop-l-preserved
loop-l-preserved c =
    let a = c.args in
    from_next R.BadTarget (wrong a.self.table.now a.self.count) a.self.count c.loop-l.l c.loop-l.invariant c.loop-l-test.true (told (wrong_target a.self.count) c.instr_at.ensures c.wrong_target.ensures c.if-wrong_target.false)

pub returns : goal.returns
returns c =
    let a = c.args in
    from_end R.BadTarget (wrong a.self.table.now a.self.count) a.self.count c.loop-l.l c.loop-l.invariant c.loop-l-test.false
