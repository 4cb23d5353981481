-- `first_bad` finds the first thread that is refused: none before thread t is.
use mathlib.Core.Path.{refl, ◌∙◌}
use Rattle.judge.specs.Answers.{judged}
use Rattle.judge.proofs.First.{refusals, bad-here, bad-later, bad-nowhere, read}
use Rattle.judge.proofs.first_bad.Goals as goal

pub returns-in-Err : goal.returns-in-Err
unfolding judged
returns-in-Err c =
    let a = c.args in
    let e = c.loop-t.invariant ∙ bad-here (refusals a.model a.tables.now) c.loop-t.t a.threads c.loop-t-test.true (c.in-Err.ensures ∙ read a.model a.tables.now c.loop-t.t) c.in-Err.refusal refl in
    rw e

pub loop-t-preserved : goal.loop-t-preserved
loop-t-preserved c =
    let a = c.args in
    c.loop-t.invariant ∙ bad-later (refusals a.model a.tables.now) c.loop-t.t a.threads c.loop-t-test.true (c.admit.ensures ∙ read a.model a.tables.now c.loop-t.t) c.in_default.is

pub returns : goal.returns
unfolding judged
returns c =
    let a = c.args in
    let e = c.loop-t.invariant ∙ bad-nowhere (refusals a.model a.tables.now) c.loop-t.t a.threads c.loop-t-test.false in
    rw e
