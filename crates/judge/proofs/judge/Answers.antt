-- `judge` gives 14, then the first thread that is refused.
use mathlib.Core.Path.{sym, ap, ◌∙◌}
use Rattle.judge.specs.Answers.{judged}
use Rattle.judge.proofs.First.{refusals, wrong-threads, right-threads, few_threads}
use Rattle.judge.proofs.judge.Goals as goal

pub first_bad-requires : goal.first_bad-requires
first_bad-requires c = few_threads c.args.threads (sym c.bad_threads.ensures ∙ c.if-bad_threads.false)

pub returns-then-bad_threads : goal.returns-then-bad_threads
returns-then-bad_threads c =
    let a = c.args in
    wrong-threads (refusals a.model a.tables.now) a.threads (sym c.bad_threads.ensures ∙ c.if-bad_threads.true)

pub returns : goal.returns
returns c =
    let a = c.args in
    c.first_bad.ensures ∙ ap judged (sym (right-threads (refusals a.model a.tables.now) a.threads (sym c.bad_threads.ensures ∙ c.if-bad_threads.false)))
