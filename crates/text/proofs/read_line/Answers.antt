-- `read_line` meets its contract: a line that lacks its line feed is bad. Assumes nothing.
use mathlib.Core.Path.{◌∙◌}
use Rattle.text.proofs.Judging.{line-ended, line-lacks, line-empty}
use Rattle.text.proofs.read_line.Goals as goal

pub returns-in_err-last : goal.returns-in_err-last
returns-in_err-last c = c.from_residual.ensures ∙ line-empty c.args.line.now c.in_err-last.ensures.cases

pub returns-then-last-ne-FEED : goal.returns-then-last-ne-FEED
returns-then-last-ne-FEED c = line-lacks c.args.line.now c.in_ok-last.body.now c.in_ok-last.last.now c.in_ok-last.ensures.cases.0 c.if-last-ne-FEED.true

pub returns : goal.returns
returns c = c.read_body.ensures ∙ line-ended c.args.line.now c.in_ok-last.body.now c.in_ok-last.last.now c.in_ok-last.ensures.cases.0 c.if-last-ne-FEED.false
