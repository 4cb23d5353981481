-- `held::few` meets its contract: each call gives the edge of its place.
use Rattle.std.proofs.Common.{rules, tests}
use Rattle.held.specs.Few.{idle, placed, few}
use Rattle.held.proofs.Records.{made-list}
use Rattle.held.proofs.few.Goals as goal

pub returns : goal.returns
unfolding few
returns c = made-list _ _ (placed c.args.table.now) (λ k y q h. search (rules, tests)) c.from_fn.result idle 8 c.from_fn.ensures.items
