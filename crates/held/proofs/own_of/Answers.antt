-- `held::own_of` meets its contract.
use mathlib.Core.Path.{◌≡◌, sym, ap}
use lib.ListN.{length}
use Rattle.lists.specs.Options.{option_of}
use Rattle.pending.proofs.Moves.{unmapped}
use Rattle.held.proofs.Laws.{own-there, own-absent}
use Rattle.held.proofs.own_of.Goals as goal

pub returns-then-present : goal.returns-then-present
unfolding option_of
returns-then-present c =
    let full : length c.args.m.threads ≡ 4 = search unmapped in
    sym (ap option_of (own-there c.args.m c.args.t full c.present.result c.present.ensures c.if-present.true _))

pub returns-else-present : goal.returns-else-present
unfolding option_of
returns-else-present c =
    let full : length c.args.m.threads ≡ 4 = search unmapped in
    sym (ap option_of (own-absent c.args.m c.args.t full c.present.result c.present.ensures c.if-present.false))
