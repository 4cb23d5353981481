-- `held::moved` meets its contract.
use mathlib.Core.Path.{◌≡◌, ◌∙◌}
use lib.ListN.{length}
use Rattle.pending.proofs.Moves.{unmapped}
use Rattle.held.proofs.Laws.{present, moved-absent, moved_still, moved-done}
use Rattle.held.proofs.moved.Goals as goal

pub returns-in_err-own : goal.returns-in_err-own
returns-in_err-own c =
    let full : length c.args.m.threads ≡ 4 = search unmapped in
    c.from_residual.ensures ∙ moved-absent c.args.m c.args.t full c.own_of.result c.own_of.ensures c.in_err-own.was c.args.found

pub returns-in_err-change : goal.returns-in_err-change
returns-in_err-change c =
    let full : length c.args.m.threads ≡ 4 = search unmapped in
    c.from_residual-in_err-change.ensures ∙ moved_still c.args.m c.args.t full c.own_of.result c.own_of.ensures c.in_ok-own.own c.in_ok-own.was c.args.found c.change_along.result c.change_along.ensures c.in_err-change.was

pub bounds-threads-t : goal.bounds-threads-t
bounds-threads-t c =
    let full : length c.args.m.threads ≡ 4 = search unmapped in
    (present c.args.m c.args.t full c.own_of.result c.own_of.ensures c.in_ok-own.own c.in_ok-own.was).1

pub returns : goal.returns
returns c =
    let full : length c.args.m.threads ≡ 4 = search unmapped in
    moved-done c.args.m c.args.t full c.own_of.result c.own_of.ensures c.in_ok-own.own c.in_ok-own.was c.args.found c.change_along.result c.in_ok-change.change c.apply-after.result c.change_along.ensures c.in_ok-change.was c.apply-after.ensures
