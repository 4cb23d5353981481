-- `held::item_among` meets its contract: the step along the thread's own edges is the run's item.
use Rattle.std.proofs.Common.{◌≡◌, ◌∙◌, length}
use native.Mathlib.Omega.{arith}
use Rattle.pending.proofs.Moves.{unmapped}
use Rattle.held.proofs.Laws.{item-absent, item-done}
use Rattle.held.proofs.item_among.Goals as goal

pub returns-in_err-table : goal.returns-in_err-table
returns-in_err-table c =
    let full : length c.args.start.threads ≡ 4 = search unmapped in
    let four : length c.args.tables ≡ 4 = search unmapped in
    let a = c.args in
    c.from_residual.ensures ∙ item-absent a.start a.t full (omega (arith, four, c.in_err-table.ensures.lookup.3)) a.tables a.choice

pub returns : goal.returns
returns c =
    let a = c.args in
    let found = c.in_ok-table.ensures.lookup in
    item-done a.start a.t a.tables a.choice c.in_ok-table.table.now c.step_among.result found.3.0 found.1 c.step_among.ensures
