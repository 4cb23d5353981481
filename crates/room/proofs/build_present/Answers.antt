-- `build_present` builds the graph of a present thread, and clears the room of another.
use lib.ListN.{length}
use Rattle.room.proofs.Laws.{made-present, made-absent}
use Rattle.room.proofs.build_present.Goals as goal

pub returns-then-present : goal.returns-then-present
returns-then-present c =
    let a = c.args in
    made-present a.present a.model a.table.now (length a.nodes.now) (length a.edges.now) c.if-present.true c.build.ensures

pub returns : goal.returns
returns c =
    let a = c.args in
    made-absent a.present a.model a.table.now (length a.nodes.now) (length a.edges.now) c.if-present.false c.clear.ensures c.clear-2.ensures
