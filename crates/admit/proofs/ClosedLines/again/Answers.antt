-- `again` looks for the line among those that follow it.
use Rattle.admit.proofs.Unfenced.{again-inside, again-is}
use Rattle.admit.proofs.ClosedLines.again.Goals as goal

pub spread-requires : goal.spread-requires
spread-requires c =
    (again-inside c.args.self.table.now c.args.self.count c.args.self.closed c.args.l c.requires c.mark_ways.ensures)

pub returns : goal.returns
returns c =
    again-is c.args.self.table.now c.args.self.count c.args.self.closed c.args.l c.requires c.mark_ways.ensures c.spread.new.marks c.spread.ensures
