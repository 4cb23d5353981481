-- What is built is printed.
use mathlib.Core.Path.{refl}
use Rattle.show.proofs.Laws.{table-refused, table-graph}
use Rattle.show.proofs.show_table.Goals as goal

pub returns-in-Err : goal.returns-in-Err
returns-in-Err c =
    table-refused c.in-Err.ensures c.in-Err.refusal refl c.show_refusal.ensures

pub returns-in-Ok : goal.returns-in-Ok
returns-in-Ok c =
    table-graph c.in-Ok.ensures c.in-Ok.built.nodes c.in-Ok.built.edges refl c.print.ensures
