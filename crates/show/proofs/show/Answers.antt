-- What is read is built and printed.
use mathlib.Core.Path.{refl}
use Rattle.show.proofs.Laws.{text-refused, text-read}
use Rattle.show.proofs.show.Goals as goal

pub returns-in-Err : goal.returns-in-Err
returns-in-Err c =
    text-refused c.in-Err.ensures c.in-Err.refusal refl c.clear.ensures c.clear-in-Err.ensures c.show_refusal.ensures

pub returns-in-Ok : goal.returns-in-Ok
returns-in-Ok c =
    text-read c.in-Ok.ensures c.in-Ok.model c.in-Ok.lines refl (rw c.min-end.ensures at c.show_table.ensures)
