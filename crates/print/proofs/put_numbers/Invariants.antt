-- The numbers left, put on the page so far, make the page that all make.
use mathlib.Core.Path.{◌≡◌}
use Rattle.bytes_out.specs.Page.{puts}
use Rattle.bytes_out.specs.Lent.{page_of}
use Rattle.printed.proofs.Lines.{numbers_text}
use Rattle.print.proofs.put_numbers.Given as goal

abbrev pub invariant-loop-i : goal.invariant-loop-i
invariant-loop-i l =
    (l.page.area.ghost_name ≡ l.initial.page.area.ghost_name) × (puts (page_of l.page) (numbers_text l.table l.i l.end) ≡ puts (page_of l.initial.page) (numbers_text l.table l.from l.end))
