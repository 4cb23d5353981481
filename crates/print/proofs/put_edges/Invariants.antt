-- The edges left, put on the page so far, make the page that all make.
use mathlib.Core.Path.{◌≡◌}
use Prim.Native.Nat.{◌-◌}
use mathlib.Core.List.{map}
use Rattle.bytes_out.specs.Page.{puts}
use Rattle.bytes_out.specs.Lent.{page_of}
use Rattle.printed.specs.Text.{up_from, lines_text}
use Rattle.printed.specs.Graph.{edge_fields}
use Rattle.print.proofs.put_edges.Given as goal

abbrev pub invariant-loop-i : goal.invariant-loop-i
invariant-loop-i l =
    (l.page.area.ghost_name ≡ l.initial.page.area.ghost_name)
    × (puts (page_of l.page) (lines_text (map (edge_fields l.table) (up_from l.i (l.end - l.i)))) ≡ puts (page_of l.initial.page) (lines_text (map (edge_fields l.table) (up_from l.j (l.end - l.j)))))
