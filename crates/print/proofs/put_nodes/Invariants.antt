-- The nodes left with the edges left, put on the page so far, make the page that all make; the edges left fit from node k on.
use mathlib.Core.Path.{◌≡◌}
use Prim.Native.Nat.{◌-◌, ◌≤◌}
use Rattle.bytes_out.specs.Page.{puts}
use Rattle.bytes_out.specs.Lent.{page_of}
use Rattle.printed.specs.Text.{up_from, lines_text}
use Rattle.printed.specs.Graph.{nodes_lines}
use Rattle.printed.specs.IsGraph.{EdgesFit}
use Rattle.print.proofs.put_nodes.Given as goal

abbrev pub invariant-loop-k : goal.invariant-loop-k
invariant-loop-k l = (l.page.area.ghost_name ≡ l.initial.page.area.ghost_name)
    × (l.j ≤ l.m)
    × EdgesFit l.edges l.n l.k (up_from l.j (l.m - l.j))
    × (puts (page_of l.page) (lines_text (nodes_lines l.nodes l.edges (up_from l.j (l.m - l.j)) (up_from l.k (l.n - l.k)))) ≡ puts (page_of l.initial.page) (lines_text (nodes_lines l.nodes l.edges (up_from 0 l.m) (up_from 0 l.n))))
