-- `write_lines` meets its contract: the lines so far stand in front, and those ahead follow. Assumes nothing.
use mathlib.Core.Path.{◌≡◌}
use Prim.Native.Nat.{◌+◌, ◌*◌}
use mathlib.Core.List.{◌++◌}
use lib.ListN.{take, drop}
use Rattle.std.specs.Prelude.{Ok}
use Rattle.text.specs.Written.{table_of}
use Rattle.text.specs.Reading.{text_lines, read_lines}
use Rattle.text.specs.Steps.{judgement, lines_in}
use Rattle.text.proofs.write_lines.Given as goal

abbrev pub invariant-loop-k : goal.invariant-loop-k
invariant-loop-k l = (judgement l.k-iterator.count (read_lines (l.k-iterator.count + 2) (text_lines l.k-iterator.iter.rest.now)) ≡ Ok l.count)
    × (take (5 * l.k-iterator.count) l.table ++ table_of (lines_in (read_lines (l.k-iterator.count + 2) (text_lines l.k-iterator.iter.rest.now))) ≡ table_of (lines_in (read_lines 2 (text_lines (drop l.from l.text)))))
    × (drop (5 * l.k-iterator.count) l.table ≡ drop (5 * l.k-iterator.count) l.initial.table)
