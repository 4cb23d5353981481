-- `judge` meets its contract: the lines so far are good, and those ahead are judged. Assumes nothing.
use mathlib.Core.Path.{◌≡◌}
use Prim.Native.Nat.{◌+◌, ◌≤◌}
use lib.ListN.{length, drop}
use Rattle.text.specs.Reading.{text_lines, read_lines}
use Rattle.text.specs.Steps.{judgement}
use Rattle.text.proofs.judge.Given as goal

abbrev pub invariant-loop-line : goal.invariant-loop-line
invariant-loop-line l = (l.count + length l.line-iterator.rest.now ≤ length l.text)
    × (judgement l.count (read_lines (l.count + 2) (text_lines l.line-iterator.rest.now)) ≡ judgement 0 (read_lines 2 (text_lines (drop l.from l.text))))
