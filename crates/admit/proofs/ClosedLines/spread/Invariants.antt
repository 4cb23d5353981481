-- `spread` finds the lines that can be reached: the invariant is that of a search on its way.
use Rattle.thread.specs.Table.{instr_at}
use Rattle.admit.specs.Marks.{ways}
use Rattle.admit.proofs.Marked.{undone}
use Rattle.admit.proofs.Reach.{Partly}
use Rattle.admit.proofs.ClosedLines.spread.Given as goal

abbrev pub invariant-loop-l : goal.invariant-loop-l
invariant-loop-l l = Partly (ways l.fences (instr_at l.self.table.now)) l.self.count l.initial.marks l.marks l.done

abbrev pub decreases-loop-l : goal.decreases-loop-l
decreases-loop-l l = undone l.done
