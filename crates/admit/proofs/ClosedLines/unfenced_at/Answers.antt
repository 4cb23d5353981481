-- `unfenced_at` looks at a line that may be a store line of an unfenced loop.
use mathlib.Core.Path.{sym, ◌∙◌}
use Rattle.thread.specs.Table.{is_store}
use Rattle.admit.proofs.Lowest.{told}
use Rattle.admit.proofs.Unfenced.{not-stored, not-reached, unfenced-is}
use Rattle.admit.proofs.ClosedLines.unfenced_at.Goals.{then-is_store, else-is_store}
use Rattle.admit.proofs.ClosedLines.unfenced_at.Goals as goal

pub returns-then-reached-l : goal.returns-then-reached-l
returns-then-reached-l c =
    let a = c.args in
    elim c.if-is_store.branch [
      | then-is_store w ↦ unfenced-is a.self.table.now a.self.count c.args.self.closed a.reached.now c.requires.1 a.l (told is_store c.instr_at.ensures c.is_store.ensures w.if-is_store.true) (sym w.value-is ∙ c.if-reached-l.true) c.again.ensures
      | else-is_store w ↦ cc
    ]

pub returns-else-reached-l : goal.returns-else-reached-l
returns-else-reached-l c =
    let a = c.args in
    elim c.if-is_store.branch [
      | then-is_store w ↦ c.if-reached-l.false ∙ not-reached a.self.table.now a.self.count c.args.self.closed a.reached.now c.requires.1 a.l (told is_store c.instr_at.ensures c.is_store.ensures w.if-is_store.true) (sym w.value-is ∙ c.if-reached-l.false)
      | else-is_store w ↦ c.if-reached-l.false ∙ not-stored a.self.table.now a.self.count c.args.self.closed a.reached.now c.requires.1 a.l (told is_store c.instr_at.ensures c.is_store.ensures w.if-is_store.false)
    ]
