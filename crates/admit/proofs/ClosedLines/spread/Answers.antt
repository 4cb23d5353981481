-- `spread` finds the lines that can be reached: the invariant is that of a search on its way.
use native.Mathlib.Omega.{arith}
use Rattle.thread.specs.Table.{line, instr_at}
use Rattle.admit.specs.Marks.{ways}
use Rattle.admit.proofs.Marked.{undone-less}
use Rattle.admit.proofs.Open.{open-found}
use Rattle.admit.proofs.Reach.{partly-start, partly-step, partly-end}
use Rattle.admit.proofs.Unfenced.{kept}
use Rattle.admit.proofs.ClosedLines.spread.Goals as goal

pub loop-l-init : goal.loop-l-init
loop-l-init c =
    let a = c.args in
    partly-start (ways a.fences (instr_at a.self.table.now)) a.self.count a.marks.now c.told-marks c.requires

pub mark_ways-requires : goal.mark_ways-requires
mark_ways-requires c =
    omega (arith, (open-found c.loop-l.marks c.loop-l.done c.args.self.count c.lowest_open.ensures c.in-Some.l c.in-Some.is).0, c.args.self.closed.lined.few_lines)

pub bounds-done-l : goal.bounds-done-l
bounds-done-l c =
    omega (arith, (open-found c.loop-l.marks c.loop-l.done c.args.self.count c.lowest_open.ensures c.in-Some.l c.in-Some.is).0, c.args.self.closed.lined.few_lines)

pub loop-l-smaller : goal.loop-l-smaller
loop-l-smaller c =
    let found = open-found c.loop-l.marks c.loop-l.done c.args.self.count c.lowest_open.ensures c.in-Some.l c.in-Some.is in
    undone-less c.loop-l.done c.in-Some.l (omega (arith, found.0, c.loop-l.invariant.done-size, c.args.self.closed.lined.few_lines)) found.2

pub loop-l-preserved : goal.loop-l-preserved
loop-l-preserved c =
    let a = c.args in
    let found = open-found c.loop-l.marks c.loop-l.done a.self.count c.lowest_open.ensures c.in-Some.l c.in-Some.is in
    rw c.mark_ways.ensures (partly-step (kept a.self.table.now a.self.count c.args.self.closed a.fences) (line c.in-Some.l) found.0 found.1 c.loop-l.invariant)

pub returns : goal.returns
returns c =
    let a = c.args in
    partly-end (ways a.fences (instr_at a.self.table.now)) a.self.count c.lowest_open.ensures c.in_default.not-Some c.loop-l.invariant
