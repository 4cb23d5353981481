-- `edges::start_of` meets its contract.
use Prim.Native.Nat.{◌<◌}
use native.Mathlib.Omega.{arith}
use Rattle.lists.proofs.Tests.{lt-true, lt-false}
use Rattle.graphs.specs.Records.{records_in}
use Rattle.edges.specs.Sought.{from_at, lower, start_of}
use Rattle.edges.proofs.Chunks.{from-read}
use Rattle.edges.proofs.Halving.{middle, leads-up, leads-down, leads-end}
use Rattle.edges.proofs.Sought.{starts}
use Rattle.edges.proofs.start_of.Goals as goal

pub loop-lo-init : goal.loop-lo-init
loop-lo-init c =
    (omega arith, omega (arith, c.records-records.ensures.count), rw c.records-records.ensures.count (starts c.args.table.now c.args.node))

pub bounds-records-mid : goal.bounds-records-mid
bounds-records-mid c = omega (arith, c.records-records.ensures.count, c.loop-lo.invariant.1, c.loop-lo-test.true)

pub loop-lo-preserved-then-records-mid : goal.loop-lo-preserved-then-records-mid
loop-lo-preserved-then-records-mid c =
    let a = c.args in
    let mid = middle c.loop-lo.lo c.loop-lo.hi in
    let h : mid < records_in 7 a.table.now = omega (arith, c.loop-lo.invariant.1, c.loop-lo-test.true) in
    let p = from-read a.table.now c.records-records.result.now c.records-records.ensures.records mid h in (
      omega arith,
      c.loop-lo.invariant.1,
      leads-up (lower a.table.now a.node) c.loop-lo.lo c.loop-lo.hi (start_of a.table.now a.node) c.loop-lo-test.true (lt-true (from_at a.table.now mid) a.node.0 (rw p at c.if-records-mid.true)) c.loop-lo.invariant.2,
    )

pub loop-lo-preserved : goal.loop-lo-preserved
loop-lo-preserved c =
    let a = c.args in
    let mid = middle c.loop-lo.lo c.loop-lo.hi in
    let h : mid < records_in 7 a.table.now = omega (arith, c.loop-lo.invariant.1, c.loop-lo-test.true) in
    let p = from-read a.table.now c.records-records.result.now c.records-records.ensures.records mid h in (
      omega arith,
      omega arith,
      leads-down (lower a.table.now a.node) c.loop-lo.lo c.loop-lo.hi (start_of a.table.now a.node) c.loop-lo-test.true (lt-false (from_at a.table.now mid) a.node.0 (rw p at c.if-records-mid.false)) c.loop-lo.invariant.2,
    )

pub returns : goal.returns
returns c =
    let a = c.args in
    leads-end (lower a.table.now a.node) c.loop-lo.lo c.loop-lo.hi (start_of a.table.now a.node) c.loop-lo-test.false c.loop-lo.invariant.2
