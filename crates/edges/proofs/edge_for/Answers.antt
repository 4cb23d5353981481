-- `edges::edge_for` meets its contract.
use mathlib.Core.Path.{ap, ◌∙◌}
use Prim.Native.Nat.{◌<◌}
use native.Mathlib.Omega.{arith}
use Rattle.lists.specs.Options.{option_of}
use Rattle.graphs.specs.Records.{records_in}
use Rattle.edges.proofs.Chunks.{there-read}
use Rattle.edges.proofs.Scan.{scan-all, scan-on, scan-found, scan-end}
use Rattle.edges.proofs.edge_for.Goals as goal

pub loop-record-init : goal.loop-record-init
loop-record-init c =
    let a = c.args in scan-all a.table.now a.node a.choice a.registers

pub returns-in-Some : goal.returns-in-Some
returns-in-Some c =
    let a = c.args in
    let k = c.loop-record.record-index in
    let h : k < records_in 7 a.table.now = omega (arith, c.records-record-items.ensures.count, c.loop-record-test.true) in
    let f = there-read a.table.now c.records-record-items.result.now c.records-record-items.ensures.records k h a.node a.choice a.registers c.fits.result c.fits.ensures in
    scan-found a.table.now a.node a.choice a.registers k (records_in 7 a.table.now) c.fits.result h f c.in-Some.e c.in-Some.is ∙ ap option_of c.loop-record.invariant

pub loop-record-preserved : goal.loop-record-preserved
loop-record-preserved c =
    let a = c.args in
    let k = c.loop-record.record-index in
    let h : k < records_in 7 a.table.now = omega (arith, c.records-record-items.ensures.count, c.loop-record-test.true) in
    let f = there-read a.table.now c.records-record-items.result.now c.records-record-items.ensures.records k h a.node a.choice a.registers c.fits.result c.fits.ensures in
    scan-on a.table.now a.node a.choice a.registers k (records_in 7 a.table.now) c.fits.result h f c.in_default.is ∙ c.loop-record.invariant

pub returns : goal.returns
returns c =
    let a = c.args in
    scan-end a.table.now a.node a.choice a.registers c.loop-record.record-index (records_in 7 a.table.now) (omega (arith, c.records-record-items.ensures.count, c.loop-record-test.false)) ∙ ap option_of c.loop-record.invariant
