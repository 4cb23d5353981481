-- `edges::edge_near` meets its contract.
use mathlib.Core.Path.{sym, ap, ◌∙◌}
use Prim.Native.Nat.{◌<◌}
use native.Mathlib.Omega.{arith}
use Rattle.lists.specs.Options.{option_of}
use Rattle.graphs.specs.Records.{records_in}
use Rattle.edges.proofs.Chunks.{from-read, there-read}
use Rattle.edges.proofs.Sought.{near-end, near-other, near-found, near_on}
use Rattle.edges.proofs.edge_near.Goals as goal

pub returns-then-record-node : goal.returns-then-record-node
returns-then-record-node c =
    let a = c.args in
    let k = c.loop-k.k in
    let h : k < records_in 7 a.table.now = omega (arith, c.records-records.ensures.count, c.loop-k-test.true) in
    let p = from-read a.table.now c.records-records.result.now c.records-records.ensures.records k h in
    near-other a.table.now a.node a.choice a.registers.now k (records_in 7 a.table.now) h (λ q. c.if-record-node.true (p ∙ q)) ∙ ap option_of c.loop-k.invariant

pub returns-in-Some : goal.returns-in-Some
returns-in-Some c =
    let a = c.args in
    let k = c.loop-k.k in
    let h : k < records_in 7 a.table.now = omega (arith, c.records-records.ensures.count, c.loop-k-test.true) in
    let p = from-read a.table.now c.records-records.result.now c.records-records.ensures.records k h in
    let f = there-read a.table.now c.records-records.result.now c.records-records.ensures.records k h a.node a.choice a.registers.now c.fits.result c.fits.ensures in
    near-found a.table.now a.node a.choice a.registers.now k (records_in 7 a.table.now) c.fits.result h (sym p ∙ c.if-record-node.false) f c.in-Some.e c.in-Some.is ∙ ap option_of c.loop-k.invariant

pub loop-k-preserved : goal.loop-k-preserved
loop-k-preserved c =
    let a = c.args in
    let k = c.loop-k.k in
    let h : k < records_in 7 a.table.now = omega (arith, c.records-records.ensures.count, c.loop-k-test.true) in
    let p = from-read a.table.now c.records-records.result.now c.records-records.ensures.records k h in
    let f = there-read a.table.now c.records-records.result.now c.records-records.ensures.records k h a.node a.choice a.registers.now c.fits.result c.fits.ensures in
    near_on a.table.now a.node a.choice a.registers.now k (records_in 7 a.table.now) c.fits.result h (sym p ∙ c.if-record-node.false) f c.in_default.is ∙ c.loop-k.invariant

pub returns : goal.returns
returns c =
    let a = c.args in
    near-end a.table.now a.node a.choice a.registers.now c.loop-k.k (records_in 7 a.table.now) (omega (arith, c.records-records.ensures.count, c.loop-k-test.false)) ∙ ap option_of c.loop-k.invariant
