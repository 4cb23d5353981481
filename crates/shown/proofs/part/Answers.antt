-- `part` copies the numbers of one thread: the first j places are filled.
use native.Mathlib.Omega.{arith}
use Rattle.shown.proofs.Copying.{one-copied, all-copied}
use Rattle.shown.proofs.part.Goals as goal

pub loop-j-preserved : goal.loop-j-preserved
loop-j-preserved c =
    let a = c.args in
    one-copied a.all.now a.t c.loop-j.own c.loop-j.j c.number.result c.loop-j.invariant c.loop-j-test.true c.number.ensures

pub returns : goal.returns
returns c =
    let a = c.args in
    all-copied a.all.now a.t c.loop-j.own c.loop-j.j c.loop-j.invariant (omega arith) (omega arith)
