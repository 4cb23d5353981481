-- `waiting_at` fills sixteen places with the store lines that wait, and sixteen with their auxiliary values.
use native.Mathlib.Omega.{arith}
use Rattle.states.specs.States.{name_at, value_at, names, values}
use Rattle.states.proofs.Sixteen.{one_more, all-filled}
use Rattle.states.proofs.waiting_at.Goals as goal

pub loop-i-preserved : goal.loop-i-preserved
loop-i-preserved c =
    let a = c.args in (
      one_more (name_at a.nodes.now a.start a.count) c.loop-i.names c.loop-i.i c.name_at.result c.loop-i.invariant.0 c.loop-i-test.true c.name_at.ensures,
      one_more (value_at a.auxiliaries.now a.nodes.now a.start a.count) c.loop-i.values c.loop-i.i c.value_at.result c.loop-i.invariant.1 c.loop-i-test.true c.value_at.ensures,
    )

pub returns : goal.returns
unfolding names values
returns c =
    let a = c.args in
    λ i. (
      all-filled (name_at a.nodes.now a.start a.count) c.loop-i.names c.loop-i.i c.loop-i.invariant.0 (omega arith) (omega arith) i,
      all-filled (value_at a.auxiliaries.now a.nodes.now a.start a.count) c.loop-i.values c.loop-i.i c.loop-i.invariant.1 (omega arith) (omega arith) i,
    )
