-- `waiting_at` fills sixteen places with the store lines that wait, and sixteen with their auxiliary values.
use Rattle.states.specs.States.{name_at, value_at}
use Rattle.states.proofs.Sixteen.{Filled}
use Rattle.states.proofs.waiting_at.Given as goal

abbrev pub invariant-loop-i : goal.invariant-loop-i
invariant-loop-i l = Filled (name_at l.nodes l.start l.count) l.names l.i × Filled (value_at l.auxiliaries l.nodes l.start l.count) l.values l.i
