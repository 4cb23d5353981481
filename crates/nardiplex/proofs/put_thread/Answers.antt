-- The five parts of a thread, one behind the other.
use Rattle.nardiplex.proofs.Parts.{thread-parts}
use Rattle.nardiplex.proofs.put_thread.Goals as goal

pub returns : goal.returns
returns c =
    let s = c.args in
    thread-parts s.at s.state.now c.put_one.new.state c.put_sixteen.new.state c.put_one-2.new.state c.put_sixteen-2.new.state c.put_sixteen-3.new.state s.shown
    c.put_one.ensures c.put_sixteen.ensures c.put_one-2.ensures c.put_sixteen-2.ensures c.put_sixteen-3.ensures
