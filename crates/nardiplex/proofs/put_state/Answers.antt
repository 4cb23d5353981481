-- Memory and the four threads, one behind the other.
use mathlib.Core.Path.{◌≡◌}
use lib.ListN.{length}
use native.Mathlib.Omega.{arith}
use borrow.Author.Rules.{rules}
use Rattle.pending.proofs.Moves.{unmapped}
use Rattle.nardiplex.proofs.Parts.{state-parts}
use Rattle.nardiplex.proofs.put_state.Goals as goal

pub returns : goal.returns
returns c =
    let s = c.args in
    let four : length s.ran.threads ≡ 4 = search (rules, unmapped) in
    let all : length c.put_thread-4.new.state ≡ 216 = omega arith in
    state-parts s.state.now c.put_sixteen.new.state c.put_thread.new.state c.put_thread-2.new.state c.put_thread-3.new.state c.put_thread-4.new.state s.ran four all
    c.put_sixteen.ensures c.put_thread.ensures c.put_thread-2.ensures c.put_thread-3.ensures c.put_thread-4.ensures
