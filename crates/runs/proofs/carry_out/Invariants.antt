-- `carry_out` does the items in order: the whole run is what is left of it at each turn.
use mathlib.Core.Path.{◌≡◌}
use Prim.Native.Nat.{◌*◌}
use Rattle.runs.proofs.Items.{left}
use Rattle.runs.proofs.carry_out.Given as goal

abbrev pub invariant-loop-done : goal.invariant-loop-done
invariant-loop-done g l =
    (g.M.Turns.step l.machine ≡ g.M.Turns.step l.initial.machine)
    × (left (g.M.Turns.step l.initial.machine) l.schedule 0 0 (g.M.Turns.world l.initial.machine) ≡ left (g.M.Turns.step l.initial.machine) l.schedule (2 * l.done) l.done (g.M.Turns.world l.machine))
