-- `turn` is the step of a thread that is there.
use mathlib.Core.Path.{refl, sym, ap, ◌∙◌}
use mathlib.Core.List.{List, []}
use Prim.Native.Nat.{ℕ}
use denote.Ref.{Bor}
use lib.ListN.{get_or-map}
use Rattle.lists.specs.Slices.{contents}
use Rattle.thread.specs.Numbers.{◌!◌}
use Rattle.thread.specs.Table.{line, instr_at}
use Rattle.shown.proofs.Turns.{takes-absent, takes-past}
use Rattle.run_buffered.specs.Cores.{core_step}
use Rattle.run_buffered.specs.Flat.{threads_in}
use Rattle.run_buffered.proofs.Turns.{machine-turned}
use Rattle.run_buffered.proofs.MachineTurns.turn.Goals as goal
use Rattle.run_buffered.proofs.MachineTurns.turn.Goals.{then-self-t-via-then-self-t, then-self-t-via-else-self-t+then-own-ge4}

pub returns-then-self-t-clause-turned : goal.returns-then-self-t-clause-turned
returns-then-self-t-clause-turned c =
    let m = c.args.self.now in
    let f = m.flat in
    let step = core_step m.model (contents m.tables) in
    elim c.then-self-t.branch [
      | then-self-t-via-then-self-t w ↦ (takes-absent step m.threads f.memory (threads_in f) c.args.t c.args.choice w.if-self-t.true, refl)
      | then-self-t-via-else-self-t+then-own-ge4 w ↦ (takes-past step m.threads f.memory (threads_in f) c.args.t c.args.choice w.if-own-ge4.true, refl)
    ]

pub returns-clause-turned : goal.returns-clause-turned
returns-clause-turned c =
    let m = c.args.self.now in
    let table = sym (get_or-map (λ (x : Bor (List ℕ)). x.now) m.tables c.args.t (record { ref_ptr = (0, 0); now = [] })) in
    let instr = c.instr_at-instr.ensures ∙ ap (λ (t : List ℕ). instr_at t (line (m.flat.lines ! c.args.t))) table in
    machine-turned m.model (contents m.tables) m.threads m.flat c.args.t c.args.choice c.if-self-t.false c.if-own-ge4.false c.turn.new.self c.instr_at-instr.result instr c.turn.result c.turn.ensures
