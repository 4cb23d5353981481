-- `run_fine` starts the machine, and shows where the run leads it.
use mathlib.Core.Path.{ap, ◌∙◌}
use Rattle.lists.specs.Slices.{contents}
use Rattle.runs.specs.Run.{World, items, run}
use Rattle.shown.specs.declared.ThreadState.{ThreadState}
use Rattle.shown.specs.Ran.{world}
use Rattle.run_buffered.specs.Cores.{core_step, ran_stand}
use Rattle.run_buffered.specs.Flat.{threads_in}
use Rattle.run_buffered.proofs.Turns.{all_shown}
use Rattle.run_buffered.proofs.run_fine.Goals as goal

pub returns : goal.returns
returns c =
    let a = c.args in
    let m = c.carry_out-ended.new.machine in
    let f = c.start.result in
    let step = core_step a.model (contents a.tables.now) in
    all_shown m.threads m.flat c.carry_out-ended.result m.flat.memory c.show.result
    (run step (items a.schedule.now) 0 (world a.threads f.memory (threads_in f)))
    c.show.ensures
    c.carry_out-ended.ensures
    ∙ ap (λ (w : World ThreadState). ran_stand (run step (items a.schedule.now) 0 (world a.threads w.memory w.threads))) c.start.ensures
