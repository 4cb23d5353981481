-- `run_buffered` is the run of the buffered threads by the rules, for all inputs.
use mathlib.Core.List.{List, []}
use mathlib.Core.Option.{Option}
use mathlib.Core.Path.{ap, ◌∙◌}
use Prim.Native.Nat.{ℕ}
use lib.ListN.{get_or}
use denote.Ref.{Bor}
use Rattle.lists.specs.Slices.{contents}
use Rattle.thread.specs.declared.Model.{Model}
use Rattle.checks.specs.Checks.{admission}
use Rattle.runs.specs.Run.{Bad, items, run, threads_refused}
use Rattle.shown.specs.Ran.{world}
use Rattle.run_buffered.specs.Cores.{start_cores, core_step, ran_stand}
use Rattle.run_buffered.proofs.Agree.{ran-refused, ran-steps}
use Rattle.judge.proofs.First.{is-bad, is-fine}
use Rattle.run_buffered.proofs.run_buffered.Goals as goal

abbrev refusals : ℕ → List (Bor (List ℕ)) → ℕ → Option Bad
refusals model tables threads = threads_refused (λ t. admission model (get_or (contents tables) t [])) threads

pub returns-in-Err : goal.returns-in-Err
returns-in-Err c =
    let a = c.args in
    c.refused.ensures ∙ ran-refused a.model (contents a.tables.now) a.memory a.registers a.schedule.now a.threads _ _ (is-bad (refusals a.model a.tables.now a.threads) c.judge.ensures _ _ c.in-Err.is)

pub returns-in-Ok : goal.returns-in-Ok
returns-in-Ok c =
    let a = c.args in
    c.run_fine.ensures
    ∙ ap (λ (m : Model). ran_stand (run (core_step m (contents a.tables.now)) (items a.schedule.now) 0 (world a.threads a.memory (start_cores a.registers)))) c.model_of.ensures
    ∙ ran-steps a.model (contents a.tables.now) a.memory a.registers a.schedule.now a.threads (is-fine (refusals a.model a.tables.now a.threads) c.judge.ensures c.in-Ok.is)
