-- A turn of the machine is the step that the run takes, and what a run leaves is shown.
use mathlib.Core.Path.{◌≡◌, ap, ◌∙◌}
use mathlib.Core.Bool.{Bool, true, false}
use mathlib.Core.Option
use mathlib.Core.Option.{Option, none, some}
use Prim.Native.Nat.{ℕ, ◌-◌, ◌<◌}
use native.Mathlib.Omega.{arith}
use mathlib.Core.List.{List, [], ◌++◌}
use lib.ListN.{length, get_or, take, length-take, replicate}
use Rattle.thread.specs.declared.Model.{Model}
use Rattle.thread.specs.declared.Instr.{Instr}
use Rattle.thread.specs.Numbers.{◌!◌}
use Rattle.thread.specs.Table.{line, instr_at}
use Rattle.runs.specs.Run.{Ended, In, World, Stand, takes}
use Rattle.runs.specs.Machine.{Turned, Led}
use Rattle.shown.specs.declared.ThreadState.{ThreadState}
use Rattle.shown.specs.Ran.{nobody_state, world}
use Rattle.shown.proofs.Parts.{four-at}
use Rattle.shown.proofs.Turns.{takes_none, takes-some}
use Rattle.buffer.specs.declared.Moved.{Moved}
use Rattle.buffer.specs.Step.{stepped}
use Rattle.run_buffered.specs.declared.Flat.{Flat}
use Rattle.run_buffered.specs.Cores.{after, core_step, ran_of_present, reached, with_absent, ran_stand}
use Rattle.run_buffered.specs.Flat.{thread_in, threads_in, all_in, after_step, TurnIs}

module _ (m : Model) (tables : List (List ℕ)) (count : ℕ) (f : Flat) (t choice : ℕ) (present : t < count) (four : t < 4) where
  abbrev step : ℕ → ℕ → In ThreadState → Option (In ThreadState)
  step = core_step m tables

  abbrev stands : World ThreadState → World ThreadState
  stands w = world count w.memory w.threads

  module _ (f' : Flat) where
    turned-by : (o : Option Moved) → step t choice (record { memory = f.memory; own = get_or (threads_in f) t nobody_state }) ≡ Option.map after o
        → (ok : Bool) → Turned (Option.map (after_step f t) o) (all_in f) ok (all_in f')
        → Turned (takes step (stands (all_in f)) t choice) (stands (all_in f)) ok (stands (all_in f'))
    turned-by none s true e = cc
    turned-by none s false e = (takes_none step count f.memory (threads_in f) t choice nobody_state present four s, ap stands e.1)
    turned-by (some x) s true e =
        let q : after_step f t x ≡ all_in f' = cc in
        takes-some step count f.memory (threads_in f) t choice nobody_state present four (after x) s ∙ ap (λ (w : World ThreadState). some (stands w)) q
    turned-by (some x) s false e = let z = e.0 in cc

    -- a turn in place is a turn of the machine
    pub machine-turned : (i : Instr) → i ≡ instr_at (get_or tables t []) (line (f.lines ! t)) → (ok : Bool) → TurnIs m i t choice f ok f'
        → Turned (takes step (stands (all_in f)) t choice) (stands (all_in f)) ok (stands (all_in f'))
    unfolding core_step
    machine-turned i e ok is =
        turned-by (stepped m i choice f.memory (thread_in f t)) (rw (four-at (thread_in f) t nobody_state four, ← e)) ok is

-- the end, with the threads that are not there
pub all_shown : (count : ℕ) (f : Flat) (ended : Ended) (M : List ℕ) (shown : List ThreadState) (e : Stand ThreadState)
    → shown ≡ take count (threads_in f) ++ replicate (4 - count) nobody_state → Led e ended (world count M (threads_in f))
    → ran_of_present ended M shown ≡ ran_stand e
unfolding ran_stand reached
all_shown count f ended M shown e k led =
    let n : 4 - count ≡ 4 - length (take count (threads_in f)) = omega (arith, length-take count (threads_in f)) in
    ap (ran_of_present ended M) (k ∙ ap (λ (n : ℕ). take count (threads_in f) ++ replicate n nobody_state) n)
    ∙ (λ j. with_absent (ran_of_present (led.ended j) (led.world j).memory (led.world j).threads))
