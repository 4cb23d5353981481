-- A turn in flat lists that is no step stops the run where it stands.
use mathlib.Core.Path.{◌≡◌, sym, ap, ◌∙◌}
use mathlib.Core.Bool.{true, false}
use Prim.Native.Nat.{ℕ, ◌+◌, ◌<◌}
use mathlib.Core.List.{List, []}
use lib.ListN.{length, get_or}
use Rattle.thread.specs.declared.Model.{Model}
use Rattle.thread.specs.declared.Instr.{Instr}
use Rattle.thread.specs.Numbers.{◌!◌}
use Rattle.thread.specs.Table.{line, instr_at}
use Rattle.runs.specs.Run.{World}
use Rattle.shown.specs.declared.ThreadState.{ThreadState}
use Rattle.shown.proofs.Turns.{left, stopped, turn-refused}
use Rattle.run_buffered.specs.declared.Flat.{Flat}
use Rattle.run_buffered.specs.Cores.{core_step}
use Rattle.run_buffered.specs.Flat.{threads_in, TurnIs}
use Rattle.run_buffered.proofs.Turns.{machine-turned}

module _ (m : Model) (tables : List (List ℕ)) (count : ℕ) (s : List ℕ) (p n : ℕ) (f : Flat) (lt : p + 1 < length s) (present : s ! p < count) (four : s ! p < 4)
    (i : Instr) (e : i ≡ instr_at (get_or tables (s ! p) []) (line (f.lines ! (s ! p)))) (f' : Flat) (is : TurnIs m i (s ! p) (s ! (p + 1)) f false f') where
  pub flat-refused : left (core_step m tables) count s p n f.memory (threads_in f) ≡ stopped (core_step m tables) count s n f'.memory (threads_in f')
  flat-refused =
      let t = machine-turned m tables count f (s ! p) (s ! (p + 1)) present four f' i e false is in
      turn-refused (core_step m tables) count s p n f.memory (threads_in f) lt t.0 ∙ ap (λ (w : World ThreadState). record { world = w; steps = n; stopped = true }) (sym t.1)
