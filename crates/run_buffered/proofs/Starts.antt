-- The threads as the run starts.
use mathlib.Core.Path.{◌≡◌, refl}
use mathlib.Core.Option.{some}
use Prim.Native.Nat.{ℕ, zero, suc, ◌≤◌}
use native.Mathlib.Omega.{arith}
use mathlib.Core.List.{List}
use lib.ListN.{take}
use Rattle.lists.specs.Lists.{each, listed, collect}
use Rattle.thread.specs.Numbers.{filled}
use Rattle.buffered.specs.RunBuffered.{start_thread}
use Rattle.buffer.specs.States.{core_of}
use Rattle.shown.specs.Ran.{start_of}
use Rattle.run_buffered.specs.Cores.{start_cores}

module _ (all : List ℕ) (m : ℕ) (tables : List (List ℕ)) (M sched : List ℕ) where
  pub begin-cores : (count : ℕ) → count ≤ 4 → take count (start_cores all) ≡ each (λ t b. core_of b) (collect (λ t. some (start_thread (start_of m count tables M all sched) t)) 0 count)
  unfolding each collect listed start_thread core_of filled
  begin-cores zero h = refl
  begin-cores (suc zero) h = refl
  begin-cores (suc (suc zero)) h = refl
  begin-cores (suc (suc (suc zero))) h = refl
  begin-cores (suc (suc (suc (suc zero)))) h = refl
  begin-cores (suc (suc (suc (suc (suc n))))) h = absurd (omega arith)
