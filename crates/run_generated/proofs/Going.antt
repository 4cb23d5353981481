-- Where the run leads, and what is shown there.
use mathlib.Core.Path.{◌≡◌, refl, ap, ◌∙◌}
use mathlib.Core.Bool.{Bool, true, false}
use Prim.Native.Nat.{ℕ, ◌≤◌, ◌<◌}
use mathlib.Core.List.{List}
use native.Mathlib.Omega.{arith}
use lib.ListN.{length, get_or, take, length-take}
use lib.Seq.{get_or-take}
use lib.Dec.{ltb}
use Rattle.lists.proofs.Tests.{true-lt}
use Rattle.thread.specs.Numbers.{zeros}
use Rattle.runs.specs.Run.{Ended, World, Stand}
use Rattle.runs.specs.Machine.{Led}
use Rattle.generated.specs.declared.Generated.{Generated}
use Rattle.shown.specs.declared.Ran.{Ran}
use Rattle.shown.specs.Ran.{world}
use Rattle.flat.specs.Flat.{flat}
use Rattle.states.specs.States.{state_of, no_thread, ran_at}
use Rattle.run_generated.specs.Ran.{Goes}
use Rattle.run_generated.specs.Threads.{start_four}

-- four threads held flat, at their start
pub flat_start : (all : List ℕ) → flat (zeros 4) all (zeros 256) ≡ start_four all
flat_start all = refl

-- only the present threads are shown, which are among the first k
state-taken : (count k t : ℕ) (nodes : List ℕ) (ts : List Generated) → count ≤ k → state_of count t nodes (get_or ts t no_thread) ≡ state_of count t nodes (get_or (take k ts) t no_thread)
unfolding state_of
state-taken count k t nodes ts few = go (ltb t count) refl
  where
    go : (b : Bool) → ltb t count ≡ b → state_of count t nodes (get_or ts t no_thread) ≡ state_of count t nodes (get_or (take k ts) t no_thread)
    go true e = let h : t < count = true-lt t count e in let h' : t < k = omega arith in rw (get_or-take k ts t no_thread h')
    go false e = rw e

pub goes : (count k : ℕ) (nodes : ℕ → List ℕ) (e : Stand Generated) (x : Ended) (M : List ℕ) (ts : List Generated) (r : Ran) → Led e x (world k M ts) → length e.world.threads ≡ count → r ≡ ran_at count nodes x M ts → Goes count nodes e r
goes count k nodes e x M ts r led n g =
    let there : length (take k ts) ≡ count = ap (λ (w : World Generated). length w.threads) led.world ∙ n in
    let few : count ≤ k = omega (arith, there, length-take k ts) in
    record {
      present = n;
      ran = g ∙ rw (led.ended, ← led.world, state-taken count k 0 (nodes 0) ts few, state-taken count k 1 (nodes 1) ts few, state-taken count k 2 (nodes 2) ts few, state-taken count k 3 (nodes 3) ts few);
    }
