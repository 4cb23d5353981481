-- What the two functions promise, and demand 3, give that what they return agrees.
use mathlib.Core.Path.{◌≡◌}
use Prim.Native.Nat.{ℕ}
use mathlib.Core.List.{List}
use lib.ListN.{get_or-map}
use Rattle.runs.specs.Start.{Start}
use Rattle.runs.specs.Shown.{nobody}
use Rattle.buffered.specs.RunBuffered.{run_buffered}
use Rattle.generated.specs.RunGenerated.{Rooms, run_generated}
use Rattle.shown.specs.declared.Ran.{Ran}
use Rattle.shown.specs.Ran.{start_of, thread_state, ran_of}
use Rattle.run_buffered.specs.Ran.{buffered_ran}
use Rattle.rooms.specs.Graphs.{rooms_of}
use Rattle.run_generated.specs.Ran.{Runs}
use Rattle.agree.specs.Demands.{Agree}
use Rattle.agree.proofs.Whole.{demand3}
use Rattle.both.specs.Returned.{ReturnedAgree, BothRun}

module _ (model count : ℕ) (tables : List (List ℕ)) (memory registers schedule : List ℕ) (nodes edges : List (List ℕ)) where
  abbrev s : Start
  s = start_of model count tables memory registers schedule

  abbrev rooms : Rooms
  rooms = rooms_of nodes edges

  shown-agree : Agree s rooms → ReturnedAgree tables (buffered_ran (run_buffered s)) (ran_of (run_generated s rooms).ended (run_generated s rooms).state)
  shown-agree a = record {
    ended = a.ended;
    memory = a.memory;
    threads = λ t h.
        let p = get_or-map thread_state (run_buffered s).state.threads t nobody in
        let q = get_or-map thread_state (run_generated s rooms).state.threads t nobody in
        rw (p, q) (a.threads t h);
  }

  pub both_run : {nodes' edges' : List (List ℕ)} {b g : Ran} → b ≡ buffered_ran (run_buffered s) → Runs (run_generated s rooms) nodes' edges' g
      → BothRun model count tables memory registers schedule nodes edges nodes' edges' b g
  both_run e r = record { buffered = e; generated = r; agree = λ a. rw (e, r.ran) (shown-agree (demand3 s rooms a).0) }
