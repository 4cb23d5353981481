-- A machine that a schedule moves, whatever its threads are: what a turn of it answers and leaves, and where a whole schedule leads it.
use Rattle.std.specs.Prelude.{◌≡◌, Bool, true, false}
use Rattle.std.proofs.Math.Option.{Option, none, some}
use Rattle.runs.specs.Run.{Ended, World, Stand, end_of}

-- whether there was a step, and the world after it, or as it was
abbrev pub Turned : {T : Type 0} → Option (World T) → World T → Bool → World T → Type 0
Turned o w true w' = o ≡ some w'
Turned o w false w' = (o ≡ none) × (w' ≡ w)

-- the answer is how the run ended, and the world is where it stands
pub record Led {T : Type 0} (e : Stand T) (r : Ended) (w : World T) : Type 0 where
  pub ended : r ≡ end_of e
  pub world : w ≡ e.world
