-- What the run of buffered threads gives back, as the code holds it.
use Rattle.buffered.specs.RunBuffered.{BufferedResult}
use Rattle.shown.specs.declared.Ran.{Ran}
use Rattle.shown.specs.Ran.{ran_of}

-- how the run ends, and memory and threads as shown
abbrev pub buffered_ran : BufferedResult → Ran
buffered_ran r = ran_of r.ended r.state
