-- `read_body` meets its contract: the numbers so far, with the parts ahead stored behind them. Assumes nothing.
use mathlib.Core.Path.{◌≡◌}
use mathlib.Core.Option.{map}
use Prim.Native.Nat.{◌+◌, ◌-◌}
use lib.ListN.{length, get_or}
use Rattle.text.specs.Written.{numbers_of}
use Rattle.text.specs.Reading.{parts, read_fields, read_parts}
use Rattle.text.proofs.Bytes.{counts}
use Rattle.text.proofs.Parts.{stored}
use Rattle.text.proofs.Splits.{ahead}
use Rattle.text.proofs.read_body.Given as goal

abbrev pub invariant-loop-i : goal.invariant-loop-i
invariant-loop-i l = (length l.numbers ≡ 5)
    × (stored l.numbers (l.i + 1) (read_fields (get_or counts l.kind 0 - l.i) (ahead l.parts.done l.parts.rest.now)) ≡ map numbers_of (read_parts (parts l.line)))
