-- An option of the definitions, as the code holds one.
use mathlib.Core.Option as maybe
use mathlib.Core.Option.{none, some}
use Rattle.std.specs.Prelude.{Option, Some, None}

unfoldable pub option_of : {A : Type 0} → maybe.Option A → Option A
option_of none = None
option_of (some x) = Some x
