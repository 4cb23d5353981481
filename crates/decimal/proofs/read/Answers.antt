-- `read` meets its contract: no bytes, a leading zero, and digits. Assumes nothing.
use mathlib.Core.Path.{sym, ap, ◌∙◌}
use Rattle.lists.specs.Options.{option_of}
use Rattle.decimal.proofs.Reading.{read_none, read-zero, read_rest}
use Rattle.decimal.proofs.read.Goals as goal

pub returns-then-is_empty : goal.returns-then-is_empty
unfolding option_of
returns-then-is_empty c =
    ap option_of (sym (read_none c.args.bytes.now (sym c.if-is_empty.ensures)))

pub returns-then-bytes-gt1 : goal.returns-then-bytes-gt1
unfolding option_of
returns-then-bytes-gt1 c =
    ap option_of (sym (read-zero c.args.bytes.now c.if-bytes-gt1.true c.if-bytes-eq48.true))

pub returns : goal.returns
returns c =
    c.digits.ensures ∙ ap option_of (sym (read_rest c.args.bytes.now (sym c.if-is_empty.ensures) c.else-bytes-eq48.either))
