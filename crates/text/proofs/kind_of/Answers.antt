-- `kind_of` meets its contract: the names are those of the paper. Assumes nothing.
use mathlib.Core.Path.{◌∙◌}
use Rattle.thread.specs.Names.{instr_names}
use Rattle.text.proofs.Bytes.{name-position}
use Rattle.text.proofs.kind_of.Goals as goal

pub returns-clause-value : goal.returns-clause-value
unfolding instr_names
returns-clause-value c =
    c.name_at.ensures.value ∙ name-position c.args.name.now instr_names
