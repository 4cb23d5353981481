-- `model_of` meets its contract: the names are those of the paper. Assumes nothing.
use mathlib.Core.Path.{◌∙◌}
use Rattle.thread.specs.Names.{model_names}
use Rattle.text.proofs.Bytes.{name-position}
use Rattle.text.proofs.model_of.Goals as goal

pub returns-clause-value : goal.returns-clause-value
unfolding model_names
returns-clause-value c =
    c.name_at.ensures.value ∙ name-position c.args.name.now model_names
