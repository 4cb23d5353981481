-- The search over the nodes' numbers is the test of all of them.
use mathlib.Core.Path.{refl, ◌∙◌}
use native.Mathlib.Omega.{arith}
use lib.Dec.{leb}
use Rattle.std.proofs.Common.{rules, tests}
use Rattle.std.proofs.lemmas.Iterator.{YieldsList-from_range}
use Rattle.std.proofs.lemmas.Iterator.Search.{all_from_yields_List}
use Rattle.thread.specs.Sizes.{most_waiting}
use Rattle.printed.specs.Graph.{count_of}
use Rattle.printed.proofs.Fits.{nodes-all}
use Rattle.print.proofs.nodes_fit.Goals as goal

pub returns : goal.returns
returns c =
    all_from_yields_List (λ k. leb (count_of c.args.table.now k) most_waiting) _ _ c.all.result c.all.ensures.ran (YieldsList-from_range 0 c.args.n c.args.n refl (omega arith)) (λ x b q k. search (rules, tests))
    ∙ nodes-all c.args.table.now c.args.n
