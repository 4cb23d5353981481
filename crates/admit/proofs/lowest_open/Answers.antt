-- `lowest_open` is what a search over the lines gives.
use Rattle.std.proofs.Common.{rules, tests, arith, refl, sym, ◌∙◌}
use Rattle.std.proofs.lemmas.Iterator.{YieldsList-from_range}
use Rattle.std.proofs.lemmas.Iterator.Adapters.{option_map_id}
use Rattle.std.proofs.lemmas.Iterator.Search.{find_from_yields_List}
use Rattle.admit.specs.Marks.{is_open}
use Rattle.admit.proofs.Lowest.{lowest_found}
use Rattle.admit.proofs.lowest_open.Goals as goal

pub returns : goal.returns
unfolding is_open
returns c =
    let a = c.args in
    sym (option_map_id c.find.result)
    ∙ find_from_yields_List (is_open a.marks.now a.done.now) _ _ c.find.result c.find.ensures.ran (YieldsList-from_range 0 a.n a.n refl (omega arith)) (λ x b q k. search (rules, tests))
    ∙ lowest_found (is_open a.marks.now a.done.now) a.n
