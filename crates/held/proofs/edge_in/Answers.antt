-- `held::edge_in` meets its contract: what the library finds is the first edge that fits.
use mathlib.Core.Path.{sym, ◌∙◌}
use mathlib.Core.Bool.{◌&&◌}
use Rattle.std.proofs.Common.{rules, tests}
use Rattle.std.proofs.lemmas.Iterator.{YieldsList-from_slice}
use Rattle.std.proofs.lemmas.Iterator.Search.{find_from_yields_List}
use Rattle.lists.proofs.Options.{first_find}
use Rattle.graphs.specs.declared.Edge.{Edge}
use Rattle.generated.specs.Machine.{same_node, serves, edge_for}
use Rattle.held.proofs.edge_in.Goals as goal

pub returns : goal.returns
unfolding edge_for
returns c =
    let a = c.args in
    c.copied.ensures
    ∙ find_from_yields_List (λ (e : Edge). same_node e.from a.node && serves a.choice a.registers e.op) _ _ c.find.result c.find.ensures.ran (YieldsList-from_slice a.edges.now (cc)) (λ x b q k. search (rules, tests))
    ∙ sym (first_find (λ (e : Edge). same_node e.from a.node && serves a.choice a.registers e.op) a.edges.now)
