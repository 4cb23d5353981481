-- `nth_store` is what the chain of iterators gives.
use Rattle.std.proofs.Common.{rules, tests, arith, refl, sym, ◌∙◌}
use Rattle.std.proofs.lemmas.Iterator.{YieldsList-from_range, YieldsList-from_map}
use Rattle.std.proofs.lemmas.Iterator.Adapters.{option_map_id}
use Rattle.std.proofs.lemmas.Iterator.Consumers.{YieldsList-from_filter, YieldsList-at, nth_from_yields_List}
use Rattle.thread.specs.Table.{line, instr_at, is_store}
use Rattle.admit.proofs.Stores.{stores_got}
use Rattle.admit.proofs.Lines.nth_store.Goals as goal

pub returns : goal.returns
returns c =
    let a = c.args in
    sym (option_map_id c.nth.result) ∙ nth_from_yields_List c.nth.result _ a.at c.nth.ensures.ran
    (YieldsList-from_filter _ (λ l. is_store (instr_at a.self.table.now l))
    (YieldsList-at c.filter.ensures.source
    (YieldsList-from_map _ line (YieldsList-at c.map.ensures.source (YieldsList-from_range 0 a.self.count a.self.count refl (omega arith))) c.map.ensures.closure (λ x r q k. search (rules, tests))))
    c.filter.ensures.closure (λ x b q k. search (rules, tests)))
    ∙ stores_got (instr_at a.self.table.now) a.self.count a.at
