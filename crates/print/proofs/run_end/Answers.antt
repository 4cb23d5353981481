-- The search for an edge of another node ends where the run does.
use mathlib.Core.Path.{refl, ◌∙◌}
use Prim.Native.Nat.{◌-◌}
use native.Mathlib.Omega.{arith}
use Rattle.std.proofs.Common.{rules, tests}
use Rattle.std.proofs.lemmas.Iterator.{YieldsList-from_range}
use Rattle.std.proofs.lemmas.Iterator.Search.{find_from_yields_List}
use Rattle.printed.proofs.Runs.{other, run-end}
use Rattle.print.proofs.run_end.Goals as goal

pub returns : goal.returns
returns c =
    let s = c.args in
    let e = find_from_yields_List (other s.table.now s.k) _ _ c.find.result c.find.ensures.ran (YieldsList-from_range s.j s.m (s.m - s.j) refl (omega arith)) (λ x b q k. search (rules, tests)) in
    c.unwrap_or.ensures ∙ run-end s.table.now s.k c.find.result s.j s.m c.requires e
