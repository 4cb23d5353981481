-- `held::step` meets its contract: an edge found and then gone along is the step.
use Rattle.std.proofs.Common.{sym, ap, ◌∙◌}
use Rattle.std.specs.Prelude.{Option, unwrap_or, is_some}
use Rattle.held.specs.declared.Machine.{Machine}
use Rattle.held.proofs.Laws.{step-absent, step-done}
use Rattle.held.proofs.step.Goals as goal

pub returns-in_default : goal.returns-in_default
returns-in_default c =
    let a = c.args in
    let e = step-absent a.m.now a.t a.edges.now a.choice c.own_of.result c.own_of.ensures c.in_default.is in
    record { machine = ap (λ (s : Option Machine). unwrap_or s a.m.now) e; moves = ap (λ (s : Option Machine). is_some s) e }

pub returns-in_default-moved : goal.returns-in_default-moved
returns-in_default-moved c =
    let a = c.args in
    let e = sym c.in_default-moved.is
    ∙ step-done a.m.now a.t a.edges.now a.choice c.own_of.result c.own_of.ensures c.in-Some.own c.edge_in-found.result c.moved.result c.in-Some.is c.edge_in-found.ensures c.moved.ensures in
    record { machine = ap (λ (s : Option Machine). unwrap_or s a.m.now) e; moves = ap (λ (s : Option Machine). is_some s) e }

pub returns : goal.returns
returns c =
    let a = c.args in
    let e = sym c.in-Some-moved.is
    ∙ step-done a.m.now a.t a.edges.now a.choice c.own_of.result c.own_of.ensures c.in-Some.own c.edge_in-found.result c.moved.result c.in-Some.is c.edge_in-found.ensures c.moved.ensures in
    record { machine = ap (λ (s : Option Machine). unwrap_or s a.m.now) e; moves = ap (λ (s : Option Machine). is_some s) e }
