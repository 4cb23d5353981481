-- `read_body` meets its contract: a name that is none, or exactly the fields of its kind. Assumes nothing.
use mathlib.Core.Path.{refl, sym, ap, ◌∙◌}
use mathlib.Core.Option.{map}
use mathlib.Core.List.{List}
use Prim.Native.Nat.{ℕ}
use lib.ListN.{get_or, length-set}
use Rattle.std.proofs.Common.{rules, tests}
use Rattle.lists.specs.Options.{option_of}
use Rattle.thread.specs.Names.{instr_names}
use Rattle.decimal.specs.Decimal.{read_number}
use Rattle.text.specs.Written.{tab, numbers_of}
use Rattle.text.specs.Reading.{name_at, read_parts}
use Rattle.lists.proofs.Options.{held-some, held-none}
use Rattle.text.proofs.Bytes.{counts}
use Rattle.text.proofs.Parts.{turn-stops, turn-bad, turn-goes, turn-ends, turn-rest, unknown, known}
use Rattle.text.proofs.Splits.{computes, next-part, from-all, no-part}
use Rattle.text.proofs.read_body.Goals as goal

pub returns-in_err-kind : goal.returns-in_err-kind
unfolding option_of
returns-in_err-kind c =
    let name = c.in_ok-name.name in
    let s = c.split-parts in
    let line = from-all s.result.done s.result.rest.now c.args.line.now _ s.ensures.done s.ensures.rest (next-part s.result c.next.new.self name c.in_ok-name.ensures.steps (computes tab (λ x b q k. search (rules, tests)))) in
    let none = unknown name.now _ (held-none (name_at name.now instr_names) (sym c.in_err-kind.ensures.value)) in
    c.from_residual-in_err-kind.ensures ∙ ap option_of (sym (ap (λ (ps : List (List ℕ)). map numbers_of (read_parts ps)) line ∙ none))

pub loop-i-init : goal.loop-i-init
loop-i-init c =
    let name = c.in_ok-name.name in
    let s = c.split-parts in
    let line = from-all s.result.done s.result.rest.now c.args.line.now _ s.ensures.done s.ensures.rest (next-part s.result c.next.new.self name c.in_ok-name.ensures.steps (computes tab (λ x b q k. search (rules, tests)))) in
    (refl, known name.now _ c.in_ok-kind.kind (held-some (name_at name.now instr_names) c.in_ok-kind.kind (sym c.in_ok-kind.ensures.value)) ∙ ap (λ (ps : List (List ℕ)). map numbers_of (read_parts ps)) (sym line))

pub returns-in_err-field : goal.returns-in_err-field
unfolding option_of
returns-in_err-field c =
    let left = no-part c.loop-i.parts.done c.loop-i.parts.rest.now c.in_err-field.ensures.steps.0 in
    c.from_residual-in_err-field.ensures ∙ ap option_of (sym (turn-stops c.loop-i.numbers c.loop-i.i (get_or counts c.in_ok-kind.kind 0) _ c.loop-i-test.true left) ∙ c.loop-i.invariant.1)

pub returns-in_err-value : goal.returns-in_err-value
unfolding option_of
returns-in_err-value c =
    let field = c.in_ok-field.field in
    let part = next-part c.loop-i.parts c.next-in-loop-i.new.self field c.in_ok-field.ensures.steps (computes tab (λ x b q k. search (rules, tests))) in
    c.from_residual-in_err-value.ensures
    ∙ ap option_of (sym (turn-bad c.loop-i.numbers c.loop-i.i (get_or counts c.in_ok-kind.kind 0) _ field.now _ c.loop-i-test.true part (held-none (read_number field.now) (sym c.in_err-value.ensures))) ∙ c.loop-i.invariant.1)

pub loop-i-preserved : goal.loop-i-preserved
loop-i-preserved c =
    let field = c.in_ok-field.field in
    let part = next-part c.loop-i.parts c.next-in-loop-i.new.self field c.in_ok-field.ensures.steps (computes tab (λ x b q k. search (rules, tests))) in
    let v = c.in_ok-value.value in (
      simp length-set c.loop-i.invariant.0,
      turn-goes c.loop-i.numbers c.loop-i.i (get_or counts c.in_ok-kind.kind 0) _ field.now _ v c.loop-i-test.true part (held-some (read_number field.now) v (sym c.in_ok-value.ensures)) ∙ c.loop-i.invariant.1,
    )

pub returns-in-None : goal.returns-in-None
unfolding option_of
returns-in-None c =
    let left = no-part c.loop-i.parts.done c.loop-i.parts.rest.now c.in-None.ensures.steps.0 in
    ap option_of (sym (turn-ends c.loop-i.numbers c.loop-i.i (get_or counts c.in_ok-kind.kind 0) _ c.loop-i-test.false left) ∙ c.loop-i.invariant.1)

pub returns-in-Some : goal.returns-in-Some
unfolding option_of
returns-in-Some c =
    let field = c.in-Some.field-0 in
    let part = next-part c.loop-i.parts c.next-2.new.self field c.in-Some.ensures.steps (computes tab (λ x b q k. search (rules, tests))) in
    ap option_of (sym (turn-rest c.loop-i.numbers c.loop-i.i (get_or counts c.in_ok-kind.kind 0) _ field.now _ c.loop-i-test.false part) ∙ c.loop-i.invariant.1)
