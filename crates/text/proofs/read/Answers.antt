-- `read` meets its contract: the first reason to refuse, or all lines in the table. Assumes nothing.
use mathlib.Core.Path.{sym, subst}
use Prim.Native.Nat.{ℕ, ◌+◌}
use lib.ListN.{length, take, drop}
use Rattle.std.proofs.lemmas.Result.{err_from_is_err_and}
use Rattle.text.specs.Written.{Text}
use Rattle.text.specs.Read.{JudgedOk}
use Rattle.thread.specs.Names.{model_names}
use Rattle.text.specs.Reading.{name_at, text_lines, read_lines}
use Rattle.text.specs.Steps.{lines_in}
use Rattle.lists.proofs.Options.{held-some, held-none}
use Rattle.text.proofs.Answers.{too-long, first-lacks, no-model, with-model, line-bad, all-good, bad-ok, good-ok}
use Rattle.text.proofs.read.Goals as goal

pub returns-then-text-gt-MOST_BYTES : goal.returns-then-text-gt-MOST_BYTES
returns-then-text-gt-MOST_BYTES c =
    let a = c.args in
    too-long (length a.table.now) a.text.now c.clear.new.room c.if-text-gt-MOST_BYTES.true c.clear.ensures

pub returns-then-end-text : goal.returns-then-end-text
returns-then-end-text c =
    let a = c.args in
    bad-ok (length a.table.now) a.text.now c.clear.new.room 1 c.if-text-gt-MOST_BYTES.false (first-lacks a.text.now c.run-end.result c.run-end.ensures.value c.if-end-text.true) c.clear.ensures

pub returns-in_default : goal.returns-in_default
returns-in_default c =
    let text = c.args.text.now in
    let end = c.run-end.result in
    let none = held-none (name_at (take end text) model_names) (sym c.in_default.ensures.value) in
    bad-ok (length c.args.table.now) text c.clear.new.room 1 c.if-text-gt-MOST_BYTES.false (no-model text end c.run-end.ensures.value c.if-end-text.false none) c.clear.ensures

pub returns-in_err-count : goal.returns-in_err-count
returns-in_err-count c =
    let text = c.args.text.now in
    let end = c.run-end.result in
    let model = c.in-Some.model in
    let some = held-some (name_at (take end text) model_names) model (sym c.in-Some.ensures.value) in
    let e = err_from_is_err_and c.from_residual.result c.from_residual.ensures.1 in
    rw (e.1, e.2)
    (line-bad (length c.args.table.now) text c.clear.new.room model (read_lines 2 (text_lines (drop (end + 1) text))) c.in_err-count.field-0.0 c.if-text-gt-MOST_BYTES.false
    (with-model text end c.run-end.ensures.value c.if-end-text.false model some)
    (sym c.in_err-count.ensures)
    c.clear.ensures)

pub returns : goal.returns
returns c =
    let text = c.args.text.now in
    let end = c.run-end.result in
    let model = c.in-Some.model in
    let some = held-some (name_at (take end text) model_names) model (sym c.in-Some.ensures.value) in
    let told : Text = record { model = model; lines = lines_in (read_lines 2 (text_lines (drop (end + 1) text))) } in
    let ok : JudgedOk (length c.args.table.now) told c.accept.result c.accept.new.table = subst (λ (n : ℕ). JudgedOk n told c.accept.result c.accept.new.table) c.clear.auto.room c.accept.ensures in
    good-ok (length c.args.table.now) text c.accept.new.table told c.accept.result c.if-text-gt-MOST_BYTES.false
    (all-good text end c.run-end.ensures.value c.if-end-text.false model some c.in_ok-count.count (sym c.in_ok-count.ensures))
    ok
