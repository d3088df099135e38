use Rattle.std.proofs.Common.{sym, ◌∙◌}
use Rattle.std.proofs.lemmas.Result.{err_from_is_err_and}
use Rattle.plain_frames.proofs.WrittenRows.{no_row, not_taken, not_by_functions, row_is_written}
use Rattle.plain_frames.proofs.WrittenRows.{stops_by}
use Rattle.plain_frames.proofs.writing.write_in_instance.Goals as goal

pub returns-in_default : goal.returns-in_default
returns-in_default c =
    no_row c.args.function c.args.number c.args.place.now c.args.kind.now c.args.value
    c.args.rows.now (sym c.in_default.ensures)

pub returns-in_err-value : goal.returns-in_err-value
returns-in_err-value c =
    let p = err_from_is_err_and c.from_residual.result c.from_residual.ensures.1 in
    rw (p.1, p.2) (not_taken c.args.function c.args.number c.args.place.now c.args.kind.now
    c.args.value c.args.rows.now c.in-Some.at _ (sym c.in-Some.ensures)
    (sym c.in_err-value.ensures))

pub returns-then-function : goal.returns-then-function
returns-then-function c =
    not_by_functions c.args.function c.args.number c.args.place.now c.args.kind.now c.args.value
    c.in_ok-value.value c.args.rows.now c.in-Some.at c.if-function.true (sym c.in-Some.ensures)
    (sym c.in_ok-value.ensures)

pub returns-in_err-write_in_row : goal.returns-in_err-write_in_row
returns-in_err-write_in_row c =
    let p = err_from_is_err_and c.from_residual-in_err-write_in_row.result
    c.from_residual-in_err-write_in_row.ensures.1 in
    rw (p.1, p.2) (stops_by _ _ _ _
    (row_is_written c.args.function c.args.number c.args.place.now c.args.kind.now c.args.value
    c.in_ok-value.value c.args.rows.now c.in-Some.at c.if-function.false (sym c.in-Some.ensures)
    (sym c.in_ok-value.ensures)) c.in_err-write_in_row.ensures)

pub returns : goal.returns
returns c =
    row_is_written c.args.function c.args.number c.args.place.now c.args.kind.now c.args.value
    c.in_ok-value.value c.args.rows.now c.in-Some.at c.if-function.false (sym c.in-Some.ensures)
    (sym c.in_ok-value.ensures) ∙ c.in_ok-write_in_row.ensures
