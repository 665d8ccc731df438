-- `tables::plate_thickness` meets its contract: each way out is a law of the definition. Assumes nothing.
use Rattle.std.proofs.Common.{sym}
use Rattle.tables.specs.SupportPlates.{plate_row, span_column}
use Rattle.tables.proofs.Laws.SupportPlates.{no_plate, no_column, thickness_given}
use Rattle.tables.proofs.Places.{found, nowhere}
use Rattle.tables.proofs.support_plates.plate_thickness.Goals as goal

pub returns-in_err-row : goal.returns-in_err-row
unfolding plate_row
returns-in_err-row c =
    let none = nowhere 3 (plate_row c.args.diameter) (sym c.in_err-row.ensures) in
    rw (no_plate c.args.span c.args.diameter none) c.from_residual.ensures

pub returns-in_err-first_not_below : goal.returns-in_err-first_not_below
unfolding span_column
returns-in_err-first_not_below c =
    let none = nowhere 5 (span_column c.args.span) (sym c.in_err-first_not_below.ensures) in
    rw (no_column c.args.span c.args.diameter none) c.from_residual-in_err-first_not_below.ensures

pub returns : goal.returns
unfolding plate_row span_column
returns c =
    let row = found 3 (plate_row c.args.diameter) _ (sym c.in_ok-row.ensures) in
    let column = found 5 (span_column c.args.span) _ (sym c.in_ok-first_not_below.ensures) in
    sym (thickness_given c.args.span c.args.diameter _ _ row.0 column.0 row.1 column.1)
