-- `tables::longest_span` meets its contract: each way out is a law of the definition. Assumes nothing.
use Rattle.std.proofs.Common.{ℕ, suc, ◌<◌, ◌≡◌, Some, arith, sym, refl}
use Rattle.tables.specs.ByLimits.{from_zero}
use Rattle.tables.specs.SupportPlates.{tube_row}
use Rattle.tables.proofs.Laws.SupportPlates.{tube_read, no_tube, no_group, span_given}
use Rattle.tables.proofs.Places.{last_found, last_nowhere}
use Rattle.tables.proofs.support_plates.longest_span.Goals as goal

pub returns-in_err-steel : goal.returns-in_err-steel
unfolding tube_row
returns-in_err-steel c =
    let none = last_nowhere (tube_row c.args.tube) (sym c.in_err-steel.ensures) in
    rw (no_tube c.args.tube c.args.group none) c.from_residual.ensures

-- the row that is read is one of ten
row : (tube i : ℕ) → Some i ≡ from_zero (tube_row tube) → (tube_row tube ≡ suc i) × (i < 10)
row tube i e = last_found 10 (tube_row tube) i (sym e) (tube_read tube).0

pub offset_bounds-branch : goal.offset_bounds-branch
unfolding tube_row
offset_bounds-branch c = grind (arith, (row c.args.tube c.in_ok-steel.field-0 c.in_ok-steel.ensures).1)

pub bounds-steel-branch : goal.bounds-steel-branch
unfolding tube_row
bounds-steel-branch c = (row c.args.tube c.in_ok-steel.field-0 c.in_ok-steel.ensures).1

pub bounds-copper-branch : goal.bounds-copper-branch
unfolding tube_row
bounds-copper-branch c = (row c.args.tube c.in_ok-steel.field-0 c.in_ok-steel.ensures).1

pub returns-in-1 : goal.returns-in-1
unfolding tube_row
returns-in-1 c =
    let r = row c.args.tube c.in_ok-steel.field-0 c.in_ok-steel.ensures in
    sym (span_given c.args.tube c.args.group 0 _ c.in-1.is r.0 r.1 (omega arith))

pub returns-in-2 : goal.returns-in-2
unfolding tube_row
returns-in-2 c =
    let r = row c.args.tube c.in_ok-steel.field-0 c.in_ok-steel.ensures in
    sym (span_given c.args.tube c.args.group 1 _ c.in-2.is r.0 r.1 (omega arith))

pub returns-in_default : goal.returns-in_default
returns-in_default c =
    rw
    (no_group c.args.tube c.args.group (λ e. omega (arith, c.in_default, e)) (λ e. omega (arith, c.in_default, e)))
    refl
