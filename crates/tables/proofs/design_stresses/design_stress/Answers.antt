-- `tables::design_stress` meets its contract: each way out is a law of the definition. Assumes nothing.
use Rattle.std.proofs.Common.{◌-◌, ◌≤◌, ◌≡◌, ◌∙◌, ap, refl, [], get_or, arith, sym}
use Rattle.std.proofs.lemmas.List.{get_or_default}
use Rattle.tables.specs.DesignStress.{table1, column, design_stress_of, nonzero}
use Rattle.tables.proofs.Laws.DesignStress.{no_material, past_materials, past_columns, entry}
use Rattle.tables.proofs.Places.{found, nowhere, some_given}
use Rattle.tables.proofs.design_stresses.design_stress.Goals as goal

pub returns-in_err-checked_sub : goal.returns-in_err-checked_sub
returns-in_err-checked_sub c =
    let none : c.args.material ≡ 0 = omega (arith, c.in_err-checked_sub.ensures) in
    rw (none, no_material) c.from_residual.ensures

pub returns-in_err-row : goal.returns-in_err-row
returns-in_err-row c = grind (arith, past_materials)

pub returns-in_err-stress : goal.returns-in_err-stress
unfolding column
returns-in_err-stress c =
    let past : 9 ≤ column c.args.temperature = nowhere 9 (column c.args.temperature) (sym c.in_err-stress.ensures) in
    rw (past_columns c.args.material c.args.temperature past) c.from_residual-in_err-stress.ensures

pub returns : goal.returns
unfolding column
returns c =
    let row : c.in_ok-row.row.now ≡ get_or table1 (c.args.material - 1) [] = grind (arith, get_or_default) in
    let place = (found 9 (column c.args.temperature) _ (sym c.in_ok-stress.ensures)).0 in
    let stress : get_or c.in_ok-row.row.now c.in_ok-stress.field-0 0 ≡ design_stress_of c.args.material c.args.temperature =
    rw (entry c.args.material c.args.temperature (λ z. omega (arith, c.in_ok-checked_sub.ensures, z)), row, place) refl in
    c.then_some.ensures ∙ some_given _ ∙ ap nonzero stress
