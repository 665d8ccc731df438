-- `sizing::sizing_on_gasket` meets its contract. Assumes nothing.
use Rattle.limits.specs.Laws.{number_not_zero}
use Rattle.std.proofs.lemmas.Result.{err_from_is_err_and}
use Rattle.rules.proofs.SizedOrRefused.{flange_refused, flange_sized}
use Rattle.rules.proofs.sizing.sizing_on_gasket.Goals as goal

pub returns-in_err-bolting : goal.returns-in_err-bolting
returns-in_err-bolting c =
    let cause = c.in_err-bolting.field-0.0 in
    let out = err_from_is_err_and c.from_residual.result c.from_residual.ensures.1 in
    rw
    (out.1, out.2)
    (flange_refused c.args.s c.in_err-bolting.ensures.cause (number_not_zero cause))

pub returns : goal.returns
returns c = flange_sized c.args.s c.in_ok-bolting.ensures.cause c.blind_flange_figures.ensures
