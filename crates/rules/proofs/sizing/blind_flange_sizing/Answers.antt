-- `sizing::blind_flange_sizing` meets its contract. Assumes nothing.
use Rattle.limits.specs.Laws.{number_not_zero}
use Rattle.std.proofs.lemmas.Result.{err_from_is_err_and}
use Rattle.rules.proofs.SizedOrRefused.{limit_refused}
use Rattle.rules.proofs.sizing.blind_flange_sizing.Goals as goal

pub returns-in_err-stress : goal.returns-in_err-stress
returns-in_err-stress c =
    let cause = c.in_err-stress.field-0.0 in
    let out = err_from_is_err_and c.from_residual.result c.from_residual.ensures.1 in
    rw
    (out.1, out.2)
    (limit_refused c.args.s c.in_err-stress.ensures.cause (number_not_zero cause))
