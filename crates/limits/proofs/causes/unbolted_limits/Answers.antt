-- `causes::unbolted_limits` meets its contract. Assumes nothing.
use Rattle.std.proofs.Common.{◌≡◌, ◌++◌, cond, eqb}
use borrow.Author.Tests.{ne_eqb}
use Rattle.std.proofs.lemmas.Result.{err_from_is_err_and}
use Rattle.limits.specs.Cause.{number_of}
use Rattle.limits.specs.Causes.{any, first_of, first_cause, of_numbers, of_bolting, of_loads, of_plates}
use Rattle.limits.specs.Limits.{flange_limits, unbolted_limits, bolt_stress_refused}
use Rattle.limits.specs.Laws.{in_turn, number_not_zero}
use Rattle.limits.specs.Unbolted.{flange_of}
use Rattle.limits.specs.declared.unbolted.UnboltedSheet.{UnboltedSheet}
use Rattle.limits.proofs.causes.unbolted_limits.Goals as goal

-- the flange's numbers, then 11
in_two :
    (s : UnboltedSheet) →
    let k = first_cause (flange_limits (flange_of s)) in
    first_cause (unbolted_limits s) ≡ cond (eqb k 0) (cond (any (bolt_stress_refused s.sa s.sb)) 11 0) k
unfolding first_of flange_limits unbolted_limits
in_two s = in_turn of_numbers (of_bolting ++ of_loads ++ of_plates) (unbolted_limits s) tt

pub returns-in_err-stress-clause-cause : goal.returns-in_err-stress-clause-cause
returns-in_err-stress-clause-cause c =
    let cause = c.in_err-stress.field-0.0 in
    let out = err_from_is_err_and c.from_residual.result c.from_residual.ensures.1 in
    let limit : number_of cause ≡ first_cause (flange_limits (flange_of c.args.s)) =
    rw c.bolted.ensures at c.in_err-stress.ensures.cause in
    rw (out.1, out.2, in_two c.args.s, ← limit, ne_eqb _ 0 (number_not_zero cause))

pub returns-in_err-refuse_if-clause-cause : goal.returns-in_err-refuse_if-clause-cause
returns-in_err-refuse_if-clause-cause c =
    let r = c.from_residual-in_err-refuse_if in
    let out = err_from_is_err_and r.result r.ensures.1 in
    let limit : 0 ≡ first_cause (flange_limits (flange_of c.args.s)) =
    rw c.bolted.ensures at c.in_ok-stress.ensures.cause in
    let stresses = c.in_err-refuse_if.ensures in
    rw (out.1, out.2, in_two c.args.s, ← limit, ← c.bolt_stress_refused.ensures, stresses.0, stresses.1)

pub returns-clause-cause : goal.returns-clause-cause
returns-clause-cause c =
    let limit : 0 ≡ first_cause (flange_limits (flange_of c.args.s)) =
    rw c.bolted.ensures at c.in_ok-stress.ensures.cause in
    rw (in_two c.args.s, ← limit, ← c.bolt_stress_refused.ensures, c.in_ok-refuse_if.ensures)
