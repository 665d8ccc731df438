-- `sizing::bolting_on_gasket` meets its contract. Assumes nothing.
use Rattle.std.proofs.Common.{ap, arith, not, sym, ◌∙◌, ◌≡◌}
use Rattle.limits.specs.Causes.{first_cause}
use Rattle.limits.specs.Limits.{flange_limits, bolting_limits}
use Rattle.limits.specs.Laws.{number_not_zero}
use Rattle.limits.specs.declared.BlindFlangeSheet.{BlindFlangeSheet}
use Rattle.rules.specs.Loads.{gasket_of}
use Rattle.rules.specs.declared.gasket.Gasket.{Gasket}
use Rattle.rules.specs.FlangeCauses.{bolts_causes, blind_flange_causes}
use Rattle.std.proofs.lemmas.Result.{err_from_is_err_and}
use Rattle.rules.proofs.WithinLimits.{BoltingWithin, flange_within, bolting_within}
use Rattle.rules.proofs.FlangeBounded.{gasket_most}
use Rattle.rules.proofs.SizedOrRefused as sizings
use Rattle.rules.proofs.sizing.bolting_on_gasket.Goals as goal
use Rattle.rules.proofs.sizing.bolting_on_gasket.Goals.{After-sufficient, After-bolt_area}

-- G is handed on from the gasket
worked :
    (s : BlindFlangeSheet) {gasket : Gasket} →
    gasket ≡ gasket_of s →
    first_cause (bolting_limits s gasket.reaction_diameter) ≡ first_cause (bolting_limits s (gasket_of s).reaction_diameter)
worked s e = ap (λ (g : Gasket). first_cause (bolting_limits s g.reaction_diameter)) e

pub returns-in_err-bolting_limits-clause-cause : goal.returns-in_err-bolting_limits-clause-cause
returns-in_err-bolting_limits-clause-cause c =
    let cause = c.in_err-bolting_limits.field-0.0 in
    let out = err_from_is_err_and c.from_residual.result c.from_residual.ensures.1 in
    rw
    (out.1, out.2)
    (sizings.bolting_refused
    c.args.s
    c.requires.within
    (c.in_err-bolting_limits.ensures ∙ worked _ c.requires.worked)
    (number_not_zero cause))

-- none of 10 to 12 applies
bolting :
    (c : After-bolt_area) →
    let s = c.args.s in
    0 ≡ first_cause (bolting_limits s (gasket_of s).reaction_diameter)
bolting c = c.in_ok-bolting_limits.ensures ∙ worked _ c.requires.worked

bolts_within : (s : BlindFlangeSheet) → first_cause (bolting_limits s (gasket_of s).reaction_diameter) ≡ 0 → BoltingWithin s
unfolding gasket_of
bolts_within s e = bolting_within s e

pub invariant_of-bolting : goal.invariant_of-bolting
invariant_of-bolting c =
    let s = c.args.s in
    let a = bolts_within s (sym (bolting (goal.at.invariant_of-bolting c).After-bolt_area)) in
    let most = gasket_most s (flange_within s c.requires.within) c.requires.worked in
    record { bounded = rw c.bolt_area.ensures (most.operating, most.seating, a.area, omega arith, omega arith) }

-- the bolt check is the definition's
overloaded : (c : After-sufficient) → sizings.overloaded c.args.s ≡ not c.sufficient.result
unfolding flange_limits bolts_causes blind_flange_causes
overloaded c = rw (c.sufficient.ensures, c.bolt_area.ensures, c.requires.worked)

pub returns-then-not-sufficient-clause-cause : goal.returns-then-not-sufficient-clause-cause
returns-then-not-sufficient-clause-cause c =
    let w = goal.at.returns-then-not-sufficient-clause-cause c in
    sizings.flange_overloaded
    _
    c.requires.within
    (bolting w.After-bolt_area)
    (overloaded w.After-sufficient ∙ ap not c.if-not-sufficient.true)

pub returns-clause-cause : goal.returns-clause-cause
returns-clause-cause c =
    let w = goal.at.returns-clause-cause c in
    sizings.no_cause
    _
    c.requires.within
    (bolting w.After-bolt_area)
    (overloaded w.After-sufficient ∙ ap not c.if-not-sufficient.false)
