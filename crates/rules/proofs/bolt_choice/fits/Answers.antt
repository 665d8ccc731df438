-- `bolt_choice::fits` meets its contract. Assumes nothing.
use Rattle.std.proofs.Common.{◌≡◌, refl, sym, ◌∙◌, ap, arith, eqb}
use Rattle.std.specs.Prelude.{ℕ, Result, Ok, Err, is_ok, ◌*◌, ◌≤◌}
use borrow.Author.Tests.{ne_eqb, eqb-true}
use native.Mathlib.Nat.{mul-le-mul}
use lib.Dec.{leb}
use Rattle.limits.specs.Cause.{cause_number}
use Rattle.limits.specs.Causes.{first_cause}
use Rattle.limits.specs.Laws.{number_not_zero}
use Rattle.limits.specs.declared.cause.Cause.{Cause}
use Rattle.rules.specs.Bounds.{most_bolts}
use Rattle.rules.specs.FlangeCauses.{bolts_causes, blind_flange_causes}
use Rattle.rules.specs.BoltChoice.{fits, pitch_enough}
use Rattle.rules.proofs.WithinLimits.{both_within}
use Rattle.rules.proofs.BoltsTaken.{bolts_alone}
use Rattle.rules.proofs.bolt_choice.fits.Goals as goal
use Rattle.rules.proofs.bolt_choice.fits.Goals.{After-is_ok}

ok_unrefused : {A : Type 0} (r : Result A Cause) → is_ok r ≡ eqb (cause_number r) 0
ok_unrefused (Ok a) = refl
ok_unrefused (Err cause) = rw (ne_eqb _ 0 (number_not_zero cause))

-- the test is whether no cause applies, and that is whether none of the bolts' own does
unrefused : (c : After-is_ok) → c.is_ok.result ≡ eqb (first_cause (blind_flange_causes c.args.s)) 0
unrefused c =
    c.is_ok.ensures.value ∙ ok_unrefused c.bolting_on_gasket.result ∙ ap (λ (k : ℕ). eqb k 0) c.bolting_on_gasket.ensures.cause

alone :
    (c : After-is_ok) →
    let s = c.args.s in
    c.is_ok.result ≡ eqb (first_cause (bolts_causes s s.bolt s.root s.count)) 0
alone c =
    unrefused c ∙ ap (λ (k : ℕ). eqb k 0) (bolts_alone c.args.s c.requires.within.0 c.requires.within.1)

pub overflow_mul-result-then-is_ok : goal.overflow_mul-result-then-is_ok
overflow_mul-result-then-is_ok c =
    let w = (goal.at.overflow_mul-result-then-is_ok c).After-is_ok in
    let within = (both_within c.args.s (eqb-true _ _ (sym (unrefused w) ∙ c.if-is_ok.true))).1 in
    let bolt : c.from.result ≤ most_bolts = omega (arith, within.bolt) in
    let count : c.from-then-is_ok.result ≤ most_bolts = omega (arith, within.count) in
    omega (arith, mul-le-mul bolt count)

pub returns-then-is_ok : goal.returns-then-is_ok
unfolding fits
returns-then-is_ok c =
    let e = alone (goal.at.returns-then-is_ok c).After-is_ok in
    let pitch :
    leb (2500 * c.from.result * c.from-then-is_ok.result) (314 * c.from-then-is_ok-2.result) ≡ pitch_enough c.args.s =
    rw (c.from.ensures, c.from-then-is_ok.ensures, c.from-then-is_ok-2.ensures) in
    rw (sym e ∙ c.if-is_ok.true) pitch

pub returns-else-is_ok : goal.returns-else-is_ok
unfolding fits
returns-else-is_ok c =
    let e = alone (goal.at.returns-else-is_ok c).After-is_ok in
    rw (sym e ∙ c.if-is_ok.false, c.if-is_ok.false)
