-- `blind_flange_bolts` meets its contract. Assumes nothing.
use Rattle.std.proofs.Common.{ap, refl, sym, ◌∙◌, ◌≡◌}
use Rattle.std.specs.Prelude.{Option, Some, None, Result, Ok, Err}
use Rattle.std.specs.Option.{ok_or}
use mathlib.Core.List.{map}
use Rattle.limits.specs.Laws.{number_not_zero}
use Rattle.rules.specs.Answer.{blind_flange_answer}
use Rattle.rules.specs.Loads.{gasket_of}
use Rattle.std.proofs.lemmas.Result.{err_from_is_err_and}
use Rattle.rules.proofs.WithPlate.{with, blind_flange_with}
use Rattle.rules.proofs.BoltsTaken.{within_limits, bolted_within}
use Rattle.rules.proofs.BoltedNumbers.{bolted_promised, unbolted_refused, none_refused, taken_refused, taken_answered}
use Rattle.rules.proofs.blind_flange_bolts.Goals as goal

-- the bolts that were taken, and that there are none, from what is handed on
given : {A E : Type 0} (o : Option A) (e : E) {a : A} → ◌≡◌ {A = Result A E} (Ok a) (ok_or o e) → Some a ≡ o
given (Some x) e q = cc
given None e q = cc

missing : {A E : Type 0} (o : Option A) (e : E) {x : E} → ◌≡◌ {A = Result A E} (Err x) (ok_or o e) → (None ≡ o) × (x ≡ e)
missing (Some a) e q = cc
missing None e q = (refl, cc)

pub returns-in_err-stress : goal.returns-in_err-stress
returns-in_err-stress g c =
    let out = err_from_is_err_and c.from_residual.result c.from_residual.ensures.1 in
    let cause = c.in_err-stress.field-0.0 in
    let p = bolted_promised c.args.s _ _ _
    (rw (out.1, out.2) (unbolted_refused c.args.s _ _ _ c.in_err-stress.ensures.cause (number_not_zero cause))) in
    record { value = p.0; numbers = p.1.0.0; bolts = p.1.0.1; exact = p.1.1 }

pub gasket_of-gasket-requires : goal.gasket_of-gasket-requires
gasket_of-gasket-requires g c = rw c.bolted.ensures (within_limits c.args.s (sym c.in_ok-stress.ensures.cause)).0

pub returns-in_err-bolts : goal.returns-in_err-bolts
returns-in_err-bolts g c =
    let r = c.from_residual-in_err-bolts in
    let out = err_from_is_err_and r.result r.ensures.1 in
    let none = missing c.bolts_taken.result _ c.in_err-bolts.ensures.value in
    let p = bolted_promised c.args.s _ _ _
    (rw
    (out.1, out.2, none.1)
    (none_refused c.args.s _ _ _ c.in_ok-stress.ensures.cause (none.0 ∙ c.bolts_taken.ensures))) in
    record { value = p.0; numbers = p.1.0.0; bolts = p.1.0.1; exact = p.1.1 }

pub sizing_on_gasket-requires-clause-within : goal.sizing_on_gasket-requires-clause-within
sizing_on_gasket-requires-clause-within g c =
    rw c.bolted-2.ensures (bolted_within c.args.s (sym c.in_ok-stress.ensures.cause) c.in_ok-bolts.bolts).0

pub sizing_on_gasket-requires-clause-worked : goal.sizing_on_gasket-requires-clause-worked
unfolding gasket_of
sizing_on_gasket-requires-clause-worked g c =
    rw c.bolted-2.ensures (c.in_ok-stress.ensures.stress, rw c.bolted.ensures at c.gasket_of-gasket.ensures)

pub returns-in_err-figures : goal.returns-in_err-figures
unfolding blind_flange_answer
returns-in_err-figures g c =
    let r = c.from_residual-in_err-figures in
    let out = err_from_is_err_and r.result r.ensures.1 in
    let cause = c.in_err-figures.field-0.0 in
    let some = given c.bolts_taken.result _ c.in_ok-bolts.ensures.value in
    let plates = map g.E.Entry.plate_of c.args.plates.now in
    let p = bolted_promised c.args.s _ _ plates
    (rw
    (out.1, out.2)
    (taken_refused c.args.s _ _ plates c.in_ok-stress.ensures.cause c.in_ok-bolts.bolts (some ∙ c.bolts_taken.ensures)
    (number_not_zero cause) (ap (with plates) (rw c.bolted-2.ensures at c.in_err-figures.ensures)))) in
    record { value = p.0; numbers = p.1.0.0; bolts = p.1.0.1; exact = p.1.1 }

pub returns-in_err-plate : goal.returns-in_err-plate
unfolding blind_flange_answer
returns-in_err-plate g c =
    let r = c.from_residual-in_err-plate in
    let out = err_from_is_err_and r.result r.ensures.1 in
    let cause = c.in_err-plate.field-0.0.cause in
    let some = given c.bolts_taken.result _ c.in_ok-bolts.ensures.value in
    let plates = map g.E.Entry.plate_of c.args.plates.now in
    let answered =
    blind_flange_with c.in_ok-figures.figures _ c.in_err-plate.ensures
    ∙ ap (with plates) (rw c.bolted-2.ensures at c.in_ok-figures.ensures) in
    let p = bolted_promised c.args.s _ _ plates
    (rw
    (out.1, out.2)
    (taken_refused c.args.s _ _ plates c.in_ok-stress.ensures.cause c.in_ok-bolts.bolts (some ∙ c.bolts_taken.ensures)
    (number_not_zero cause) answered)) in
    record { value = p.0; numbers = p.1.0.0; bolts = p.1.0.1; exact = p.1.1 }

pub returns : goal.returns
unfolding blind_flange_answer
returns g c =
    let some = given c.bolts_taken.result _ c.in_ok-bolts.ensures.value in
    let plates = map g.E.Entry.plate_of c.args.plates.now in
    let answered =
    blind_flange_with c.in_ok-figures.figures _ c.in_ok-plate.ensures
    ∙ ap (with plates) (rw c.bolted-2.ensures at c.in_ok-figures.ensures) in
    let p = bolted_promised c.args.s _ _ plates
    (taken_answered c.args.s _ _ plates c.in_ok-stress.ensures.cause c.in_ok-bolts.bolts (some ∙ c.bolts_taken.ensures)
    answered) in
    record { value = p.0; numbers = p.1.0.0; bolts = p.1.0.1; exact = p.1.1 }
