-- `blind_flange` meets its contract. Assumes nothing.
use Rattle.std.proofs.Common.{ap, ◌∙◌}
use mathlib.Core.List.{map}
use Rattle.std.proofs.lemmas.Result.{err_from_is_err_and}
use Rattle.rules.proofs.WithPlate.{with, blind_flange_with}
use Rattle.rules.proofs.AnswersExact.{flange_promised}
use Rattle.rules.proofs.blind_flange.Goals as goal

pub returns-in_err-figures : goal.returns-in_err-figures
returns-in_err-figures g c =
    let out = err_from_is_err_and c.from_residual.result c.from_residual.ensures.1 in
    let plates = map g.E.Entry.plate_of c.args.plates.now in
    let p =
    flange_promised
    c.args.s
    plates
    (rw (out.1, out.2) (ap (with plates) c.in_err-figures.ensures)) in
    record { value = p.0; numbers = p.1.0; exact = p.1.1 }

pub returns-in_err-plate : goal.returns-in_err-plate
returns-in_err-plate g c =
    let plates = map g.E.Entry.plate_of c.args.plates.now in
    let answered =
    blind_flange_with c.in_ok-figures.figures _ c.in_err-plate.ensures ∙ ap (with plates) c.in_ok-figures.ensures in
    let r = c.from_residual-in_err-plate in
    let out = err_from_is_err_and r.result r.ensures.1 in
    let p = flange_promised c.args.s plates (rw (out.1, out.2) answered) in
    record { value = p.0; numbers = p.1.0; exact = p.1.1 }

pub returns : goal.returns
returns g c =
    let plates = map g.E.Entry.plate_of c.args.plates.now in
    let answered =
    blind_flange_with c.in_ok-figures.figures _ c.in_ok-plate.ensures ∙ ap (with plates) c.in_ok-figures.ensures in
    let p = flange_promised c.args.s plates answered in
    record { value = p.0; numbers = p.1.0; exact = p.1.1 }
