-- `scantling_blind_flange_bolts` meets its contract. Assumes nothing.
use Rattle.capi.proofs.ExactByPlace.{bolted_placed}
use Rattle.capi.proofs.scantling_blind_flange_bolts.Goals as goal

pub returns-clause-exact : goal.returns-clause-exact
returns-clause-exact c =
    let a = c.blind_flange_bolts-answer.ensures in
    (bolted_placed
    _ _ _ _
    c.numbers_in_bytes-diameters.ensures
    c.numbers_in_bytes-areas.ensures
    c.in_bytes.ensures
    c.unbolted_call-sheet.ensures
    a.value
    a.exact
    c.bolted_figure_at.ensures).1
