-- `scantling_blind_flange` meets its contract. Assumes nothing.
use Rattle.capi.proofs.ExactByPlace.{flange_placed}
use Rattle.capi.proofs.scantling_blind_flange.Goals as goal

pub returns-clause-exact : goal.returns-clause-exact
returns-clause-exact c =
    let answer = c.blind_flange.ensures in
    (flange_placed _ c.in_bytes.ensures c.blind_flange_call-sheet.ensures answer.value answer.exact c.figure_at.ensures).1
