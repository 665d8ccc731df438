-- `scantling_blind_flange_standard` meets its contract. Assumes nothing.
use Rattle.std.proofs.Common.{◌∙◌}
use Rattle.std.proofs.lemmas.List.{map-id}
use Rattle.capi.proofs.ExactByPlace.{flange_placed}
use Rattle.capi.proofs.scantling_blind_flange_standard.Goals as goal

pub returns-clause-exact : goal.returns-clause-exact
returns-clause-exact c =
    let answer = c.blind_flange.ensures in
    (flange_placed _ (map-id _ ∙ c.standard_plates.ensures) c.blind_flange_call-sheet.ensures answer.value answer.exact c.figure_at.ensures).1
