-- `scantling_endplate` meets its contract. Assumes nothing.
use Rattle.capi.proofs.ExactByPlace.{endplate_placed}
use Rattle.capi.proofs.scantling_endplate.Goals as goal

pub returns-clause-exact : goal.returns-clause-exact
returns-clause-exact c =
    let answer = c.endplate.ensures in
    (endplate_placed _ c.in_bytes.ensures c.endplate_call-sheet.ensures answer.value answer.exact c.figure_at.ensures).1
