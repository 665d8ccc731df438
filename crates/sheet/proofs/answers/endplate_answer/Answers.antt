-- `answers::endplate_answer` meets its contract. Assumes nothing.
use Rattle.std.specs.Prelude.{false}
use Rattle.std.proofs.lemmas.List.{map-id}
use Rattle.sheet.specs.Sheet.{endplate}
use Rattle.sheet.specs.Exact.{Answered}
use Rattle.sheet.proofs.Answered.{answered_as}
use Rattle.sheet.proofs.Read.{lines_given}
use Rattle.sheet.proofs.answers.endplate_answer.Goals as goal

pub returns : goal.returns
returns c =
    let made = c.endplate.ensures in
    let said : Answered (endplate _ _) _ = (made.value, (made.numbers, made.exact)) in
    answered_as
    {other = endplate _ _}
    (rw (c.as_slice.ensures, map-id, c.from.ensures) at said)
    (lines_given false _ _ c.read_lines.result c.read_lines.ensures c.in_ok-read.ensures.cases)
