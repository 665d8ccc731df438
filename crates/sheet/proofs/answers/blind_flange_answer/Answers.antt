-- `answers::blind_flange_answer` meets its contract. Assumes nothing.
use Rattle.std.specs.Prelude.{true}
use Rattle.std.proofs.lemmas.List.{map-id}
use Rattle.std.proofs.lemmas.Result.{err_from_is_err_and}
use Rattle.sheet.specs.Sheet.{blind_flange}
use Rattle.sheet.specs.Exact.{Answered}
use Rattle.sheet.proofs.Answered.{answered_as}
use Rattle.sheet.proofs.Read.{fault_answered, lines_given}
use Rattle.sheet.proofs.answers.blind_flange_answer.Goals as goal

pub returns-in_err-read : goal.returns-in_err-read
returns-in_err-read c =
    let e = c.in_err-read.ensures in
    let out = err_from_is_err_and c.from_residual.result c.from_residual.ensures.1 in
    rw
    (out.1, out.2)
    (fault_answered true _ _ _ c.read_lines.result c.read_lines.ensures e.cases e.variant)

pub returns : goal.returns
returns c =
    let made = c.blind_flange.ensures in
    let said : Answered (blind_flange _ _) _ = (made.value, (made.numbers, made.exact)) in
    answered_as
    {other = blind_flange _ _}
    (rw (c.as_slice.ensures, map-id, c.from.ensures) at said)
    (lines_given true _ _ c.read_lines.result c.read_lines.ensures c.in_ok-read.ensures.cases)
