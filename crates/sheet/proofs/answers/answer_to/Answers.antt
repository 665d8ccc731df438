-- `answers::answer_to` meets its contract. Assumes nothing.
use Rattle.std.proofs.Common.{ap, ◌∙◌, ◌≡◌}
use Rattle.sheet.specs.Sheet.{part_of, sheet_of, answer_of}
use Rattle.sheet.proofs.Answered.{malformed_answered, answered_as}
use Rattle.sheet.proofs.NamedPart.{sheet_by, by_part}
use Rattle.sheet.proofs.answers.answer_to.Goals as goal
use Rattle.sheet.proofs.answers.answer_to.Goals.{After-named_part}

-- the sheet, by the part that was found
found : (c : After-named_part) → sheet_by c.args.text.now c.named_part.result ≡ sheet_of c.args.text.now
found c = ap (sheet_by c.args.text.now) c.named_part.ensures ∙ by_part c.args.text.now

pub returns-in-Some-Endplate : goal.returns-in-Some-Endplate
unfolding answer_of part_of
returns-in-Some-Endplate c =
    let w = goal.at.returns-in-Some-Endplate c in
    let by = rw (c.in-Some-Endplate.is, c.in-Some-Endplate.field-0-is) at (found w.After-named_part) in
    let p = answered_as (rw c.next_line.ensures at c.endplate_answer.ensures) by in
    record { value = p.0; numbers = p.1.0; exact = p.1.1 }

pub returns-in-Some-BlindFlange : goal.returns-in-Some-BlindFlange
unfolding answer_of part_of
returns-in-Some-BlindFlange c =
    let w = goal.at.returns-in-Some-BlindFlange c in
    let by = rw (c.in-Some-BlindFlange.is, c.in-Some-BlindFlange.field-0-is) at (found w.After-named_part) in
    let p = answered_as (rw c.next_line-in-Some-BlindFlange.ensures at c.blind_flange_answer.ensures) by in
    record { value = p.0; numbers = p.1.0; exact = p.1.1 }

pub returns-in-None : goal.returns-in-None
unfolding answer_of
returns-in-None c =
    let w = goal.at.returns-in-None c in
    let by = rw c.in-None.is at (found w.After-named_part) in
    let p = answered_as (malformed_answered 1 (rw c.refused.ensures)) by in
    record { value = p.0; numbers = p.1.0; exact = p.1.1 }
