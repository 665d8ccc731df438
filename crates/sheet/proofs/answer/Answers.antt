-- `answer` meets its contract. Assumes nothing.
use Rattle.std.proofs.Common.{ap, arith}
use Rattle.rules.specs.Answer.{in_numbers}
use Rattle.sheet.specs.Sheet.{answer_of}
use Rattle.sheet.proofs.LaidReport.{Laid, space, short_told, written_told, sized_told, laid_exact}
use Rattle.sheet.proofs.answer.Goals as goal
use Rattle.sheet.proofs.answer.Goals.{After-write-length}

laid_out :
    (c : After-write-length) →
    Laid c.args.text.now c.args.out.now (in_numbers c.answer_to-answer.result) c.write-length.result c.write-length.new.out
unfolding answer_of
laid_out c =
    let made = c.answer_to-answer.ensures in
    let written = c.write-length.ensures in
    record { promised = (made.value, (made.numbers, made.exact)); size = written.value; content = written.content }

pub returns-then-out-length : goal.returns-then-out-length
returns-then-out-length c =
    let l = laid_out (goal.at.returns-then-out-length c).After-write-length in
    let t = short_told l (omega arith) in
    record { value = t.0; numbers = t.1; content = space l; exact = laid_exact l; short = c.write-length.ensures.short }

pub returns-in-Ok : goal.returns-in-Ok
returns-in-Ok c =
    let l = laid_out (goal.at.returns-in-Ok c).After-write-length in
    let t = sized_told l _ (ap in_numbers c.in-Ok.is) (omega arith) in
    record { value = t.0; numbers = t.1; content = space l; exact = laid_exact l; short = c.write-length.ensures.short }

pub returns-in-Err : goal.returns-in-Err
returns-in-Err c =
    let l = laid_out (goal.at.returns-in-Err c).After-write-length in
    let t = written_told l (ap in_numbers c.in-Err.is) (omega arith) in
    record { value = t.0; numbers = t.1; content = space l; exact = laid_exact l; short = c.write-length.ensures.short }
