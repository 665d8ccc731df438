-- `figures::spell` meets its contract. Assumes nothing.
use Rattle.std.proofs.Common.{◌≡◌, ◌++◌, ap, ◌∙◌, arith, length, max, min}
use Rattle.std.specs.List.{reduce, sum}
use Rattle.text.specs.Ascii.{ascii}
use Rattle.report.specs.Decimal.{decimal, number_line}
use Rattle.batch.specs.Summary.{accepted, refused, excesses, sheet_numbers, line_of_some}
use Rattle.batch.specs.Summary.{summary_of, summary_for, answers_for}
use Rattle.batch.proofs.Spelled.{added, joined, refused_met}
use Rattle.batch.proofs.figures.spell.Goals as goal

pub returns : goal.returns
unfolding summary_for summary_of decimal
returns c =
    let t = c.tallied-tally.ensures in
    let n = ap length c.new-lines.ensures in
    let a = c.add_line.ensures in
    let b = c.add_line-2.ensures in
    let d = c.add_line-3.ensures in
    let m = c.add_met.ensures in
    let s = c.add_line-4.ensures in
    let answers = answers_for c.args.text.now in
    let xs = excesses answers in
    let pieces_line : c.add_line.new.text.items
    ≡ c.new-lines.result.items ++ number_line (ascii "pieces") (length answers) =
    rw t.pieces at (added _ _ _ a.fits a.line (omega (arith, n))) in
    let accepted_line : c.add_line-2.new.text.items
    ≡ c.add_line.new.text.items ++ number_line (ascii "accepted") (accepted answers) =
    rw (c.len.ensures.value, t.accepted) at (added _ _ _ b.fits b.line (omega (arith, a.short, n))) in
    let refused_line : c.add_line-3.new.text.items
    ≡ c.add_line-2.new.text.items ++ number_line (ascii "refused") (refused answers) =
    rw (c.len-2.ensures.value, t.refused) at (added _ _ _ d.fits d.line (omega (arith, a.short, b.short, n))) in
    let under = refused_met c.tallied-tally.result.causes.items answers t.causes sheet_numbers in
    let met = (rw c.deref.ensures.0 at m.line) ∙ ap (λ lines. c.add_line-3.new.text.items ++ lines) under in
    let sum_line : c.add_line-4.new.text.items ≡ c.add_met.new.lines.items ++ number_line (ascii "sum") (sum xs) =
    rw (c.sum.ensures, c.deref-2.ensures.0, t.excesses) at
    (added _ _ _ s.fits s.line (omega (arith, a.short, b.short, d.short, m.short, n))) in
    let least : c.add_some.new.lines.items
    ≡ c.add_line-4.new.text.items ++ line_of_some (ascii "least") (reduce min xs) =
    rw (c.least.ensures, c.deref-3.ensures.0, t.excesses) at c.add_some.ensures.line in
    let greatest : c.add_some-2.new.lines.items
    ≡ c.add_some.new.lines.items ++ line_of_some (ascii "greatest") (reduce max xs) =
    rw (c.greatest.ensures, c.deref-4.ensures.0, t.excesses) at c.add_some-2.ensures.line in
    joined _ _ _ _ _ _ _ c.new-lines.ensures pieces_line accepted_line refused_line met sum_line least greatest
