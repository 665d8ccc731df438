-- `write` meets its contract. Assumes nothing.
use Rattle.std.proofs.Common.{◌≡◌, arith, rules}
use Rattle.std.proofs.lemmas.List.{drop-drop}
use Rattle.report.specs.Report.{report_text}
use Rattle.report.specs.Space.{written_at, laid}
use Rattle.report.proofs.write.Goals as goal

pub returns-then-length-out-clause-content : goal.returns-then-length-out-clause-content
unfolding written_at laid
returns-then-length-out-clause-content g c =
    let copied : c.copy_from_slice.new.self ≡ report_text (g.A.Told.told c.args.answer) = search rules in
    grind (arith, copied, drop-drop)

pub returns-else-at-out-clause-content : goal.returns-else-at-out-clause-content
unfolding laid
returns-else-at-out-clause-content g c = grind arith
