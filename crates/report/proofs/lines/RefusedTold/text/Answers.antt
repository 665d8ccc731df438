-- The text of a refusal by its numbers meets its contract. Assumes nothing.
use Rattle.std.proofs.Common.{rules}
use Rattle.report.specs.Report.{report_text}
use Rattle.report.proofs.lines.RefusedTold.text.Goals as goal

pub returns : goal.returns
unfolding report_text
returns c = search rules
