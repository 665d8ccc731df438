-- The text of an answer meets its contract. Assumes nothing.
use Rattle.std.proofs.Common.{rules}
use Rattle.report.specs.Report.{report_text}
use Rattle.report.proofs.lines.AnswerTold.text.Goals as goal

pub returns-in-Ok-Endplate : goal.returns-in-Ok-Endplate
unfolding report_text
returns-in-Ok-Endplate c = search rules

pub returns-in-Ok-BlindFlange : goal.returns-in-Ok-BlindFlange
unfolding report_text
returns-in-Ok-BlindFlange c = search rules
