-- Demand 3 of the numbers printed: those read out of the report's bytes satisfy the exact inequalities of the sheet.
-- That it holds of the bytes in the space, where the report fits, is a law (Laws).
use Rattle.std.specs.Prelude.{ℕ, List, ◌≡◌}
use Prim.Native.String.{String}
use Rattle.rules.specs.Answer.{Accepted, cause_of, figure_of, report_of}
use Rattle.rules.specs.Exact.{EndplateThicknessExact, EndplateExact, ThicknessExact, EdgeExact, BlindFlangeExact}
use Rattle.rules.specs.Answer.{Answer}
use Rattle.report.specs.Printed.{printed}
use Rattle.std.specs.Prelude.{Some}
use Rattle.sheet.specs.Sheet.{Sheet, malformed, endplate, blind_flange, sheet_of, answer_of, answered}
use Rattle.sheet.specs.Sheet.{sheet_cause, sheet_figure, sheet_report}
use Rattle.sheet.specs.Outcome.{report_for}

-- the line of this key shows a number of which P holds
abbrev pub Shows : String → List ℕ → (ℕ → Type 0) → Type 0
Shows key report P = (n : ℕ) × (printed key report ≡ Some n) × P n

-- an accepted sheet's report: its need, and a blind flange's edge
abbrev pub ReportExact : Sheet → List ℕ → Type 0
ReportExact (malformed line) report = ⊥
ReportExact (endplate s plates) report = Shows "need" report (EndplateThicknessExact s)
ReportExact (blind_flange s plates) report = Shows "need" report (ThicknessExact s) × Shows "edge" report (EdgeExact s)

-- a text that is accepted: of the report that results, whatever the space
abbrev pub SheetExact : List ℕ → Type 0
SheetExact text = Accepted (answer_of text) → ReportExact (sheet_of text) (report_for text)

-- of the answer before it is text
abbrev pub AnswerExact : Sheet → Answer → Type 0
AnswerExact (malformed line) answer = Accepted answer → ⊥
AnswerExact (endplate s plates) answer = EndplateExact s answer
AnswerExact (blind_flange s plates) answer = BlindFlangeExact s answer

-- what is promised of the answer to a sheet: it is the definition's, in document 01's numbers too, and demand 3 holds of it
abbrev pub Answered : Sheet → Answer → Type 0
Answered sheet r =
    (r ≡ answered sheet)
    × (((cause_of r ≡ sheet_cause sheet) × (figure_of r ≡ sheet_figure sheet) × (report_of r ≡ sheet_report sheet))
    × AnswerExact sheet r)
