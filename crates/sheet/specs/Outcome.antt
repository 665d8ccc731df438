-- What a call with a text and a lent space answers, document 01's numbers for it, and what the space holds then.
use Rattle.std.specs.Prelude.{ℕ, Bool, cond, List, leb, length}
use Rattle.rules.specs.Answer.{Answer}
use Rattle.rules.specs.Answer.{Endplate, BlindFlange, Refused as Answer-as-Refused}
use Rattle.report.specs.Report.{report_text}
use Rattle.report.specs.Space.{laid}
use Rattle.sheet.specs.Sheet.{sheet_of, answer_of, sheet_cause, sheet_figure}
use Rattle.limits.specs.Cause.{number_of}
use Rattle.sheet.specs.declared.Outcome.{Outcome as Returned}
use Rattle.sheet.specs.declared.Outcome.TheVariants as returned

-- what a call answers, in document 01's numbers: an accepted sheet's report, a cause with its figure, or a space too short;
-- the length is that of the report
pub data Outcome : Type 0 where
  Report : ℕ → Outcome
  Refused : ℕ → ℕ → ℕ → Outcome
  ShortSpace : ℕ → Outcome

-- what is returned
abbrev pub in_numbers : Returned → Outcome
in_numbers (returned.Report n) = Report n
in_numbers (returned.Refused r n) = Refused (number_of r.cause) r.figure n
in_numbers (returned.ShortSpace n) = ShortSpace n

-- the report that results, written or not, and its length
abbrev pub report_for : List ℕ → List ℕ
report_for text = report_text (answer_of text)

abbrev pub length_for : List ℕ → ℕ
length_for text = length (report_for text)

-- an answer whose report, of this length, was written
abbrev pub written : Answer → ℕ → Outcome
written (Endplate f plate) n = Report n
written (BlindFlange f plate) n = Report n
written (Answer-as-Refused cause figure) n = Refused cause figure n

-- a space of this length is long enough for the report, or 15
abbrev pub outcome : Answer → ℕ → Outcome
outcome answer room =
    let n = length (report_text answer) in
    cond (leb n room) (written answer n) (ShortSpace n)

unfoldable pub outcome_of : List ℕ → List ℕ → Outcome
outcome_of text space = outcome (answer_of text) (length space)

-- the report from the front of the space and the old bytes past it; the old bytes where it is too short
unfoldable pub space_of : List ℕ → List ℕ → List ℕ
space_of text space = laid 0 (report_for text) space

-- ---- the numbers that document 01 gives for a text and a space

-- the report that results is not longer than the space
abbrev pub fits : List ℕ → List ℕ → Bool
fits text space = leb (length_for text) (length space)

-- cause: 15 where the space is shorter than the report
unfoldable pub cause_for : List ℕ → List ℕ → ℕ
cause_for text space = cond (fits text space) (sheet_cause (sheet_of text)) 15

-- the figure returned with it; that of 15 is the length needed
unfoldable pub figure_for : List ℕ → List ℕ → ℕ
figure_for text space = cond (fits text space) (sheet_figure (sheet_of text)) (length_for text)

-- ---- and those of an outcome

-- cause, 0 if none
abbrev pub cause_of : Outcome → ℕ
cause_of (Report n) = 0
cause_of (Refused cause figure n) = cause
cause_of (ShortSpace n) = 15

-- the figure returned with it
abbrev pub figure_of : Outcome → ℕ
figure_of (Report n) = 0
figure_of (Refused cause figure n) = figure
figure_of (ShortSpace n) = n

-- the length of the report that results
abbrev pub length_of : Outcome → ℕ
length_of (Report n) = n
length_of (Refused cause figure n) = n
length_of (ShortSpace n) = n
