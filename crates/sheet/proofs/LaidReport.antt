-- What the call answers and leaves, from the answer to the text and the report that was laid. Assumes nothing.
use Prim.Native.Nat.{ℕ, ◌≤◌, ◌<◌}
use mathlib.Core.List.{List}
use mathlib.Core.Path.{◌≡◌, refl, ◌∙◌}
use borrow.Author.Tests.{le-leb, lt-leb}
use lib.ListN.{length}
use Rattle.std.specs.Prelude.{Ok}
use Rattle.rules.specs.Answer.{cause_of as answer_cause, figure_of as answer_figure, report_of, in_numbers}
use Rattle.rules.specs.Answer.{Answer}
use Rattle.rules.specs.Answer.{Endplate, BlindFlange, Refused}
use Rattle.report.specs.Report.{report_text}
use Rattle.report.specs.Space.{laid}
use Rattle.sheet.specs.Sheet.{sheet_of, answer_of, sheet_report}
use Rattle.sheet.specs.Outcome.{written, outcome_of, space_of, cause_for, figure_for, length_for}
use Rattle.sheet.specs.Outcome.{Outcome, Report, ShortSpace, cause_of, figure_of, length_of}
use Rattle.sheet.specs.Exact.{SheetExact, Answered}
use Rattle.rules.specs.declared.Size.{Size}
use Rattle.rules.specs.declared.Size.TheVariants as sizes
use Rattle.sheet.proofs.PrintedExact.{report_exact}

-- the answer is that to the text, and n and d' are its report's length and the space after it was laid
pub record Laid (text d : List ℕ) (answer : Answer) (n : ℕ) (d' : List ℕ) : Type 0 where
  pub promised : Answered (sheet_of text) answer
  pub size : n ≡ length (report_text answer)
  pub content : d' ≡ laid 0 (report_text answer) d

-- an outcome, and its numbers
abbrev pub OutcomeTold : List ℕ → List ℕ → Outcome → Type 0
OutcomeTold text d r =
    (r ≡ outcome_of text d)
    × ((cause_of r ≡ cause_for text d)
    × (figure_of r ≡ figure_for text d)
    × (length_of r ≡ length_for text)
    × (report_of (answer_of text) ≡ sheet_report (sheet_of text)))

-- those of a report that was written are the answer's
written_numbers : (a : Answer) (n : ℕ)
    → (cause_of (written a n) ≡ answer_cause a)
    × (figure_of (written a n) ≡ answer_figure a)
    × (length_of (written a n) ≡ n)
written_numbers (Endplate f plate) n = (refl, refl, refl)
written_numbers (BlindFlange f plate) n = (refl, refl, refl)
written_numbers (Refused cause figure) n = (refl, refl, refl)

module _ {text d d' : List ℕ} {answer : Answer} {n : ℕ} (l : Laid text d answer n d') where
  known : answer ≡ answer_of text
  unfolding answer_of
  known = l.promised.0

  pub space : d' ≡ space_of text d
  unfolding space_of
  space = l.content ∙ rw known

  pub laid_exact : SheetExact text
  laid_exact = rw (← known) (report_exact (sheet_of text) answer l.promised.1.1)

  pub short_told : length d < n → OutcomeTold text d (ShortSpace n)
  unfolding outcome_of cause_for figure_for
  short_told h = rw (← known, ← l.size, lt-leb n (length d) h) (refl, (refl, refl, refl, l.promised.1.0.2))

  pub written_told : {a : Answer} → answer ≡ a → n ≤ length d → OutcomeTold text d (written a n)
  unfolding outcome_of cause_for figure_for
  written_told {a} e h =
      let numbers = l.promised.1.0 in
      let w = written_numbers a n in
      rw (← known, ← l.size, le-leb n (length d) h, ← numbers.0, ← numbers.1, e)
      (refl, (w.0, w.1, w.2, rw e at numbers.2))

  -- a part that is sized has its report written, whichever part it is
  pub sized_told : (size : Size) → answer ≡ in_numbers (Ok size) → n ≤ length d → OutcomeTold text d (Report n)
  sized_told (sizes.Endplate f plate) e h = written_told e h
  sized_told (sizes.BlindFlange f plate) e h = written_told e h
