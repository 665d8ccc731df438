-- Laws that callers cite: in a space that is long enough the report stands at the front, and demand 3 holds of it there; and an
-- outcome is known by its numbers. Assumes nothing.
use Rattle.std.specs.Prelude.{ℕ, ◌≤◌, List, ◌≡◌, length, take}
use Rattle.rules.specs.Answer.{Accepted}
use Rattle.report.specs.Laws.Laid.{laid_front}
use Rattle.sheet.specs.Sheet.{sheet_of, answer_of}
use Rattle.sheet.specs.Outcome.{in_numbers, report_for, length_for, space_of}
use Rattle.sheet.specs.Exact.{ReportExact, SheetExact}
use Rattle.std.proofs.Common.{arith}
use Rattle.limits.specs.Laws.{named_by_number}
use Rattle.sheet.specs.declared.Outcome.{Outcome}
use Rattle.sheet.specs.declared.Outcome.TheVariants as outcomes

module _ (text space : List ℕ) (room : length_for text ≤ length space) where
  pub space_front : take (length_for text) (space_of text space) ≡ report_for text
  unfolding space_of
  space_front = laid_front (report_for text) space room

  pub space_exact :
      SheetExact text →
      Accepted (answer_of text) →
      ReportExact (sheet_of text) (take (length_for text) (space_of text space))
  space_exact exact accepted = rw space_front (exact accepted)

-- no two outcomes have the same numbers: what is promised of the numbers is promised of the outcome itself
pub outcome_named : (a b : Outcome) → in_numbers a ≡ in_numbers b → a ≡ b
outcome_named (outcomes.Report n) (outcomes.Report m) e = grind arith
outcome_named (outcomes.Report n) (outcomes.Refused s m) e = grind arith
outcome_named (outcomes.Report n) (outcomes.ShortSpace m) e = grind arith
outcome_named (outcomes.Refused r n) (outcomes.Report m) e = grind arith
outcome_named (outcomes.Refused r n) (outcomes.Refused s m) e = grind (arith, named_by_number)
outcome_named (outcomes.Refused r n) (outcomes.ShortSpace m) e = grind arith
outcome_named (outcomes.ShortSpace n) (outcomes.Report m) e = grind arith
outcome_named (outcomes.ShortSpace n) (outcomes.Refused s m) e = grind arith
outcome_named (outcomes.ShortSpace n) (outcomes.ShortSpace m) e = grind arith
