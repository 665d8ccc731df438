-- The six empty programs of document 01 ("Contracts and the cases"): each breaks the promise of `sheet::answer` at
-- sheets named here. Assumes nothing.
use Rattle.std.proofs.Common.{◌≡◌, ℕ, ◌≤◌, List, length, get_or, take, replicate, sym, refl, ap, ◌∙◌, arith}
use Prim.Native.String.{String}
use Rattle.text.specs.Index.{index_of, index_after}
use Rattle.rules.specs.Answer.{Accepted}
use Rattle.rules.specs.Answer.{Answer}
use Rattle.rules.specs.Answer.{Endplate, BlindFlange, Refused as Answer-as-Refused}
use Rattle.text.specs.Ascii.{line_feed}
use Rattle.text.specs.Line.{before, value_of}
use Rattle.report.specs.Decimal.{number_line}
use Rattle.report.specs.Printed.{printed_from, printed}
use Rattle.std.specs.Prelude.{Option, Some}
use Rattle.report.specs.Report.{report_text}
use Rattle.report.specs.Space.{written_at, laid}
use Rattle.sheet.specs.Sheet.{sheet_of, answer_of}
use Rattle.sheet.specs.Outcome.{report_for, length_for, written, outcome_of, space_of, cause_for, figure_for}
use Rattle.sheet.specs.Outcome.{cause_of, figure_of, length_of}
use Rattle.sheet.specs.Exact.{ReportExact}
use Rattle.sheet.specs.Laws.{space_front}
use Rattle.sheet.specs.Outcome.{Outcome, Report}
use Rattle.cases.proofs.Starred.{text_of, end, sized, blind_sheet, blind_report, row}

-- what a program answers to a text and a space, and what it leaves in the space
abbrev pub Program : Type 0
Program = List ℕ → List ℕ → Outcome × List ℕ

-- the report that it leaves: as many bytes as it says, from the front of the space
abbrev pub leaves : Program → List ℕ → List ℕ → List ℕ
leaves f text space = take (length_of (f text space).0) (f text space).1

-- demand 3 of a program: of the report that it leaves for an accepted text, where there is room
abbrev pub DemandThree : Program → Type 0
DemandThree f =
    (text space : List ℕ) →
    Accepted (answer_of text) →
    length_for text ≤ length space →
    ReportExact (sheet_of text) (leaves f text space)

-- the promise of `sheet::answer`, at one text and one space
pub record Kept (f : Program) (text space : List ℕ) : Type 0 where
  pub outcome : (f text space).0 ≡ outcome_of text space
  pub cause : cause_of (f text space).0 ≡ cause_for text space
  pub figure : figure_of (f text space).0 ≡ figure_for text space
  pub size : length_of (f text space).0 ≡ length_for text
  pub content : (f text space).1 ≡ space_of text space

abbrev pub Promise : Program → Type 0
Promise f = ((text space : List ℕ) → Kept f text space) × DemandThree f

-- ---- the sheets: document 01's printed one, and an end at two pressures

abbrev pub printed_sheet : List ℕ
printed_sheet = text_of blind_sheet

abbrev pub end_at : String → List ℕ
end_at pressure = text_of (end "form=c" "material=1" "shell=1" "temp=150" pressure)

-- a space of 200 zeros, where one space is enough
abbrev pub space : List ℕ
space = replicate 200 0

printed_report : report_for printed_sheet ≡ blind_report
printed_report = row 13

pub end_1080 : report_for (end_at "pressure=1080") ≡ sized "stress=108" "need=2500" "total=2500"
end_1080 = row 8

pub end_1081 : report_for (end_at "pressure=1081") ≡ sized "stress=108" "need=2502" "total=2502"
end_1081 = row 9

-- a report that begins with s, as in stress, is no refusal
pub not_refused : (a : Answer) (n : ℕ) → get_or (report_text a) 0 0 ≡ 115 → Accepted a × (written a n ≡ Report n)
unfolding report_text number_line
not_refused (Endplate f plate) n e = (refl, refl)
not_refused (BlindFlange f plate) n e = (refl, refl)
not_refused (Answer-as-Refused cause figure) n e = absurd (omega (arith, e))

printed-outcome : outcome_of printed_sheet space ≡ Report 108
unfolding outcome_of
printed-outcome = rw printed_report (not_refused (answer_of printed_sheet) 108 (rw printed_report)).1

-- the needs of the two ends, read out of their reports
need_1080 : printed "need" (report_for (end_at "pressure=1080")) ≡ Some 2500
unfolding printed_from index_of index_after value_of
need_1080 = rw end_1080

need_1081 : printed "need" (report_for (end_at "pressure=1081")) ≡ Some 2502
unfolding printed_from index_of index_after value_of
need_1081 = rw end_1081

two_needs : {n : Option ℕ} → n ≡ Some 2500 → n ≡ Some 2502 → ⊥
two_needs e e' = let same : ◌≡◌ {A = ℕ} 2500 2502 = cc in omega (arith, same)

-- ---- the programs

module _ (f : Program) (promise : Promise f) where
  -- where there is room, the report that it leaves is the one that results
  left : (text space : List ℕ) → length_for text ≤ length space → leaves f text space ≡ report_for text
  left text space room =
      let k = promise.0 text space in
      rw (k.size, k.content) (space_front text space room)

  -- refusing every sheet
  pub refuses_every_sheet : ((text space : List ℕ) → cause_of (f text space).0 ≡ 0 → ⊥) → ⊥
  refuses_every_sheet refuses =
      refuses printed_sheet space (ap cause_of ((promise.0 printed_sheet space).outcome ∙ printed-outcome))

  -- printing one thickness always, in any one space that is long enough for the reports of both ends
  pub one_thickness :
      (T : Option ℕ) (space : List ℕ) →
      43 ≤ length space →
      ((text : List ℕ) → printed "need" (leaves f text space) ≡ T) →
      ⊥
  one_thickness T space room prints =
      let one = end_at "pressure=1080" in
      let two = end_at "pressure=1081" in
      two_needs
      (sym (prints one) ∙ rw (left one space (rw end_1080 room)) need_1080)
      (sym (prints two) ∙ rw (left two space (rw end_1081 room)) need_1081)

  -- leaving the space untouched
  pub space_untouched : ((text space : List ℕ) → (f text space).1 ≡ space) → ⊥
  unfolding space_of laid written_at
  space_untouched untouched =
      let first : ◌≡◌ {A = ℕ} 0 115 =
      ap (λ d. get_or d 0 0) (sym (untouched printed_sheet space) ∙ (promise.0 printed_sheet space).content)
      ∙ ap (λ report. get_or (laid 0 report space) 0 0) printed_report in
      omega (arith, first)

  -- reading only the part line and inventing the rest
  pub part_line_only :
      ((text other space : List ℕ) → before line_feed text ≡ before line_feed other → f text space ≡ f other space) → ⊥
  unfolding before index_of index_after
  part_line_only reads =
      let one = end_at "pressure=1080" in
      let two = end_at "pressure=1081" in
      let same = ap (λ r. printed "need" (take (length_of r.0) r.1)) (reads one two space refl) in
      two_needs
      (rw (left one space (rw end_1080 (omega arith))) need_1080)
      (same ∙ rw (left two space (rw end_1081 (omega arith))) need_1081)

  -- returning an invented length: one that does not depend on the sheet, in any space
  pub invented_length : (n : ℕ) (space : List ℕ) → ((text : List ℕ) → length_of (f text space).0 ≡ n) → ⊥
  invented_length n space says =
      let one : 43 ≡ n = ap length (sym end_1080) ∙ sym (promise.0 (end_at "pressure=1080") space).size ∙ says _ in
      let two : 108 ≡ n = ap length (sym printed_report) ∙ sym (promise.0 printed_sheet space).size ∙ says _ in
      omega arith

  -- saying "no plate" before looking: 3200 serves
  pub no_plate_before_looking : cause_of (f printed_sheet space).0 ≡ 14 → ⊥
  no_plate_before_looking e =
      let none : ◌≡◌ {A = ℕ} 0 14 = sym (ap cause_of ((promise.0 printed_sheet space).outcome ∙ printed-outcome)) ∙ e in
      omega (arith, none)
