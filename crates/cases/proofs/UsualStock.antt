-- An empty plate list (R-8): plates= answers as the usual stock written out, plates=none with the total. Assumes nothing.
use Rattle.std.proofs.Common.{◌≡◌, ℕ, List, [], ◌∷◌, map, sym, refl, ap, ◌∙◌}
use Prim.Native.String.{String}
use Rattle.std.specs.Prelude.{Some}
use Rattle.text.specs.Index.{index_of, index_after}
use Rattle.tables.specs.DesignStress.{column, design_stress_of}
use Rattle.root.specs.Root.{ceil_div, whole_root_by, least_root, least_root_over}
use Rattle.plates.specs.declared.Plate.{Plate}
use Rattle.plates.specs.Entries.{plates_in}
use Rattle.plates.specs.Plates.{smallest_serving, standard_plates, toleranced}
use Rattle.limits.specs.Causes.{first_of}
use Rattle.limits.specs.Limits.{endplate_causes}
use Rattle.limits.specs.Stress.{endplate_stress}
use Rattle.rules.specs.Endplate.{endplate_thickness}
use Rattle.rules.specs.Figures.{endplate_figures}
use Rattle.rules.specs.Answer.{endplate_sizing, endplate_answer}
use Rattle.rules.specs.Answer.{without_plate}
use Rattle.rules.proofs.Laws.{endplate_none, flange_none}
use Rattle.text.specs.Ascii.{ascii, line_feed}
use Rattle.text.specs.Line.{value_of, before, after}
use Rattle.text.specs.Number.{number_of}
use Rattle.text.specs.Plates.{entry_of, plates_listed, plates_of}
use Rattle.text.specs.Laws.Joined.{Lacks}
use Rattle.report.specs.Decimal.{decimal, number_line}
use Rattle.report.specs.Report.{report_text}
use Rattle.lines.specs.Fields.{line_of}
use Rattle.lines.specs.Lines.{plates_line, lines_of}
use Rattle.sheet.specs.Sheet.{Sheet, malformed, endplate, blind_flange, part_of, sheet_of, answered, answer_of}
use Rattle.sheet.specs.Outcome.{report_for}
use Rattle.cases.proofs.Starred.{text_of}
use Rattle.cases.proofs.OtherReading.{present}
use Rattle.cases.proofs.OtherPlates.{sheet_text, AreLines, with_plates, other_plates}
use Rattle.cases.proofs.FormerPlates.{former_plates, former_sheet_of, Lists, kept}

-- ---- plates= is the thirteen entries written out

abbrev pub written_plates : List ℕ
written_plates =
    ascii "300:30,400:30,500:30,600:30,800:30,1000:30,1200:30,1500:30,2000:30,2500:30,3000:30,4000:30,5000:30"

written_out : plates_of written_plates ≡ Some standard_plates
unfolding plates_of standard_plates plates_listed entry_of number_of before after index_of index_after
written_out = refl

-- and the calls without a list answer as those with these numbers
abbrev pub written_numbers : List ℕ
written_numbers =
    300 ∷ 30 ∷ 400 ∷ 30 ∷ 500 ∷ 30 ∷ 600 ∷ 30 ∷ 800 ∷ 30 ∷ 1000 ∷ 30 ∷ 1200 ∷ 30 ∷ 1500 ∷ 30 ∷ 2000 ∷ 30 ∷ 2500 ∷ 30 ∷ 3000 ∷ 30
    ∷ 4000 ∷ 30 ∷ 5000 ∷ 30 ∷ []

pub numbers_out : plates_in written_numbers ≡ standard_plates
unfolding plates_in standard_plates
numbers_out = refl

-- a sheet's lines up to the plates'
module _ (us : List (List ℕ)) (lines : AreLines us) where
  -- two plates lines that are read
  other_line :
      (value other : List ℕ) (plates others : List Plate) →
      Lacks line_feed value →
      Lacks line_feed other →
      plates_of value ≡ Some plates →
      plates_of other ≡ Some others →
      sheet_of (sheet_text us value) ≡ with_plates plates (sheet_of (sheet_text us other))
  other_line value other plates others l l' e e' =
      sym (present (sheet_text us value))
      ∙ other_plates plates_of value other plates others l l' e e' us lines
      ∙ ap (with_plates plates) (present (sheet_text us other))

  pub standard_written : sheet_of (sheet_text us []) ≡ sheet_of (sheet_text us written_plates)
  unfolding plates_of index_of index_after
  standard_written =
      let p = standard_plates in
      other_line [] written_plates p p refl refl refl written_out
      ∙ sym (other_line written_plates written_plates p p refl refl written_out written_out)

  pub standard_report : report_for (sheet_text us []) ≡ report_for (sheet_text us written_plates)
  unfolding answer_of
  standard_report = ap (λ (s : Sheet). report_text (answered s)) standard_written

-- ---- plates=none

sheet_none : (s : Sheet) → answered (with_plates [] s) ≡ without_plate (answered s)
sheet_none (malformed line) = refl
sheet_none (endplate s plates) = endplate_none s plates
sheet_none (blind_flange s plates) = flange_none s plates

-- a sheet that is not malformed
abbrev pub IsRead : Sheet → Type 0
IsRead (malformed line) = ⊥
IsRead (endplate s plates) = Unit
IsRead (blind_flange s plates) = Unit

module _ (us : List (List ℕ)) (lines : AreLines us) where
  pub none-total :
      (value : List ℕ) (plates : List Plate) →
      Lacks line_feed value →
      plates_of value ≡ Some plates →
      answer_of (sheet_text us (ascii "none")) ≡ without_plate (answer_of (sheet_text us value))
  unfolding answer_of plates_of index_of index_after
  none-total value plates l e =
      ap answered (other_line us lines (ascii "none") value [] plates refl l refl e)
      ∙ sheet_none (sheet_of (sheet_text us value))

  -- plates=none is read as plates= was, and so answered, wherever that was read
  pub as_it_was : IsRead (former_sheet_of (sheet_text us [])) → sheet_of (sheet_text us (ascii "none")) ≡ former_sheet_of (sheet_text us [])
  unfolding plates_of plates_listed entry_of number_of before after index_of index_after
  as_it_was r =
      let one = ascii "1" in
      let former = former_sheet_of (sheet_text us []) in
      let with-one = other_plates former_plates one [] (toleranced 0 1 ∷ []) [] refl refl refl refl us lines in
      let same-one = kept (sheet_text us one) (rw with-one (lists former r)) ∙ with-one in
      other_line us lines (ascii "none") one [] (toleranced 0 1 ∷ []) refl refl refl refl
      ∙ ap (with_plates []) same-one
      ∙ again former
      ∙ sym (other_plates former_plates [] [] [] [] refl refl refl refl us lines)
    where
      lists : (s : Sheet) → IsRead s → Lists (with_plates (toleranced 0 1 ∷ []) s)
      lists (malformed line) r = absurd r
      lists (endplate s plates) r = tt
      lists (blind_flange s plates) r = tt

      again : (s : Sheet) → with_plates [] (with_plates (toleranced 0 1 ∷ []) s) ≡ with_plates [] s
      again (malformed line) = refl
      again (endplate s plates) = refl
      again (blind_flange s plates) = refl

  pub report_as_it_was :
      IsRead (former_sheet_of (sheet_text us [])) →
      report_for (sheet_text us (ascii "none")) ≡ report_text (answered (former_sheet_of (sheet_text us [])))
  unfolding answer_of
  report_as_it_was r = ap (λ (s : Sheet). report_text (answered s)) (as_it_was r)

-- ---- rows of it

-- an end of 500 mm; at 1.080 N/mm² it needs 25.00 mm
abbrev pub end_of : String → String → List String
end_of pressure plates =
    "part=end"
    ∷ "form=c"
    ∷ "material=1"
    ∷ "shell=1"
    ∷ "temp=150"
    ∷ pressure
    ∷ "dia=5000"
    ∷ "allow=0"
    ∷ plates
    ∷ []

-- a sheet and its report: just a plate of the stock less its minus, just above, and at its name; its total; what is no list
abbrev table : List (List String × List String)
table =
    (end_of "pressure=1054" "plates=", "stress=108" ∷ "need=2470" ∷ "total=2470" ∷ "plate=2500" ∷ [])
    ∷ (end_of "pressure=1055" "plates=", "stress=108" ∷ "need=2471" ∷ "total=2471" ∷ "plate=3000" ∷ [])
    ∷ (end_of "pressure=1080" "plates=", "stress=108" ∷ "need=2500" ∷ "total=2500" ∷ "plate=3000" ∷ [])
    ∷ (end_of "pressure=1080" "plates=none", "refused=14" ∷ "place=2500" ∷ [])
    ∷ (end_of "pressure=2001" "plates=none", "refused=3" ∷ "place=0" ∷ [])
    ∷ (end_of "pressure=1080" "plates=None", "refused=1" ∷ "place=9" ∷ [])
    ∷ (end_of "pressure=1080" "plates=nonE", "refused=1" ∷ "place=9" ∷ [])
    ∷ (end_of "pressure=1080" "plates=none,300", "refused=1" ∷ "place=9" ∷ [])
    ∷ (end_of "pressure=1080" "plates=3000,", "refused=1" ∷ "place=9" ∷ [])
    ∷ []

rows : map (λ row. report_for (text_of row.0)) table ≡ map (λ row. text_of row.1) table
unfolding column design_stress_of ceil_div whole_root_by least_root least_root_over endplate_stress endplate_thickness endplate_figures
    endplate_causes first_of endplate_sizing smallest_serving standard_plates endplate_answer index_of index_after before after value_of
    number_of entry_of plates_listed plates_of decimal number_line report_text line_of plates_line lines_of part_of sheet_of answer_of
rows = refl
