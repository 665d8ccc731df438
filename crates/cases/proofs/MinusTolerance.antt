-- Mill minus tolerance (R-13): rows of it. Assumes nothing.
use Rattle.std.proofs.Common.{◌≡◌, ℕ, List, [], ◌∷◌, map, refl}
use Rattle.std.specs.Prelude.{Option, Some, None}
use Prim.Native.String.{String}
use Rattle.text.specs.Index.{index_of, index_after}
use Rattle.tables.specs.DesignStress.{column, design_stress_of}
use Rattle.root.specs.Root.{ceil_div, whole_root_by, least_root, least_root_over}
use Rattle.plates.specs.declared.Plate.{Plate}
use Rattle.plates.specs.Plates.{smallest_serving, toleranced}
use Rattle.limits.specs.Causes.{first_of}
use Rattle.limits.specs.Limits.{endplate_causes}
use Rattle.limits.specs.Stress.{endplate_stress}
use Rattle.rules.specs.Endplate.{endplate_thickness}
use Rattle.rules.specs.Figures.{endplate_figures}
use Rattle.rules.specs.Answer.{endplate_sizing, endplate_answer}
use Rattle.text.specs.Line.{value_of, before, after}
use Rattle.text.specs.Number.{number_of}
use Rattle.text.specs.Plates.{entry_of, plates_listed, plates_of}
use Rattle.report.specs.Decimal.{decimal, number_line}
use Rattle.report.specs.Report.{report_text}
use Rattle.lines.specs.Fields.{line_of}
use Rattle.lines.specs.Lines.{plates_line, lines_of}
use Rattle.sheet.specs.Sheet.{part_of, sheet_of, answer_of}
use Rattle.sheet.specs.Outcome.{report_for}
use Rattle.cases.proofs.Starred.{text_of}
use Rattle.cases.proofs.UsualStock.{end_of}

-- ---- rows of the choice: a total, a list and the plate of it that is named

abbrev choices : List (ℕ × (List Plate × Option Plate))
choices =
    -- what is left at the total, and below it
    (2470, (toleranced 30 2500 ∷ [], Some (toleranced 30 2500)))
    ∷ (2471, (toleranced 30 2500 ∷ [], None))
    -- nothing left, and less than nothing
    ∷ (0, (toleranced 300 300 ∷ [], Some (toleranced 300 300)))
    ∷ (0, (toleranced 301 300 ∷ [], None))
    -- the smallest by its name, not by what is left of it
    ∷ (2400, (toleranced 0 2600 ∷ toleranced 10 2500 ∷ toleranced 20 2700 ∷ [], Some (toleranced 10 2500)))
    -- the first of equals, in both orders; the first that serves
    ∷ (2470, (toleranced 20 2500 ∷ toleranced 10 2500 ∷ [], Some (toleranced 20 2500)))
    ∷ (2470, (toleranced 10 2500 ∷ toleranced 20 2500 ∷ [], Some (toleranced 10 2500)))
    ∷ (2490, (toleranced 20 2500 ∷ toleranced 10 2500 ∷ [], Some (toleranced 10 2500)))
    ∷ []

chosen : map (λ row. smallest_serving row.0 row.1.0) choices ≡ map (λ row. row.1.1) choices
unfolding smallest_serving
chosen = refl

-- ---- rows of sheets: the end's total is 2500

abbrev reported : String → List String
reported plate = "stress=108" ∷ "need=2500" ∷ "total=2500" ∷ plate ∷ []

abbrev at_fault : List String
at_fault = "refused=1" ∷ "place=9" ∷ []

abbrev table : List (String × List String)
table =
    ("plates=2500:0", reported "plate=2500")
    ∷ ("plates=2500:1,2600", reported "plate=2600")
    ∷ ("plates=2500,2510:10,2600:100", reported "plate=2500")
    ∷ ("plates=2600:100", reported "plate=2600")
    ∷ ("plates=2600:101", "refused=14" ∷ "place=2500" ∷ [])
    ∷ ("plates=2600:2601", "refused=14" ∷ "place=2500" ∷ [])
    ∷ ("plates=:30", at_fault)
    ∷ ("plates=2600:", at_fault)
    ∷ ("plates=2600:0:0", at_fault)
    ∷ ("plates=2600:03", at_fault)
    ∷ ("plates=2600: 3", at_fault)
    ∷ ("plates=2600:3,", at_fault)
    ∷ []

rows : map (λ row. report_for (text_of (end_of "pressure=1080" row.0))) table ≡ map (λ row. text_of row.1) table
unfolding column design_stress_of ceil_div whole_root_by least_root least_root_over endplate_stress endplate_thickness endplate_figures
    endplate_causes first_of endplate_sizing smallest_serving endplate_answer index_of index_after before after value_of number_of entry_of
    plates_listed plates_of decimal number_line report_text line_of plates_line lines_of part_of sheet_of answer_of
rows = refl
