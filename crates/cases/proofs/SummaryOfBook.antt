-- A book's summary (R-3): rows of it. Assumes nothing.
use Rattle.std.proofs.Common.{◌≡◌, ℕ, List, [], ◌∷◌, ◌++◌, length, map, refl, replicate}
use Rattle.std.specs.Prelude.{Option, Some, None, flat_map}
use Rattle.std.specs.List.{concat}
use Prim.Native.String.{String}
use Rattle.text.specs.Index.{index_of, index_after}
use Rattle.tables.specs.DesignStress.{column, design_stress_of}
use Rattle.root.specs.Root.{ceil_div, whole_root_by, least_root, least_root_over}
use Rattle.plates.specs.Plates.{smallest_serving, standard_plates, toleranced}
use Rattle.limits.specs.Causes.{first_of}
use Rattle.limits.specs.Limits.{endplate_causes, flange_limits}
use Rattle.limits.specs.Stress.{endplate_stress}
use Rattle.rules.specs.Endplate.{endplate_thickness}
use Rattle.rules.specs.Gasket.{wide_width, effective_width_of, reaction_diameter_of}
use Rattle.rules.specs.Loads.{exact_operating_load, exact_seating_load, operating_load_of, seating_load_of, flange_load_of, gasket_of}
use Rattle.rules.specs.Bolts.{bolts_sufficient}
use Rattle.rules.specs.BlindFlange.{flange_thickness, edge_under}
use Rattle.rules.specs.Figures.{endplate_figures, blind_flange_figures}
use Rattle.rules.specs.FlangeCauses.{bolts_causes, blind_flange_causes}
use Rattle.rules.specs.Answer.{endplate_sizing, blind_flange_sizing, endplate_answer, blind_flange_answer}
use Rattle.rules.specs.Answer.{Answer, Endplate, BlindFlange, Refused}
use Rattle.text.specs.Line.{value_of, before, after}
use Rattle.text.specs.Number.{number_of}
use Rattle.text.specs.Plates.{entry_of, plates_listed, plates_of}
use Rattle.report.specs.Decimal.{decimal, number_line}
use Rattle.report.specs.Space.{written_at, laid}
use Rattle.lines.specs.Fields.{line_of}
use Rattle.lines.specs.Lines.{plates_line, lines_of}
use Rattle.sheet.specs.Sheet.{part_of, sheet_of, answer_of}
use Rattle.batch.specs.Pieces.{pieces_of}
use Rattle.batch.specs.Summary.{excess_of, excesses, summary_of, answers_for, summary_for, summary_numbers_for, summary_space}
use Rattle.cases.proofs.Starred.{text_of, end, blind_sheet}
use Rattle.cases.proofs.UsualStock.{end_of}

-- ---- answers and their summary

abbrev none_2_to_13 : List String
none_2_to_13 =
    "refused2=0" ∷ "refused3=0" ∷ "refused4=0" ∷ "refused5=0" ∷ "refused6=0" ∷ "refused7=0" ∷ "refused8=0" ∷ "refused9=0"
    ∷ "refused10=0" ∷ "refused11=0" ∷ "refused12=0" ∷ "refused13=0" ∷ []

-- an end 0.05 mm above its total, a cover 0.12 mm above its own
abbrev an_end : Answer
an_end = Endplate record { design_stress = 108; thickness = 300; total = 400 } (toleranced 5 405)

abbrev a_cover : Answer
a_cover =
    BlindFlange
    record {
      design_stress = 108;
      ambient_stress = 108;
      reaction_diameter = 4900;
      effective_width = 500;
      operating_load = 1000;
      seating_load = 900;
      flange_load = 2000;
      thickness = 300;
      edge_thickness = 200;
      total = 400;
    }
    (toleranced 0 412)

-- as many refused under each number as the number says
abbrev each_its_number : List Answer
each_its_number =
    flat_map
    (λ n. replicate n (Refused n 0))
    (17 ∷ 14 ∷ 13 ∷ 12 ∷ 11 ∷ 10 ∷ 9 ∷ 8 ∷ 7 ∷ 6 ∷ 5 ∷ 4 ∷ 3 ∷ 2 ∷ 1 ∷ [])

abbrev of_three : List String
of_three =
    "pieces=3" ∷ "accepted=2" ∷ "refused=1" ∷ "refused1=0"
    ∷ none_2_to_13
    ++ "refused14=1" ∷ "refused17=0" ∷ "sum=17" ∷ "least=5" ∷ "greatest=12" ∷ []

abbrev of_one_refused : List String
of_one_refused =
    "pieces=1" ∷ "accepted=0" ∷ "refused=1" ∷ "refused1=1" ∷ none_2_to_13 ++ "refused14=0" ∷ "refused17=0" ∷ "sum=0" ∷ []

abbrev of_each_number : List String
of_each_number =
    "pieces=122" ∷ "accepted=0" ∷ "refused=122" ∷ "refused1=1" ∷ "refused2=2" ∷ "refused3=3" ∷ "refused4=4" ∷ "refused5=5"
    ∷ "refused6=6" ∷ "refused7=7" ∷ "refused8=8" ∷ "refused9=9" ∷ "refused10=10" ∷ "refused11=11" ∷ "refused12=12"
    ∷ "refused13=13" ∷ "refused14=14" ∷ "refused17=17" ∷ "sum=0" ∷ []

abbrev table : List (List Answer × List String)
table =
    (an_end ∷ Refused 14 400 ∷ a_cover ∷ [], of_three)
    ∷ (Refused 1 1 ∷ [], of_one_refused)
    ∷ (each_its_number, of_each_number)
    ∷ []

summarised : map (λ row. summary_of row.0) table ≡ map (λ row. text_of row.1) table
unfolding decimal number_line excesses summary_of
summarised = refl

-- ---- the empty book: one sheet, refused by 1 at line 1, in a space of its 207 bytes and in one a byte short

empty_book : answers_for [] ≡ Refused 1 1 ∷ []
unfolding pieces_of index_of index_after after value_of plates_line lines_of part_of sheet_of answer_of answers_for
empty_book = refl

abbrev calls : List (ℕ × List ℕ)
calls =
    (207, 0 ∷ 0 ∷ 207 ∷ [])
    ∷ (206, 15 ∷ 207 ∷ 0 ∷ [])
    ∷ (0, 15 ∷ 207 ∷ 0 ∷ [])
    ∷ []

numbered : map (λ row. summary_numbers_for [] (replicate row.0 46)) calls ≡ map (λ row. row.1) calls
unfolding pieces_of index_of index_after after value_of plates_line lines_of part_of sheet_of answer_of answers_for
    decimal number_line excesses summary_of summary_for summary_numbers_for
numbered = refl

-- ---- the first 64 sheets are counted: 63 and 64 at fault, and then an end that is 1.00 mm above its total

abbrev after_faults : ℕ → List Answer
after_faults n =
    let faults = concat (replicate n (text_of ("part=" ∷ []))) in
    answers_for (faults ++ text_of (end_of "pressure=1080" "plates=2600:30"))

-- how many answers, and the excesses of those accepted
abbrev counts : List Answer → List (List ℕ)
counts answers = (length answers ∷ []) ∷ excesses answers ∷ []

first_64 : map (λ n. counts (after_faults n)) (63 ∷ 64 ∷ []) ≡ ((64 ∷ []) ∷ (100 ∷ []) ∷ []) ∷ ((64 ∷ []) ∷ [] ∷ []) ∷ []
unfolding column design_stress_of ceil_div whole_root_by least_root least_root_over endplate_stress endplate_thickness
    endplate_figures endplate_causes first_of endplate_sizing smallest_serving endplate_answer index_of index_after before after
    value_of number_of entry_of plates_listed plates_of line_of plates_line lines_of part_of sheet_of answer_of pieces_of
    answers_for excesses
first_64 = refl

-- ---- a sheet and plate minus total: the starred sheets of document 01; a plate whose minus does not count; the usual stock

abbrev sheets : List (List String × Option ℕ)
sheets =
    (end "form=a" "material=1" "shell=0" "temp=150" "pressure=1000", Some 594)
    ∷ (end "form=c" "material=1" "shell=2" "temp=150" "pressure=1000", Some 350)
    ∷ (end "form=d" "material=1" "shell=1" "temp=150" "pressure=1000", Some 222)
    ∷ (end "form=c" "material=1" "shell=1" "temp=150" "pressure=1080", Some 500)
    ∷ (end "form=c" "material=1" "shell=1" "temp=150" "pressure=1081", Some 498)
    ∷ (end "form=c" "material=6" "shell=1" "temp=201" "pressure=1000", None)
    ∷ (blind_sheet, Some 27)
    ∷ (end_of "pressure=1080" "plates=2500", Some 0)
    ∷ (end_of "pressure=1080" "plates=2600:30", Some 100)
    ∷ (end_of "pressure=1080" "plates=", Some 500)
    ∷ (end_of "pressure=1080" "plates=none", None)
    ∷ []

exceeded : map (λ row. excess_of (answer_of (text_of row.0))) sheets ≡ map (λ row. row.1) sheets
unfolding column design_stress_of ceil_div whole_root_by least_root least_root_over endplate_stress endplate_thickness
    wide_width effective_width_of reaction_diameter_of exact_operating_load exact_seating_load operating_load_of seating_load_of
    flange_load_of gasket_of bolts_sufficient flange_thickness edge_under endplate_figures blind_flange_figures endplate_causes
    first_of flange_limits bolts_causes blind_flange_causes endplate_sizing blind_flange_sizing smallest_serving standard_plates
    endplate_answer blind_flange_answer index_of index_after before after value_of number_of entry_of plates_listed plates_of
    line_of plates_line lines_of part_of sheet_of answer_of
exceeded = refl

-- ---- a book of three sheets, the second at fault: its summary, and dots past it

abbrev of_book : List String
of_book =
    "pieces=3" ∷ "accepted=2" ∷ "refused=1" ∷ "refused1=1"
    ∷ none_2_to_13
    ++ "refused14=0" ∷ "refused17=0" ∷ "sum=127" ∷ "least=27" ∷ "greatest=100" ∷ []

laid_out :
    summary_space (text_of (end_of "pressure=1080" "plates=2600:30" ++ "part=end" ∷ "form=c" ∷ blind_sheet)) (replicate 233 46)
    ≡ text_of of_book ++ replicate 2 46
unfolding column design_stress_of ceil_div whole_root_by least_root least_root_over endplate_stress endplate_thickness
    wide_width effective_width_of reaction_diameter_of exact_operating_load exact_seating_load operating_load_of seating_load_of
    flange_load_of gasket_of bolts_sufficient flange_thickness edge_under endplate_figures blind_flange_figures endplate_causes
    first_of flange_limits bolts_causes blind_flange_causes endplate_sizing blind_flange_sizing smallest_serving endplate_answer
    blind_flange_answer index_of index_after before after value_of number_of entry_of plates_listed plates_of line_of plates_line
    lines_of part_of sheet_of answer_of pieces_of answers_for decimal number_line excesses summary_of summary_for laid
    written_at summary_space
laid_out = refl
