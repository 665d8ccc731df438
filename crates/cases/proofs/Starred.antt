-- The starred cases of document 01's "Numbers to hold", as rows of one table, and one proof that the definitions give
-- each row. Assumes nothing.
use Rattle.std.proofs.Common.{◌≡◌, ℕ, List, [], ◌∷◌, ◌++◌, map, get_or, refl, ap}
use Prim.Native.String.{String}
use Rattle.text.specs.Index.{index_of, index_after}
use Rattle.tables.specs.DesignStress.{column, design_stress_of}
use Rattle.root.specs.Root.{ceil_div, whole_root_by, least_root, least_root_over}
use Rattle.limits.specs.Stress.{endplate_stress}
use Rattle.rules.specs.Endplate.{endplate_thickness}
use Rattle.rules.specs.Gasket.{wide_width, effective_width_of, reaction_diameter_of}
use Rattle.rules.specs.Loads.{exact_operating_load, exact_seating_load, operating_load_of, seating_load_of, flange_load_of, gasket_of}
use Rattle.rules.specs.Bolts.{bolts_sufficient}
use Rattle.rules.specs.BlindFlange.{flange_thickness, edge_under}
use Rattle.rules.specs.Figures.{endplate_figures, blind_flange_figures}
use Rattle.limits.specs.Causes.{first_of}
use Rattle.limits.specs.Limits.{endplate_causes, flange_limits}
use Rattle.rules.specs.FlangeCauses.{bolts_causes, blind_flange_causes}
use Rattle.plates.specs.Plates.{smallest_serving}
use Rattle.rules.specs.Answer.{endplate_sizing, blind_flange_sizing, endplate_answer, blind_flange_answer}
use Rattle.text.specs.Ascii.{ascii, line_feed}
use Rattle.text.specs.Line.{before, after, value_of}
use Rattle.text.specs.Number.{number_of}
use Rattle.text.specs.Plates.{entry_of, plates_listed, plates_of}
use Rattle.report.specs.Decimal.{decimal, number_line}
use Rattle.report.specs.Report.{report_text}
use Rattle.lines.specs.Fields.{line_of}
use Rattle.lines.specs.Lines.{plates_line, lines_of}
use Rattle.sheet.specs.Sheet.{part_of, sheet_of, answer_of}

-- the bytes of lines, each with its LF
abbrev pub text_of : List String → List ℕ
text_of [] = []
text_of (line ∷ lines) = ascii line ++ line_feed ∷ text_of lines

pub data Case : Type 0 where
  -- the design stress of a material at a temperature
  stress : ℕ → ℕ → Case
  -- b of a gasket width
  width : ℕ → Case
  -- the report of a sheet
  sheet : List String → Case

-- what the definitions give
abbrev pub worked : Case → List ℕ
worked (stress material temperature) = design_stress_of material temperature ∷ []
worked (width n) = effective_width_of n ∷ []
worked (sheet lines) = report_text (answer_of (text_of lines))

-- an end of d 5000
abbrev pub end : String → String → String → String → String → List String
end form material shell temp pressure =
    "part=end"
    ∷ form
    ∷ material
    ∷ shell
    ∷ temp
    ∷ pressure
    ∷ "dia=5000"
    ∷ "allow=0"
    ∷ "plates=3000"
    ∷ []

-- the report of one that is sized
abbrev pub sized : String → String → String → List ℕ
sized F T total = text_of (F ∷ T ∷ total ∷ "plate=3000" ∷ [])

-- the printed sheet, which has gained the lines rib=0 and ribw=0 (document 02, R-4)
abbrev pub blind_sheet : List String
blind_sheet =
    "part=blind"
    ∷ "material=1"
    ∷ "temp=150"
    ∷ "pressure=1000"
    ∷ "allow=100"
    ∷ "od=5000"
    ∷ "width=100"
    ∷ "rib=0"
    ∷ "ribw=0"
    ∷ "m=200"
    ∷ "y=110"
    ∷ "circle=5600"
    ∷ "bolt=20"
    ∷ "root=2250"
    ∷ "count=16"
    ∷ "sa=100"
    ∷ "sb=100"
    ∷ "plates=2500,3200,4000"
    ∷ []

abbrev pub blind_report : List ℕ
blind_report =
    text_of
    ("stress=108"
    ∷ "cold=108"
    ∷ "g=4900"
    ∷ "b=500"
    ∷ "wm1=2192505"
    ∷ "wm2=846230"
    ∷ "w=2896253"
    ∷ "need=3073"
    ∷ "edge=1913"
    ∷ "total=3173"
    ∷ "plate=3200"
    ∷ [])

-- a case, and what document 01 says of it
abbrev pub table : List (Case × List ℕ)
table =
    -- copper plate, then carbon steel
    (stress 6 50, 48 ∷ [])
    ∷ (stress 6 51, 46 ∷ [])
    ∷ (stress 6 200, 18 ∷ [])
    ∷ (sheet (end "form=c" "material=6" "shell=1" "temp=201" "pressure=1000"), text_of ("refused=5" ∷ "place=0" ∷ []))
    ∷ (stress 1 300, 91 ∷ [])
    -- forms a, c, d
    ∷ (
      sheet (end "form=a" "material=1" "shell=0" "temp=150" "pressure=1000"),
      sized "stress=108" "need=2406" "total=2406",
    )
    ∷ (
      sheet (end "form=c" "material=1" "shell=2" "temp=150" "pressure=1000"),
      sized "stress=89" "need=2650" "total=2650",
    )
    ∷ (
      sheet (end "form=d" "material=1" "shell=1" "temp=150" "pressure=1000"),
      sized "stress=108" "need=2778" "total=2778",
    )
    -- 25.00 mm exactly, and just above
    ∷ (
      sheet (end "form=c" "material=1" "shell=1" "temp=150" "pressure=1080"),
      sized "stress=108" "need=2500" "total=2500",
    )
    ∷ (
      sheet (end "form=c" "material=1" "shell=1" "temp=150" "pressure=1081"),
      sized "stress=108" "need=2502" "total=2502",
    )
    -- b_o of 6.3 mm exactly, just above, and 10 mm
    ∷ (width 126, 630 ∷ [])
    ∷ (width 127, 640 ∷ [])
    ∷ (width 200, 800 ∷ [])
    -- the printed sheet
    ∷ (sheet blind_sheet, blind_report)
    ∷ []

pub starred : map (λ row. worked row.0) table ≡ map (λ row. row.1) table
unfolding column design_stress_of ceil_div whole_root_by least_root least_root_over endplate_stress endplate_thickness
    wide_width effective_width_of reaction_diameter_of exact_operating_load exact_seating_load operating_load_of seating_load_of
    flange_load_of gasket_of bolts_sufficient flange_thickness edge_under endplate_figures blind_flange_figures endplate_causes
    first_of flange_limits bolts_causes blind_flange_causes endplate_sizing blind_flange_sizing smallest_serving endplate_answer
    blind_flange_answer index_of index_after before after value_of number_of entry_of plates_listed plates_of decimal number_line
    report_text line_of plates_line lines_of part_of sheet_of answer_of
starred = refl

-- so each row by itself, counted from 0
pub row : (i : ℕ) → get_or (map (λ r. worked r.0) table) i [] ≡ get_or (map (λ r. r.1) table) i []
row i = ap (λ rows. get_or rows i []) starred
