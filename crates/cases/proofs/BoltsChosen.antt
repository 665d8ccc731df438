-- The bolts chosen for a blind flange (R-10): rows of it. Assumes nothing.
use Rattle.std.proofs.Common.{◌≡◌, ℕ, List, [], ◌∷◌, ◌++◌, map, drop, refl, replicate}
use Rattle.tables.specs.DesignStress.{column, design_stress_of}
use Rattle.root.specs.Root.{ceil_div, whole_root_by, least_root, least_root_over}
use Rattle.plates.specs.declared.Plate.{Plate}
use Rattle.plates.specs.Plates.{smallest_serving, toleranced}
use Rattle.limits.specs.Causes.{first_of}
use Rattle.limits.specs.Limits.{flange_limits, unbolted_limits}
use Rattle.limits.specs.declared.unbolted.UnboltedSheet.{UnboltedSheet}
use Rattle.rules.specs.Gasket.{wide_width, effective_width_of, reaction_diameter_of}
use Rattle.rules.specs.Loads.{exact_operating_load, exact_seating_load, operating_load_of, seating_load_of}
use Rattle.rules.specs.Loads.{flange_load_of, gasket_of}
use Rattle.rules.specs.Bolts.{bolts_sufficient}
use Rattle.rules.specs.BlindFlange.{flange_thickness, edge_under}
use Rattle.rules.specs.Figures.{blind_flange_figures}
use Rattle.rules.specs.FlangeCauses.{bolts_causes, blind_flange_causes}
use Rattle.rules.specs.Answer.{cause_of, figure_of, report_of, blind_flange_sizing, blind_flange_answer}
use Rattle.rules.specs.BoltChoice.{counts, pairs, fits, bolts_taken}
use Rattle.rules.specs.BoltedAnswer.{BoltedAnswer, bolted_answer, bolts_list}

-- ---- the printed sheet without its bolts, or with another od, circle C or stress Sb

abbrev flange : ℕ → ℕ → ℕ → UnboltedSheet
flange od circle sb =
    record {
      material = 1;
      temperature = 150;
      pressure = 1000;
      allowance = 100;
      od = od;
      width = 100;
      rib = 0;
      rib_width = 0;
      m = 200;
      y = 110;
      circle = circle;
      sa = 100;
      sb = sb;
    }

abbrev printed : UnboltedSheet
printed = flange 5000 5600 100

-- its plates, a plate too thin for every total here, and one as thick as the greatest
abbrev listed : List Plate
listed = toleranced 0 2500 ∷ toleranced 0 3200 ∷ toleranced 0 4000 ∷ []

abbrev thin : List Plate
thin = toleranced 0 2500 ∷ []

abbrev thick : List Plate
thick = toleranced 0 5558 ∷ []

-- ---- what is told of an answer: cause and figure, bolts, and the end of the report, which is edge, total and plate

abbrev told : BoltedAnswer → List ℕ
told a = cause_of a.answer ∷ figure_of a.answer ∷ bolts_list a.bolts ++ drop 8 (report_of a.answer)

-- for diameters, root areas and plates
abbrev chosen : UnboltedSheet → List ℕ → List ℕ → List Plate → List ℕ
chosen s diameters areas plates = told (bolted_answer s diameters areas plates)

abbrev twelve_of_20 : List ℕ
twelve_of_20 = 0 ∷ 0 ∷ 20 ∷ 2250 ∷ 12 ∷ 1758 ∷ 3173 ∷ 3200 ∷ []

abbrev none_fit : List ℕ
none_fit = 24 ∷ 0 ∷ []

abbrev table : List (List ℕ × List ℕ)
table =
    -- three sizes: the first, and 16 of it
    (
      chosen printed (16 ∷ 20 ∷ 24 ∷ []) (1440 ∷ 2250 ∷ 3240 ∷ []) listed,
      0 ∷ 0 ∷ 16 ∷ 1440 ∷ 16 ∷ 1685 ∷ 3173 ∷ 3200 ∷ [],
    )
    -- the first in the list, not the least, nor the one with the fewest bolts
    ∷ (chosen printed (24 ∷ 20 ∷ []) (3240 ∷ 2250 ∷ []) listed, 0 ∷ 0 ∷ 24 ∷ 3240 ∷ 8 ∷ 1738 ∷ 3173 ∷ 3200 ∷ [])
    ∷ (chosen printed (20 ∷ 24 ∷ []) (2250 ∷ 3240 ∷ []) listed, twelve_of_20)
    -- the last of two alone: C is below od + 10·61
    ∷ (chosen printed (61 ∷ 20 ∷ []) (2741 ∷ 2250 ∷ []) listed, twelve_of_20)
    -- lists of 16, of 17, of two lengths, and empty
    ∷ (chosen printed (replicate 15 12 ++ 20 ∷ []) (replicate 15 1 ++ 2250 ∷ []) listed, twelve_of_20)
    ∷ (chosen printed (replicate 17 20) (replicate 17 2250) listed, none_fit)
    ∷ (chosen printed (20 ∷ []) (2250 ∷ 2250 ∷ []) listed, none_fit)
    ∷ (chosen printed (20 ∷ 20 ∷ []) (2250 ∷ []) listed, none_fit)
    ∷ (chosen printed [] [] listed, none_fit)
    -- 11 before 24, 24 before 14, and 14 with the total and no bolts
    ∷ (chosen (flange 5000 5600 0) [] [] thin, 11 ∷ 0 ∷ [])
    ∷ (chosen printed [] [] thin, none_fit)
    ∷ (chosen printed (16 ∷ []) (1440 ∷ []) thin, 14 ∷ 3173 ∷ [])
    -- passed over: bolts of 11 and of 2^32 - 1, root areas of 0 and of 2^32 - 1
    ∷ (chosen printed (11 ∷ 20 ∷ []) (900 ∷ 2250 ∷ []) listed, twelve_of_20)
    ∷ (chosen printed (4294967295 ∷ 20 ∷ []) (1 ∷ 2250 ∷ []) listed, twelve_of_20)
    ∷ (chosen printed (20 ∷ 20 ∷ 20 ∷ []) (0 ∷ 4294967295 ∷ 2250 ∷ []) listed, twelve_of_20)
    -- the least C whose pitch is enough for 36 of 20; one tenth less, and none fits, or another size does
    ∷ (chosen (flange 5000 5733 100) (20 ∷ []) (610 ∷ []) listed, 0 ∷ 0 ∷ 20 ∷ 610 ∷ 36 ∷ 1816 ∷ 3257 ∷ 4000 ∷ [])
    ∷ (chosen (flange 5000 5732 100) (20 ∷ []) (610 ∷ []) listed, none_fit)
    ∷ (
      chosen (flange 5000 5732 100) (20 ∷ 20 ∷ []) (610 ∷ 686 ∷ []) listed,
      0 ∷ 0 ∷ 20 ∷ 686 ∷ 32 ∷ 1815 ∷ 3256 ∷ 4000 ∷ [],
    )
    -- 4 bolts of the least area that carries the loads, and 8 of one less
    ∷ (chosen printed (27 ∷ []) (5482 ∷ []) listed, 0 ∷ 0 ∷ 27 ∷ 5482 ∷ 4 ∷ 1664 ∷ 3173 ∷ 3200 ∷ [])
    ∷ (chosen printed (27 ∷ []) (5481 ∷ []) listed, 0 ∷ 0 ∷ 27 ∷ 5481 ∷ 8 ∷ 2038 ∷ 3173 ∷ 3200 ∷ [])
    -- 100 bolts of the least area, and none of one less
    ∷ (chosen (flange 7000 10000 100) (12 ∷ []) (418 ∷ []) thick, 0 ∷ 0 ∷ 12 ∷ 418 ∷ 100 ∷ 4072 ∷ 5558 ∷ 5558 ∷ [])
    ∷ (chosen (flange 7000 10000 100) (12 ∷ []) (417 ∷ []) thick, none_fit)
    ∷ []

rows : map (λ row. row.0) table ≡ map (λ row. row.1) table
unfolding column design_stress_of ceil_div whole_root_by least_root least_root_over wide_width effective_width_of
    reaction_diameter_of exact_operating_load exact_seating_load operating_load_of seating_load_of flange_load_of
    gasket_of bolts_sufficient flange_thickness edge_under blind_flange_figures first_of flange_limits unbolted_limits
    bolts_causes blind_flange_causes blind_flange_sizing smallest_serving blind_flange_answer counts pairs fits
    bolts_taken bolted_answer
rows = refl
