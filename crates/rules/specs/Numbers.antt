-- Document 01's numbers of a calculation, straight from what it is given: the cause, the figure returned with it, and the
-- report's figures.
use Rattle.std.specs.Prelude.{ℕ, not, cond, List, [], ◌∷◌, ◌++◌, eqb}
use Rattle.plates.specs.Plates.{any_serves, smallest_serving, plate_of}
use Rattle.plates.specs.declared.Plate.{Plate}
use Rattle.limits.specs.Causes.{Tests, Causes, first_cause}
use Rattle.limits.specs.Limits.{endplate_causes}
use Rattle.limits.specs.declared.EndplateSheet.{EndplateSheet}
use Rattle.limits.specs.declared.BlindFlangeSheet.{BlindFlangeSheet}
use Rattle.rules.specs.FlangeCauses.{blind_flange_causes}
use Rattle.rules.specs.Figures.{endplate_figures, blind_flange_figures}
use Rattle.rules.specs.Answer.{endplate_list, blind_flange_list}

-- 14: no listed plate serves
abbrev pub no_plate_serves : ℕ → List Plate → Tests
no_plate_serves total plates = not (any_serves total plates) ∷ []

-- the first cause of a part that applies, 14 after the others; 0 if none does
abbrev pub cause_from : Causes → ℕ → List Plate → ℕ
cause_from causes total plates = first_cause (causes ++ (14, no_plate_serves total plates) ∷ [])

-- the figure returned with it: the total with 14, else 0
abbrev pub figure_from : ℕ → ℕ → ℕ
figure_from cause total = cond (eqb cause 14) total 0

-- the report's figures, the thickness of the smallest serving plate last; none with a cause
abbrev pub report_from : ℕ → List ℕ → ℕ → List Plate → List ℕ
report_from cause figures total plates = cond (eqb cause 0) (figures ++ plate_of (smallest_serving total plates) ∷ []) []

-- ---- of an endplate

unfoldable pub endplate_cause : EndplateSheet → List Plate → ℕ
endplate_cause s plates = cause_from (endplate_causes s) (endplate_figures s).total plates

unfoldable pub endplate_figure : EndplateSheet → List Plate → ℕ
endplate_figure s plates = figure_from (endplate_cause s plates) (endplate_figures s).total

unfoldable pub endplate_report : EndplateSheet → List Plate → List ℕ
endplate_report s plates =
    let f = endplate_figures s in
    report_from (endplate_cause s plates) (endplate_list f) f.total plates

-- ---- of a blind flange

unfoldable pub blind_flange_cause : BlindFlangeSheet → List Plate → ℕ
blind_flange_cause s plates = cause_from (blind_flange_causes s) (blind_flange_figures s).total plates

unfoldable pub blind_flange_figure : BlindFlangeSheet → List Plate → ℕ
blind_flange_figure s plates = figure_from (blind_flange_cause s plates) (blind_flange_figures s).total

unfoldable pub blind_flange_report : BlindFlangeSheet → List Plate → List ℕ
blind_flange_report s plates =
    let f = blind_flange_figures s in
    report_from (blind_flange_cause s plates) (blind_flange_list f) f.total plates
