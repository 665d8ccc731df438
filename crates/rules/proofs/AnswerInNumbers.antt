-- An answer in document 01's numbers: those that follow from what the calculation is given. Assumes nothing.
use mathlib.Core.Path.{◌≡◌, refl, ◌∙◌}
use mathlib.Core.Logic.{◌≢◌}
use mathlib.Core.Bool.{Bool, true, false, not, cond}
use mathlib.Core.List.{List, [], ◌∷◌, ◌++◌}
use Prim.Native.Nat.{ℕ}
use native.Mathlib.Omega.{arith}
use borrow.Author.Tests.{ne_eqb}
use lib.Dec.{eqb}
use Rattle.plates.specs.Plates.{smallest_serving, plate_of, is_chosen}
use Rattle.plates.specs.declared.Plate.{Plate}
use Rattle.plates.proofs.Laws.{chosen-serves}
use Rattle.std.specs.Prelude.{Option, Some, None}
use Rattle.limits.specs.Causes.{Causes, first_of, first_cause, of_numbers, of_bolting, of_loads, of_plates}
use Rattle.limits.specs.Limits.{endplate_causes, flange_limits}
use Rattle.limits.specs.declared.EndplateSheet.{EndplateSheet}
use Rattle.limits.specs.declared.BlindFlangeSheet.{BlindFlangeSheet}
use Rattle.limits.specs.Laws.{in_turn, not_among}
use Rattle.rules.specs.FlangeCauses.{bolts_causes, blind_flange_causes}
use Rattle.rules.specs.Figures.{endplate_figures, blind_flange_figures}
use Rattle.rules.specs.Answer.{refused_or, total_of, with_plate, from_plates, cause_of, figure_of, report_of}
use Rattle.rules.specs.Answer.{endplate_list, blind_flange_list, endplate_sizing, blind_flange_sizing, endplate_answer}
use Rattle.rules.specs.Answer.{blind_flange_answer}
use Rattle.rules.specs.Numbers.{cause_from, figure_from, report_from, endplate_cause, endplate_figure}
use Rattle.rules.specs.Numbers.{endplate_report, blind_flange_cause, blind_flange_figure, blind_flange_report}
use Rattle.rules.specs.declared.EndplateFigures.{EndplateFigures}
use Rattle.rules.specs.declared.BlindFlangeFigures.{BlindFlangeFigures}
use Rattle.rules.specs.Sizing.{Sizing}
use Rattle.rules.specs.Sizing.{Endplate, BlindFlange, Refused}
use Rattle.rules.specs.Answer.{Answer}

-- ---- the causes before 14

abbrev before_plates : List ℕ
before_plates = of_numbers ++ of_bolting ++ of_loads

-- 14 is looked for where none before it applies, and is not among them
abbrev PlateLast : Causes → Bool → Type 0
PlateLast cs t =
    let k = first_cause cs in
    (first_cause (cs ++ (14, t ∷ []) ∷ []) ≡ cond (eqb k 0) (cond t 14 0) k) × (k ≢ 14)

endplate_last : (s : EndplateSheet) (t : Bool) → PlateLast (endplate_causes s) t
unfolding first_of endplate_causes
endplate_last s t = (
  in_turn before_plates of_plates (endplate_causes s ++ (14, t ∷ []) ∷ []) tt,
  not_among 14 before_plates (endplate_causes s) (λ e. omega arith) tt,
)

pub flange_last : (s : BlindFlangeSheet) (t : Bool) → PlateLast (blind_flange_causes s) t
unfolding first_of blind_flange_causes flange_limits bolts_causes
flange_last s t = (
  in_turn before_plates of_plates (blind_flange_causes s ++ (14, t ∷ []) ∷ []) tt,
  not_among 14 before_plates (blind_flange_causes s) (λ e. omega arith) tt,
)

-- ---- the numbers

abbrev pub Told : ℕ → ℕ → List ℕ → Answer → Type 0
Told cause figure report answer = (cause_of answer ≡ cause) × (figure_of answer ≡ figure) × (report_of answer ≡ report)

-- where nothing before 14 applies: 14 if no plate was chosen
abbrev last_cause : Option Plate → ℕ
last_cause c = cond (not (is_chosen c)) 14 0

-- the numbers of what is sized, with a choice
abbrev Last : Sizing → List ℕ → Option Plate → Type 0
Last sized figures c =
    Told
    (last_cause c)
    (figure_from (last_cause c) (total_of sized))
    (cond (eqb (last_cause c) 0) (figures ++ plate_of c ∷ []) [])
    (with_plate sized c)

-- from the causes, the figures and the plates; `sized` is what is answered where no cause applies
module _ (cs : Causes) (plate-last : (t : Bool) → PlateLast cs t) (sized : Sizing) (figures : List ℕ) (plates : List Plate)
  where
    abbrev total : ℕ
    total = total_of sized

    abbrev choice : Option Plate
    choice = smallest_serving total plates

    cause : cause_from cs total plates ≡ cond (eqb (first_cause cs) 0) (last_cause choice) (first_cause cs)
    cause = (plate-last _).0 ∙ rw (chosen-serves total plates)

    pub told :
        ((c : Option Plate) → Last sized figures c) →
        let k = cause_from cs total plates in
        Told
        k (figure_from k total) (report_from k figures total plates)
        (from_plates (refused_or (first_cause cs) sized) plates)
    told last = rw cause (by_test (eqb (first_cause cs) 0) refl)
      where
        by_test :
            (b : Bool) →
            eqb (first_cause cs) 0 ≡ b →
            let k = cond b (last_cause choice) (first_cause cs) in
            Told
            k (figure_from k total) (report_from k figures total plates)
            (from_plates (cond b sized (Refused (first_cause cs))) plates)
        by_test true z = last choice
        by_test false z =
            (refl, rw (ne_eqb (first_cause cs) 14 (plate-last false).1), rw z)

-- ---- both parts

by_choice : (f : EndplateFigures) (c : Option Plate) → Last (Endplate f) (endplate_list f) c
by_choice f (Some plate) = (refl, refl, refl)
by_choice f None = (refl, refl, refl)

by_flange_choice : (f : BlindFlangeFigures) (c : Option Plate) → Last (BlindFlange f) (blind_flange_list f) c
by_flange_choice f (Some plate) = (refl, refl, refl)
by_flange_choice f None = (refl, refl, refl)

pub endplate_numbers : (s : EndplateSheet) (plates : List Plate) →
    Told (endplate_cause s plates) (endplate_figure s plates) (endplate_report s plates) (endplate_answer s plates)
unfolding endplate_sizing endplate_answer endplate_cause endplate_figure endplate_report
endplate_numbers s plates =
    let f = endplate_figures s in
    told (endplate_causes s) (endplate_last s) (Endplate f) (endplate_list f) plates (by_choice f)

pub flange_numbers : (s : BlindFlangeSheet) (plates : List Plate) →
    Told
    (blind_flange_cause s plates) (blind_flange_figure s plates) (blind_flange_report s plates)
    (blind_flange_answer s plates)
unfolding blind_flange_sizing blind_flange_answer blind_flange_cause blind_flange_figure blind_flange_report
flange_numbers s plates =
    let f = blind_flange_figures s in
    told (blind_flange_causes s) (flange_last s) (BlindFlange f) (blind_flange_list f) plates (by_flange_choice f)
