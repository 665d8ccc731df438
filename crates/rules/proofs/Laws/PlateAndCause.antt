-- What an answer says: the plate of an accepted part is not below its total, and the cause of a refused one is in checking
-- order. Assumes nothing.
use Rattle.std.specs.Prelude.{◌≤◌, Bool, true, false, cond, List, ◌≡◌, refl, eqb, T, ⊤, Option, Some, None}
use Rattle.std.proofs.Common.{arith}
use Rattle.plates.specs.declared.Plate.{Plate}
use Rattle.plates.specs.Plates.{Chosen}
use Rattle.plates.proofs.Laws.{smallest}
use Rattle.limits.specs.Causes.{Causes, checking_order, first_cause}
use Rattle.limits.specs.Laws.{among, first_among}
use Rattle.limits.specs.Limits.{endplate_causes}
use Rattle.limits.specs.declared.EndplateSheet.{EndplateSheet}
use Rattle.limits.specs.declared.BlindFlangeSheet.{BlindFlangeSheet}
use Rattle.rules.specs.FlangeCauses.{blind_flange_causes}
use Rattle.rules.specs.Figures.{endplate_figures, blind_flange_figures}
use Rattle.rules.specs.Sizing.{Sizing}
use Rattle.rules.specs.Sizing.{Endplate as Sizing-as-Endplate}
use Rattle.rules.specs.Sizing.{BlindFlange as Sizing-as-BlindFlange}
use Rattle.rules.specs.Sizing.{Refused as Sizing-as-Refused}
use Rattle.rules.specs.Answer.{Answer, Endplate, BlindFlange, Refused}
use Rattle.rules.specs.Answer.{total_of, with_plate, from_plates, refused_or, endplate_sizing, blind_flange_sizing}
use Rattle.rules.specs.Answer.{endplate_answer, blind_flange_answer}

-- ---- the plate

-- the nominal thickness of the plate named is not below the total
abbrev pub PlateReaches : Answer → Type 0
PlateReaches (Endplate f plate) = f.total ≤ plate.thickness
PlateReaches (BlindFlange f plate) = f.total ≤ plate.thickness
PlateReaches (Refused cause figure) = ⊤

by_choice :
    (sizing : Sizing) (plates : List Plate) (choice : Option Plate) →
    Chosen (total_of sizing) plates choice →
    PlateReaches (with_plate sizing choice)
by_choice (Sizing-as-Endplate f) plates (Some plate) chosen = omega (arith, chosen.serving.1)
by_choice (Sizing-as-Endplate f) plates None chosen = tt
by_choice (Sizing-as-BlindFlange f) plates (Some plate) chosen = omega (arith, chosen.serving.1)
by_choice (Sizing-as-BlindFlange f) plates None chosen = tt
by_choice (Sizing-as-Refused cause) plates choice chosen = tt

reached : (sizing : Sizing) (plates : List Plate) → PlateReaches (from_plates sizing plates)
reached sizing plates = by_choice sizing plates _ (smallest (total_of sizing) plates)

pub endplate_reached : (s : EndplateSheet) (plates : List Plate) → PlateReaches (endplate_answer s plates)
unfolding endplate_answer
endplate_reached s plates = reached (endplate_sizing s) plates

pub flange_reached : (s : BlindFlangeSheet) (plates : List Plate) → PlateReaches (blind_flange_answer s plates)
unfolding blind_flange_answer
flange_reached s plates = reached (blind_flange_sizing s) plates

-- ---- the cause

-- the cause of a refused part is in checking order
abbrev pub CauseInOrder : Answer → Type 0
CauseInOrder (Endplate f plate) = ⊤
CauseInOrder (BlindFlange f plate) = ⊤
CauseInOrder (Refused cause figure) = T (among cause checking_order)

in_order_or :
    (cs : Causes) (sizing : Sizing) (plates : List Plate) →
    CauseInOrder (from_plates sizing plates) →
    CauseInOrder (from_plates (refused_or (first_cause cs) sizing) plates)
in_order_or cs sizing plates sized = by_test (eqb (first_cause cs) 0) refl
  where
    by_test :
        (b : Bool) →
        eqb (first_cause cs) 0 ≡ b →
        CauseInOrder (from_plates (cond b sizing (Sizing-as-Refused (first_cause cs))) plates)
    by_test true q = sized
    by_test false q = first_among checking_order cs q

endplate_sized :
    (choice : Option Plate) (s : EndplateSheet) →
    CauseInOrder (with_plate (Sizing-as-Endplate (endplate_figures s)) choice)
endplate_sized (Some plate) s = tt
endplate_sized None s = tt

flange_sized :
    (choice : Option Plate) (s : BlindFlangeSheet) →
    CauseInOrder (with_plate (Sizing-as-BlindFlange (blind_flange_figures s)) choice)
flange_sized (Some plate) s = tt
flange_sized None s = tt

pub endplate_cause_in_order : (s : EndplateSheet) (plates : List Plate) → CauseInOrder (endplate_answer s plates)
unfolding endplate_answer endplate_sizing
endplate_cause_in_order s plates =
    in_order_or (endplate_causes s) (Sizing-as-Endplate (endplate_figures s)) plates (endplate_sized _ s)

pub flange_cause_in_order : (s : BlindFlangeSheet) (plates : List Plate) → CauseInOrder (blind_flange_answer s plates)
unfolding blind_flange_answer blind_flange_sizing
flange_cause_in_order s plates =
    in_order_or (blind_flange_causes s) (Sizing-as-BlindFlange (blind_flange_figures s)) plates (flange_sized _ s)
