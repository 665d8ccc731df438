-- Laws for callers: what an empty list answers, that an answer is known by its numbers, what its plate and its cause are, and
-- which bolts are taken from a list of sizes, with what answer. Assumes nothing.
pub mod PlateAndCause
pub mod FirstFitting
pub mod AnsweredWithBolts
use Rattle.std.specs.Prelude.{List, [], ◌≡◌, refl, Result, Ok, Err}
use Rattle.std.proofs.Common.{arith}
use Rattle.plates.specs.Plates.{smallest_serving}
use Rattle.plates.specs.declared.Plate.{Plate}
use Rattle.std.specs.Prelude.{Option, Some, None}
use Rattle.limits.specs.Laws.{named_by_number}
use Rattle.limits.specs.declared.EndplateSheet.{EndplateSheet}
use Rattle.limits.specs.declared.BlindFlangeSheet.{BlindFlangeSheet}
use Rattle.rules.specs.Answer.{total_of, with_plate, from_plates, endplate_sizing, blind_flange_sizing}
use Rattle.rules.specs.Answer.{endplate_answer, blind_flange_answer, without_plate, in_numbers}
use Rattle.rules.specs.declared.Size.{Size}
use Rattle.rules.specs.declared.Size.TheVariants as sizes
use Rattle.rules.specs.declared.Refusal.{Refusal}
use Rattle.rules.specs.Sizing.{Sizing}
use Rattle.rules.specs.Sizing.{Endplate as Sizing-as-Endplate}
use Rattle.rules.specs.Sizing.{BlindFlange as Sizing-as-BlindFlange}
use Rattle.rules.specs.Sizing.{Refused as Sizing-as-Refused}

without_plate_lem :
    (sizing : Sizing) (choice : Option Plate) → with_plate sizing None ≡ without_plate (with_plate sizing choice)
without_plate_lem (Sizing-as-Endplate f) (Some plate) = refl
without_plate_lem (Sizing-as-Endplate f) None = refl
without_plate_lem (Sizing-as-BlindFlange f) (Some plate) = refl
without_plate_lem (Sizing-as-BlindFlange f) None = refl
without_plate_lem (Sizing-as-Refused cause) choice = refl

from_none : (sizing : Sizing) (plates : List Plate) → from_plates sizing [] ≡ without_plate (from_plates sizing plates)
unfolding smallest_serving
from_none sizing plates = without_plate_lem sizing (smallest_serving (total_of sizing) plates)

-- an empty list answers so, whatever the answer is with another
pub endplate_none :
    (s : EndplateSheet) (plates : List Plate) → endplate_answer s [] ≡ without_plate (endplate_answer s plates)
unfolding endplate_answer
endplate_none s plates = from_none (endplate_sizing s) plates

pub flange_none :
    (s : BlindFlangeSheet) (plates : List Plate) → blind_flange_answer s [] ≡ without_plate (blind_flange_answer s plates)
unfolding blind_flange_answer
flange_none s plates = from_none (blind_flange_sizing s) plates

-- ---- an answer and its numbers

-- no two answers are one in the definitions, a plate's minus included: what is promised there is promised of the answer itself
pub named_by_numbers : (a b : Result Size Refusal) → in_numbers a ≡ in_numbers b → a ≡ b
named_by_numbers (Ok (sizes.Endplate f plate)) (Ok (sizes.Endplate g other)) e = grind arith
named_by_numbers (Ok (sizes.Endplate f plate)) (Ok (sizes.BlindFlange g other)) e = grind arith
named_by_numbers (Ok (sizes.Endplate f plate)) (Err s) e = grind arith
named_by_numbers (Ok (sizes.BlindFlange f plate)) (Ok (sizes.Endplate g other)) e = grind arith
named_by_numbers (Ok (sizes.BlindFlange f plate)) (Ok (sizes.BlindFlange g other)) e = grind arith
named_by_numbers (Ok (sizes.BlindFlange f plate)) (Err s) e = grind arith
named_by_numbers (Err r) (Ok (sizes.Endplate g other)) e = grind arith
named_by_numbers (Err r) (Ok (sizes.BlindFlange g other)) e = grind arith
named_by_numbers (Err r) (Err s) e = grind (arith, named_by_number)
