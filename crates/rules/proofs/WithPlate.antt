-- What a calculation answers with the plate that was taken or refused. Assumes nothing.
use Rattle.std.specs.Prelude.{List, Option, Some, None, Result, Ok, Err, ◌≡◌}
use Rattle.plates.specs.declared.Plate.{Plate}
use Rattle.rules.specs.Answer.{Answer, in_numbers, taken, with_plate, from_plates}
use Rattle.rules.specs.Sizing.{Sizing, Endplate, BlindFlange}
use Rattle.rules.specs.declared.EndplateFigures.{EndplateFigures}
use Rattle.rules.specs.declared.BlindFlangeFigures.{BlindFlangeFigures}
use Rattle.rules.specs.declared.Refusal.{Refusal}
use Rattle.rules.specs.declared.Size.{Size}
use Rattle.rules.specs.declared.Size.TheVariants as sizes

-- what a size answers with a list
abbrev pub with : List Plate → Sizing → Answer
with plates size = from_plates size plates

-- an answer of a part whose size this is, with its plate or without
abbrev pub with_size : (Plate → Size) → Result Plate Refusal → Result Size Refusal
with_size size (Ok plate) = Ok (size plate)
with_size size (Err refusal) = Err refusal

pub endplate_with :
    (f : EndplateFigures) (choice : Option Plate) {plate : Result Plate Refusal} →
    plate ≡ taken f.total choice →
    in_numbers (with_size (sizes.Endplate f) plate) ≡ with_plate (Endplate f) choice
endplate_with f (Some plate) e = rw e
endplate_with f None e = rw e

pub blind_flange_with :
    (f : BlindFlangeFigures) (choice : Option Plate) {plate : Result Plate Refusal} →
    plate ≡ taken f.total choice →
    in_numbers (with_size (sizes.BlindFlange f) plate) ≡ with_plate (BlindFlange f) choice
blind_flange_with f (Some plate) e = rw e
blind_flange_with f None e = rw e
