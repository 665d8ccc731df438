-- A part's size before its plate is chosen: its figures, or the number of the first cause to refuse it.
use Rattle.std.specs.Prelude.{ℕ, Result, Ok, Err}
use Rattle.limits.specs.Cause.{number_of}
use Rattle.limits.specs.declared.cause.Cause.{Cause}
use Rattle.rules.specs.declared.EndplateFigures.{EndplateFigures}
use Rattle.rules.specs.declared.BlindFlangeFigures.{BlindFlangeFigures}

pub data Sizing : Type 0 where
  Endplate : EndplateFigures → Sizing
  BlindFlange : BlindFlangeFigures → Sizing
  Refused : ℕ → Sizing

-- what the two functions that size a part return
abbrev pub endplate_sized : Result EndplateFigures Cause → Sizing
endplate_sized (Ok f) = Endplate f
endplate_sized (Err cause) = Refused (number_of cause)

abbrev pub blind_flange_sized : Result BlindFlangeFigures Cause → Sizing
blind_flange_sized (Ok f) = BlindFlange f
blind_flange_sized (Err cause) = Refused (number_of cause)
