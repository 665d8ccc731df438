-- A cause's number (documents 01 and 02), and the number that an answer has: 0 where nothing is refused.
use Rattle.std.specs.Prelude.{ℕ, Result, Ok, Err}
use Rattle.limits.specs.declared.cause.Cause.{Cause}
use Rattle.limits.specs.declared.cause.Cause.TheVariants.{Malformed, Material, Pressure, Temperature, NoStress, Diameter, Allowance, Width, Gasket, Bolts, BoltStress, Circle, BoltsOverloaded, NoPlate, Rib, NoBolts}

abbrev pub number_of : Cause → ℕ
number_of Malformed = 1
number_of Material = 2
number_of Pressure = 3
number_of Temperature = 4
number_of NoStress = 5
number_of Diameter = 6
number_of Allowance = 7
number_of Width = 8
number_of Gasket = 9
number_of Bolts = 10
number_of BoltStress = 11
number_of Circle = 12
number_of BoltsOverloaded = 13
number_of NoPlate = 14
number_of Rib = 17
number_of NoBolts = 24

abbrev pub cause_number : {A : Type 0} → Result A Cause → ℕ
cause_number (Ok a) = 0
cause_number (Err cause) = number_of cause
