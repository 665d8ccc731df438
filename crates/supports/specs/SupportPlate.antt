-- Baffles and support plates (document 02, R-6): what is answered, in its numbers. Diameters, spans and thicknesses in whole mm.
use Rattle.std.specs.Prelude.{ℕ, ◌||◌, Bool, List, [], ◌∷◌, not, eqb, ltb, if◌then◌else◌, Result, Ok, Err}
use Rattle.tables.specs.SupportPlates.{longest_span_of, plate_thickness_of}
use Rattle.supports.specs.declared.Cause.{Cause}
use Rattle.supports.specs.declared.Cause.TheVariants.{Tube, Span, Plate}
use Rattle.supports.specs.declared.SupportPlate.{SupportPlate}

-- ---- causes, 18 to 20

-- tube below 6 or group neither of the two, 1 steel and 2 copper
abbrev pub tube_refused : ℕ → ℕ → Bool
tube_refused tube group = ltb tube 6 || not (eqb group 1 || eqb group 2)

-- span over the allowed one
abbrev pub span_refused : ℕ → ℕ → ℕ → Bool
span_refused tube group span = ltb (longest_span_of tube group) span

-- plate over 1000
abbrev pub plate_refused : ℕ → Bool
plate_refused diameter = ltb 1000 diameter

-- in that order; 0 where none applies
abbrev pub cause_for : ℕ → ℕ → ℕ → ℕ → ℕ
cause_for tube group span diameter =
    if tube_refused tube group then 18
    else if span_refused tube group span then 19
    else if plate_refused diameter then 20
    else 0

-- ---- the cause, 0 if none, its figure, which is 0, the longest allowed span, and the least plate thickness

-- of a call; a refusal has 0 for both
unfoldable pub numbers_for : ℕ → ℕ → ℕ → ℕ → List ℕ
numbers_for tube group span diameter =
    let cause = cause_for tube group span diameter in
    if eqb cause 0 then 0 ∷ 0 ∷ longest_span_of tube group ∷ plate_thickness_of span diameter ∷ []
    else cause ∷ 0 ∷ 0 ∷ 0 ∷ []

-- and of what is returned
abbrev pub number_of : Cause → ℕ
number_of Tube = 18
number_of Span = 19
number_of Plate = 20

abbrev pub numbers_of : Result SupportPlate Cause → List ℕ
numbers_of (Ok plate) = 0 ∷ 0 ∷ plate.longest_span ∷ plate.thickness ∷ []
numbers_of (Err cause) = number_of cause ∷ 0 ∷ 0 ∷ 0 ∷ []
