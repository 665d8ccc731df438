-- The plate list: nothing for the usual stock, the word none for no plate, or 1 to 32 entries with commas between.
use Rattle.std.specs.Prelude.{ℕ, zero, suc, cond, List, [], ◌∷◌, eqb, length, take, Option, Some, None}
use Rattle.std.specs.Option.{option_map}
use Rattle.plates.specs.declared.Plate.{Plate}
use Rattle.plates.specs.Plates.{standard_plates}
use Rattle.text.specs.Ascii.{ascii, comma, colon}
use Rattle.text.specs.Line.{same, contains, before, after}
use Rattle.text.specs.Number.{number_of}
use Rattle.text.specs.declared.named_plates.Plates.{Plates}

-- how many entries at most
abbrev pub most_plates : ℕ
most_plates = 32

-- a plate by its two numbers; none where either is malformed
abbrev pub plate_with : Option ℕ → Option ℕ → Option Plate
plate_with (Some thickness) (Some under_tolerance) = Some record { thickness = thickness; under_tolerance = under_tolerance }
plate_with (Some thickness) None = None
plate_with None under_tolerance = None

-- an entry, thickness or thickness:minus; without the colon minus is 0 (document 02, R-13)
unfoldable pub entry_of : List ℕ → Option Plate
entry_of v =
    let under_tolerance = number_of (after colon v) in
    plate_with (number_of (before colon v)) (cond (contains colon v) under_tolerance (Some 0))

-- a plate before a list; none where either is malformed
abbrev pub plate_before : Option Plate → Option (List Plate) → Option (List Plate)
plate_before (Some plate) (Some plates) = Some (plate ∷ plates)
plate_before (Some plate) None = None
plate_before None plates = None

-- 1 to k entries with commas between
unfoldable pub plates_listed : ℕ → List ℕ → Option (List Plate)
plates_listed zero t = None
plates_listed (suc k) t =
    let more = plates_listed k (after comma t) in
    plate_before (entry_of (before comma t)) (cond (contains comma t) more (Some []))

-- plates: nothing after the = stands for the usual stock, none for an empty list (document 02, R-8); any other value lists
-- entries
unfoldable pub plates_of : List ℕ → Option (List Plate)
plates_of v =
    let listed = plates_listed most_plates v in
    cond (eqb (length v) 0) (Some standard_plates) (cond (same (ascii "none") v) (Some []) listed)

-- the plates that the code's `Plates` hold, in order
abbrev pub plates_held : Plates → List Plate
plates_held plates = take plates.count plates.list

-- those of a list which was read
abbrev pub plates_read : Option Plates → Option (List Plate)
plates_read list = option_map plates_held list
