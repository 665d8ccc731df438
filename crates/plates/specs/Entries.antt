-- Lists of numbers and of bytes: a plate is two numbers, thickness first, and a number, of a plate or of a bolt's size, is four
-- bytes, lowest first. What is left over for less than an entry is not read.
use Rattle.std.specs.Prelude.{ℕ, ◌+◌, ◌*◌, List, [], ◌∷◌, get_or, drop}
use Rattle.plates.specs.declared.Plate.{Plate}

-- the plates in a list of numbers
unfoldable pub plates_in : List ℕ → List Plate
plates_in [] = []
plates_in (thickness ∷ []) = []
plates_in (thickness ∷ under_tolerance ∷ rest) = record { thickness = thickness; under_tolerance = under_tolerance } ∷ plates_in rest

abbrev pub lowest_first : ℕ → ℕ → ℕ → ℕ → ℕ
lowest_first a b c d = a + 256 * b + 65536 * c + 16777216 * d

-- the numbers in C's bytes
unfoldable pub numbers_in : List ℕ → List ℕ
numbers_in [] = []
numbers_in (a ∷ []) = []
numbers_in (a ∷ b ∷ []) = []
numbers_in (a ∷ b ∷ c ∷ []) = []
numbers_in (a ∷ b ∷ c ∷ d ∷ rest) = lowest_first a b c d ∷ numbers_in rest

-- ---- an entry by itself

-- the plate in two numbers
abbrev pub plate_in : List ℕ → Plate
plate_in numbers = record { thickness = get_or numbers 0 0; under_tolerance = get_or numbers 1 0 }

-- the number in four bytes
abbrev pub number_in : List ℕ → ℕ
number_in bytes = lowest_first (get_or bytes 0 0) (get_or bytes 1 0) (get_or bytes 2 0) (get_or bytes 3 0)

-- the plate in eight bytes
abbrev pub plate_in_bytes : List ℕ → Plate
plate_in_bytes bytes = record { thickness = number_in bytes; under_tolerance = number_in (drop 4 bytes) }
