-- Baffles and support plates (R-6): rows of every entry of Tables 13 and 14, at its limits and beside them, and of the causes.
-- Assumes nothing.
use Rattle.std.proofs.Common.{◌≡◌, ℕ, List, [], ◌∷◌, map, get_or, refl}
use Rattle.tables.specs.SupportPlates.{tube_row, longest_span_of, plate_row, span_column, plate_thickness_of}
use Rattle.supports.specs.SupportPlate.{numbers_for}

-- ---- Table 13: the longest spans of a tube, of steel and of copper

abbrev spans : ℕ → List ℕ
spans tube = map (λ group. get_or (numbers_for tube group 0 0) 2 0) (1 ∷ 2 ∷ [])

-- at each limit, and a mm below the next
abbrev spans_table : List (List ℕ × List ℕ)
spans_table =
    (spans 5, 0 ∷ 0 ∷ [])
    ∷ (spans 6, 650 ∷ 550 ∷ [])
    ∷ (spans 9, 650 ∷ 550 ∷ [])
    ∷ (spans 10, 875 ∷ 750 ∷ [])
    ∷ (spans 11, 875 ∷ 750 ∷ [])
    ∷ (spans 12, 1100 ∷ 950 ∷ [])
    ∷ (spans 15, 1100 ∷ 950 ∷ [])
    ∷ (spans 16, 1300 ∷ 1125 ∷ [])
    ∷ (spans 18, 1300 ∷ 1125 ∷ [])
    ∷ (spans 19, 1500 ∷ 1300 ∷ [])
    ∷ (spans 21, 1500 ∷ 1300 ∷ [])
    ∷ (spans 22, 1675 ∷ 1450 ∷ [])
    ∷ (spans 24, 1675 ∷ 1450 ∷ [])
    ∷ (spans 25, 1850 ∷ 1600 ∷ [])
    ∷ (spans 31, 1850 ∷ 1600 ∷ [])
    ∷ (spans 32, 2200 ∷ 1900 ∷ [])
    ∷ (spans 37, 2200 ∷ 1900 ∷ [])
    ∷ (spans 38, 2500 ∷ 2200 ∷ [])
    ∷ (spans 49, 2500 ∷ 2200 ∷ [])
    ∷ (spans 50, 3000 ∷ 2750 ∷ [])
    -- 63 reads 50's row, and so does the greatest number
    ∷ (spans 63, 3000 ∷ 2750 ∷ [])
    ∷ (spans 4294967295, 3000 ∷ 2750 ∷ [])
    ∷ []

-- ---- Table 14: the least thicknesses of a plate

-- at 0, and at each column's limit and a mm above; the last is refused by 19
abbrev thicknesses : ℕ → List ℕ
thicknesses diameter =
    map (λ span. get_or (numbers_for 63 1 span diameter) 3 0)
    (0 ∷ 600 ∷ 601 ∷ 900 ∷ 901 ∷ 1200 ∷ 1201 ∷ 1500 ∷ 1501 ∷ 3000 ∷ 3001 ∷ [])

abbrev thicknesses_table : List (List ℕ × List ℕ)
thicknesses_table =
    (thicknesses 0, 3 ∷ 3 ∷ 5 ∷ 5 ∷ 6 ∷ 6 ∷ 10 ∷ 10 ∷ 10 ∷ 10 ∷ 0 ∷ [])
    ∷ (thicknesses 350, 3 ∷ 3 ∷ 5 ∷ 5 ∷ 6 ∷ 6 ∷ 10 ∷ 10 ∷ 10 ∷ 10 ∷ 0 ∷ [])
    ∷ (thicknesses 351, 5 ∷ 5 ∷ 6 ∷ 6 ∷ 10 ∷ 10 ∷ 10 ∷ 10 ∷ 13 ∷ 13 ∷ 0 ∷ [])
    ∷ (thicknesses 700, 5 ∷ 5 ∷ 6 ∷ 6 ∷ 10 ∷ 10 ∷ 10 ∷ 10 ∷ 13 ∷ 13 ∷ 0 ∷ [])
    ∷ (thicknesses 701, 6 ∷ 6 ∷ 8 ∷ 8 ∷ 10 ∷ 10 ∷ 13 ∷ 13 ∷ 16 ∷ 16 ∷ 0 ∷ [])
    ∷ (thicknesses 1000, 6 ∷ 6 ∷ 8 ∷ 8 ∷ 10 ∷ 10 ∷ 13 ∷ 13 ∷ 16 ∷ 16 ∷ 0 ∷ [])
    ∷ (thicknesses 1001, 0 ∷ 0 ∷ 0 ∷ 0 ∷ 0 ∷ 0 ∷ 0 ∷ 0 ∷ 0 ∷ 0 ∷ 0 ∷ [])
    ∷ []

-- ---- where the tables themselves have none, whatever a call is refused by

abbrev none_table : List (ℕ × ℕ)
none_table =
    (longest_span_of 5 1, 0)
    ∷ (longest_span_of 19 0, 0)
    ∷ (longest_span_of 19 3, 0)
    ∷ (plate_thickness_of 3000 350, 10)
    ∷ (plate_thickness_of 3001 350, 0)
    ∷ (plate_thickness_of 3000 1000, 16)
    ∷ (plate_thickness_of 3000 1001, 0)
    ∷ (plate_thickness_of 3001 1001, 0)
    ∷ []

-- ---- whole answers

abbrev refused : ℕ → List ℕ
refused cause = cause ∷ 0 ∷ 0 ∷ 0 ∷ []

abbrev answers_table : List (List ℕ × List ℕ)
answers_table =
    -- README's: a steel tube of 19 and a plate of 600, at 1200, at the longest span, and a mm over it
    (numbers_for 19 1 1200 600, 0 ∷ 0 ∷ 1500 ∷ 10 ∷ [])
    ∷ (numbers_for 19 1 1500 600, 0 ∷ 0 ∷ 1500 ∷ 10 ∷ [])
    ∷ (numbers_for 19 1 1501 600, refused 19)
    -- of copper
    ∷ (numbers_for 19 2 1300 600, 0 ∷ 0 ∷ 1300 ∷ 10 ∷ [])
    ∷ (numbers_for 19 2 1301 600, refused 19)
    -- neither group; a tube below 6; a plate over 1000
    ∷ (numbers_for 19 0 1200 600, refused 18)
    ∷ (numbers_for 19 3 1200 600, refused 18)
    ∷ (numbers_for 5 1 0 0, refused 18)
    ∷ (numbers_for 19 1 1200 1001, refused 20)
    -- 18 before 19, before 20 and before both, by the tube and by the group; 19 before 20
    ∷ (numbers_for 5 1 1 0, refused 18)
    ∷ (numbers_for 19 3 1501 600, refused 18)
    ∷ (numbers_for 5 1 0 1001, refused 18)
    ∷ (numbers_for 19 3 0 1001, refused 18)
    ∷ (numbers_for 5 1 3001 1001, refused 18)
    ∷ (numbers_for 19 3 3001 1001, refused 18)
    ∷ (numbers_for 19 1 1501 1001, refused 19)
    ∷ []

abbrev all_agree : {A : Type 0} → List (A × A) → Type 0
all_agree table = map (λ row. row.0) table ≡ map (λ row. row.1) table

rows : all_agree spans_table × all_agree thicknesses_table × all_agree none_table × all_agree answers_table
unfolding tube_row longest_span_of plate_row span_column plate_thickness_of numbers_for
rows = (refl, refl, refl, refl)
