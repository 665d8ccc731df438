-- Which plate serves, and the choice of one (document 01; document 02, R-13). Thickness, minus (`under_tolerance`) and total in
-- hundredths of a mm.
use Rattle.std.specs.Prelude.{ℕ, ◌-◌, ◌≤◌, ◌<◌, ◌≡◌, Bool, true, false, ◌&&◌, ◌||◌, cond, leb, ltb, Option, Some, None}
use mathlib.Core.List.{List, [], ◌∷◌, ◌++◌, foldl, map, Memᴰ}
use Rattle.plates.specs.declared.Plate.{Plate}

-- a plate serves if its thickness less its minus is not below the total; one whose minus exceeds its thickness never serves
abbrev pub serves : ℕ → Plate → Bool
serves total plate = leb plate.under_tolerance plate.thickness && leb total (plate.thickness - plate.under_tolerance)

-- one of a list serves
abbrev pub any_serves : ℕ → List Plate → Bool
any_serves total plates = foldl ◌||◌ false (map (serves total) plates)

-- nominally smaller than the choice so far; any plate is, where there is none yet
abbrev pub smaller : Plate → Option Plate → Bool
smaller plate (Some chosen) = ltb plate.thickness chosen.thickness
smaller plate None = true

-- the choice, with one plate more: the first of equals stays
abbrev pub better : ℕ → Option Plate → Plate → Option Plate
better total choice plate = cond (serves total plate && smaller plate choice) (Some plate) choice

-- the plate of a list that serves and is nominally smallest, the first of equals
unfoldable pub smallest_serving : ℕ → List Plate → Option Plate
smallest_serving total plates = foldl (better total) None plates

-- plate: the thickness of the one chosen, without its minus; 0 where there is none
abbrev pub plate_of : Option Plate → ℕ
plate_of (Some plate) = plate.thickness
plate_of None = 0

-- a plate is chosen
abbrev pub is_chosen : Option Plate → Bool
is_chosen (Some plate) = true
is_chosen None = false

-- a plate by its minus and its thickness: toleranced 30 300 is 300:30 of a list
abbrev pub toleranced : ℕ → ℕ → Plate
toleranced under_tolerance thickness = record { thickness = thickness; under_tolerance = under_tolerance }

-- the usual stock (document 02, R-8 and R-13): each may be 0.30 mm thinner
unfoldable pub standard_plates : List Plate
standard_plates =
    map (toleranced 30) (300 ∷ 400 ∷ 500 ∷ 600 ∷ 800 ∷ 1000 ∷ 1200 ∷ 1500 ∷ 2000 ∷ 2500 ∷ 3000 ∷ 4000 ∷ 5000 ∷ [])

-- ---- what the plate rule asks of a choice

abbrev pub Listed : Plate → List Plate → Type 0
Listed plate plates = Memᴰ plate plates

abbrev pub Serves : ℕ → Plate → Type 0
Serves total plate = (plate.under_tolerance ≤ plate.thickness) × (total ≤ plate.thickness - plate.under_tolerance)

-- the plate chosen is of the list and serves; no plate that serves is nominally smaller, and those that serve before it are
-- larger: it is the first of equals
pub record Smallest (total : ℕ) (plates : List Plate) (chosen : Plate) : Type 0 where
  pub before : List Plate
  pub after : List Plate
  pub place : plates ≡ before ++ chosen ∷ after
  pub serving : Serves total chosen
  pub larger : (plate : Plate) → Listed plate before → Serves total plate → chosen.thickness < plate.thickness
  pub least : (plate : Plate) → Listed plate plates → Serves total plate → chosen.thickness ≤ plate.thickness

-- and none is chosen only where none serves
abbrev pub Chosen : ℕ → List Plate → Option Plate → Type 0
Chosen total plates (Some plate) = Smallest total plates plate
Chosen total plates None = (plate : Plate) → Listed plate plates → ¬ Serves total plate
