-- Bounds under which the products of the calculations fit 64 bits: powers of two above the limits, which stand in the
-- crate limits alone. Only what private functions ask for and private structs hold cites them, and the proofs:
-- a wider limit changes them here.
use Rattle.std.specs.Prelude.{ℕ, ◌^◌, ◌≤◌}

-- P, thousandths of N/mm²
abbrev pub most_pressure : ℕ
most_pressure = 2 ^ 11

-- a stress of Table 1, N/mm²
abbrev pub most_stress : ℕ
most_stress = 2 ^ 7

-- d, od and G, tenths of a mm
abbrev pub most_diameter : ℕ
most_diameter = 2 ^ 15

-- C − G, tenths of a mm
abbrev pub most_lever : ℕ
most_lever = 2 ^ 14

-- allow, hundredths of a mm
abbrev pub most_allowance : ℕ
most_allowance = 2 ^ 10

-- n of the ring and of a rib, tenths of a mm
abbrev pub most_width : ℕ
most_width = 2 ^ 10

-- b, hundredths of a mm
abbrev pub most_effective_width : ℕ
most_effective_width = 2 ^ 11

-- length of a rib, tenths of a mm
abbrev pub most_rib : ℕ
most_rib = 2 ^ 16

-- m, hundredths, and y, tenths of N/mm²
abbrev pub most_factor : ℕ
most_factor = 2 ^ 11

-- a bolt's diameter, mm, and the number of bolts
abbrev pub most_bolts : ℕ
most_bolts = 2 ^ 7

-- A, tenths of mm²
abbrev pub most_area : ℕ
most_area = 2 ^ 24

-- sa and sb, N/mm²
abbrev pub most_bolt_stress : ℕ
most_bolt_stress = 2 ^ 9

-- Wm1 and Wm2, tenths of a newton
abbrev pub most_gasket_load : ℕ
most_gasket_load = 2 ^ 30

-- W, and whatever load a thickness is worked under, tenths of a newton
abbrev pub most_load : ℕ
most_load = 2 ^ 33

-- a need or an edge, hundredths of a mm: the root of what fits
abbrev pub most_thickness : ℕ
most_thickness = 2 ^ 32

-- ---- what a `Bolting` holds

abbrev pub BoltsBounded : ℕ → ℕ → ℕ → ℕ → ℕ → Type 0
BoltsBounded Wm1 Wm2 A sa sb =
    (Wm1 ≤ most_gasket_load) × (Wm2 ≤ most_gasket_load) × (A ≤ most_area) × (sa ≤ most_bolt_stress) × (sb ≤ most_bolt_stress)
