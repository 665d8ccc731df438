-- Bolt loads (document 01, Blind flanges; ASME Section VIII Division 1, Appendix 2), in tenths of a newton (document 02,
-- R-7). G in tenths of a mm, b in hundredths; rib, the length of a pass partition rib, in tenths of a mm, and br, its b, in
-- hundredths, both 0 without one (document 02, R-4); m in hundredths, y in tenths of N/mm²; P in thousandths of N/mm²; A in
-- tenths of mm², sa and sb in N/mm².
use Rattle.std.specs.Prelude.{ℕ, ◌+◌, ◌*◌, ◌^◌, max, ◌≤◌}
use Rattle.std.proofs.Common.{arith}
use Rattle.root.specs.Least.{◌≥◌, Least}
use Rattle.root.specs.Root.{ceil_div}
use Rattle.root.proofs.Laws.{ceil_div_least}
use Rattle.limits.specs.declared.BlindFlangeSheet.{BlindFlangeSheet}
use Rattle.rules.specs.Gasket.{effective_width_of, reaction_diameter_of}
use Rattle.rules.specs.declared.gasket.Gasket.{Gasket}

-- ---- exact: fractions of a newton multiplied out to whole numbers

-- V1: exact Wm1 in N, times 10¹⁰, the rib's 2·b·length·m·P included
unfoldable pub exact_operating_load : ℕ → ℕ → ℕ → ℕ → ℕ → ℕ → ℕ
exact_operating_load G b rib br m P = 78500 * (G * G) * P + 628 * b * G * m * P + 200 * br * rib * m * P

-- V2: exact Wm2 in N, times 10⁶, the rib's b·length·y included
unfoldable pub exact_seating_load : ℕ → ℕ → ℕ → ℕ → ℕ → ℕ
exact_seating_load G b rib br y = 314 * b * G * y + 100 * br * rib * y

-- V: exact W in N, times 2·10¹¹·sb
unfoldable pub exact_flange_load : ℕ → ℕ → ℕ → ℕ → ℕ → ℕ
exact_flange_load V1 V2 A sa sb = max (10 * V1 * sa) (10 ^ 5 * V2 * sb) + 10 ^ 10 * A * sa * sb

-- ---- rounded up to the tenth of a newton, worked from one another

-- Wm1: the least whole number with 10⁹·Wm1 ≥ V1
unfoldable pub operating_load_of : ℕ → ℕ
operating_load_of V1 = ceil_div V1 (10 ^ 9)

pub operating_load_of_least :
    (G b rib br m P : ℕ) →
    Least
    (λ Wm1. 10 ^ 9 * Wm1 ≥ 78500 * (G * G) * P + 628 * b * G * m * P + 200 * br * rib * m * P)
    (operating_load_of (exact_operating_load G b rib br m P))
unfolding exact_operating_load operating_load_of
operating_load_of_least G b rib br m P = ceil_div_least _ (10 ^ 9) (omega arith)

-- Wm2: the least with 10⁵·Wm2 ≥ V2
unfoldable pub seating_load_of : ℕ → ℕ
seating_load_of V2 = ceil_div V2 (10 ^ 5)

pub seating_load_of_least :
    (G b rib br y : ℕ) →
    Least (λ Wm2. 10 ^ 5 * Wm2 ≥ 314 * b * G * y + 100 * br * rib * y) (seating_load_of (exact_seating_load G b rib br y))
unfolding exact_seating_load seating_load_of
seating_load_of_least G b rib br y = ceil_div_least _ (10 ^ 5) (omega arith)

-- W: the least with 2·sb·W ≥ the greater of Wm1·sa and Wm2·sb, plus A·sa·sb
unfoldable pub flange_load_of : ℕ → ℕ → ℕ → ℕ → ℕ → ℕ
flange_load_of Wm1 Wm2 A sa sb = ceil_div (max (Wm1 * sa) (Wm2 * sb) + A * sa * sb) (2 * sb)

pub flange_load_of_least :
    (Wm1 Wm2 A sa sb : ℕ) →
    1 ≤ sb →
    Least
    (λ W. 2 * sb * W ≥ max (Wm1 * sa) (Wm2 * sb) + A * sa * sb)
    (flange_load_of Wm1 Wm2 A sa sb)
unfolding flange_load_of
flange_load_of_least Wm1 Wm2 A sa sb some = ceil_div_least _ (2 * sb) (omega arith)

-- ---- of a sheet

-- V1 and V2
abbrev pub exact_operating_load_of : BlindFlangeSheet → ℕ
exact_operating_load_of s =
    let G = reaction_diameter_of s.od s.width in
    let b = effective_width_of s.width in
    exact_operating_load G b s.rib (effective_width_of s.rib_width) s.m s.pressure

abbrev pub exact_seating_load_of : BlindFlangeSheet → ℕ
exact_seating_load_of s =
    let G = reaction_diameter_of s.od s.width in
    let b = effective_width_of s.width in
    exact_seating_load G b s.rib (effective_width_of s.rib_width) s.y

-- the gasket and its loads as one value: G, b, Wm1, Wm2
unfoldable pub gasket_of : BlindFlangeSheet → Gasket
gasket_of s =
    record {
      reaction_diameter = reaction_diameter_of s.od s.width;
      effective_width = effective_width_of s.width;
      operating_load = operating_load_of (exact_operating_load_of s);
      seating_load = seating_load_of (exact_seating_load_of s);
    }
