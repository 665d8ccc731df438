-- The limits that the numbers of a sheet keep to (documents 01 and 02): causes 2 to 12 and 17. 13, the bolts do not carry, 14,
-- no plate, and 24, no bolts to choose, are worked from the loads and the total, in the crate rules.
use Rattle.std.specs.Prelude.{ℕ, ◌+◌, ◌*◌, not, [], ◌∷◌, ◌++◌, ltb, eqb}
use Rattle.std.specs.Bool.{beq}
use Rattle.tables.specs.DesignStress.{design_stress_of}
use Rattle.limits.specs.Causes.{Tests, Causes}
use Rattle.limits.specs.Stress.{form_a, endplate_stress}
use Rattle.limits.specs.declared.EndplateSheet.{EndplateSheet}
use Rattle.limits.specs.declared.BlindFlangeSheet.{BlindFlangeSheet}
use Rattle.limits.specs.declared.unbolted.UnboltedSheet.{UnboltedSheet}
use Rattle.limits.specs.Unbolted.{flange_of}

-- ---- the tests of each cause, over the values that it is about

-- 2: outside 1 to 11, or a tube
abbrev pub material_refused : ℕ → Tests
material_refused material =
    ltb material 1 ∷ ltb 11 material ∷ eqb material 7 ∷ eqb material 9 ∷ eqb material 11 ∷ []

-- 2: over 11, or breaking its zero rule: 0 exactly for form a
abbrev pub shell_refused : ℕ → ℕ → Tests
shell_refused form shell = ltb 11 shell ∷ not (beq (eqb shell 0) (eqb form form_a)) ∷ []

-- 2: other than 1, 2, 3
abbrev pub form_refused : ℕ → Tests
form_refused form = ltb form 1 ∷ ltb 3 form ∷ []

-- 3: P is 0 or over 2000
abbrev pub pressure_refused : ℕ → Tests
pressure_refused P = eqb P 0 ∷ ltb 2000 P ∷ []

-- 4: temp over 300
abbrev pub temperature_refused : ℕ → Tests
temperature_refused temperature = ltb 300 temperature ∷ []

-- 5: a material in use has a dash there
abbrev pub no_stress : ℕ → Tests
no_stress stress = eqb stress 0 ∷ []

-- 6: dia or od below 500 or over 30000 (document 02, R-2)
abbrev pub diameter_refused : ℕ → Tests
diameter_refused diameter = ltb diameter 500 ∷ ltb 30000 diameter ∷ []

-- 7: allow over 1000
abbrev pub allowance_refused : ℕ → Tests
allowance_refused allowance = ltb 1000 allowance ∷ []

-- 8: width below 100 (004, 10.8.2) or over 500, or 4·width over od
abbrev pub width_refused : ℕ → ℕ → Tests
width_refused od width = ltb width 100 ∷ ltb 500 width ∷ ltb od (4 * width) ∷ []

-- 17: exactly one of rib and ribw is 0, or rib is over 40000, or ribw is over 500 (document 02, R-4)
abbrev pub rib_refused : ℕ → ℕ → Tests
rib_refused rib width = not (beq (eqb rib 0) (eqb width 0)) ∷ ltb 40000 rib ∷ ltb 500 width ∷ []

-- 9: m over 650 or y over 1800
abbrev pub gasket_refused : ℕ → ℕ → Tests
gasket_refused m y = ltb 650 m ∷ ltb 1800 y ∷ []

-- 10: bolt below 12 (004, 8.4.1.3) or over 76; root 0 or 100·root over 785·bolt²; count below 4 or over 100
abbrev pub bolts_refused : ℕ → ℕ → ℕ → Tests
bolts_refused bolt root count =
    ltb bolt 12
    ∷ ltb 76 bolt
    ∷ eqb root 0
    ∷ ltb (785 * (bolt * bolt)) (100 * root)
    ∷ ltb count 4
    ∷ ltb 100 count
    ∷ []

-- 11: sa or sb 0 or over 400, or sa over 4·sb
abbrev pub bolt_stress_refused : ℕ → ℕ → Tests
bolt_stress_refused sa sb = eqb sa 0 ∷ ltb 400 sa ∷ eqb sb 0 ∷ ltb 400 sb ∷ ltb (4 * sb) sa ∷ []

-- 12: C below od + 10·bolt, or 2·C over 3·G
abbrev pub circle_refused : ℕ → ℕ → ℕ → ℕ → Tests
circle_refused C od bolt G = ltb C (od + 10 * bolt) ∷ ltb (3 * G) (2 * C) ∷ []

-- ---- of an endplate

unfoldable pub endplate_causes : EndplateSheet → Causes
endplate_causes s =
    (2, form_refused s.form ++ material_refused s.material ++ shell_refused s.form s.shell)
    ∷ (3, pressure_refused s.pressure)
    ∷ (4, temperature_refused s.temperature)
    ∷ (5, no_stress (endplate_stress s.form s.material s.shell s.temperature))
    ∷ (6, diameter_refused s.diameter)
    ∷ (7, allowance_refused s.allowance)
    ∷ []

-- ---- of a blind flange

-- 2 to 9 and 17: the limits within which its gasket and the loads are worked
unfoldable pub flange_limits : BlindFlangeSheet → Causes
flange_limits s =
    (2, material_refused s.material)
    ∷ (3, pressure_refused s.pressure)
    ∷ (4, temperature_refused s.temperature)
    ∷ (5, no_stress (design_stress_of s.material s.temperature))
    ∷ (6, diameter_refused s.od)
    ∷ (7, allowance_refused s.allowance)
    ∷ (8, width_refused s.od s.width)
    ∷ (17, rib_refused s.rib s.rib_width)
    ∷ (9, gasket_refused s.m s.y)
    ∷ []

-- the bolts' own, of any diameter, root area and count on this flange, G being that of its gasket
abbrev pub bolts_limits : BlindFlangeSheet → ℕ → ℕ → ℕ → ℕ → Causes
bolts_limits s G bolt root count =
    (10, bolts_refused bolt root count) ∷ (12, circle_refused s.circle s.od bolt G) ∷ []

-- and their stresses
abbrev pub bolt_stress_limits : BlindFlangeSheet → Causes
bolt_stress_limits s = (11, bolt_stress_refused s.sa s.sb) ∷ []

-- both, for the bolts of the sheet
unfoldable pub bolting_limits : BlindFlangeSheet → ℕ → Causes
bolting_limits s G = bolts_limits s G s.bolt s.root s.count ++ bolt_stress_limits s

-- ---- of a blind flange whose bolts are yet to be chosen (document 02, R-10)

-- 2 to 9, 17 and 11: all but the bolts' own
unfoldable pub unbolted_limits : UnboltedSheet → Causes
unbolted_limits s = flange_limits (flange_of s) ++ bolt_stress_limits (flange_of s)
