-- Forms of an endplate, and its design stress (document 01, Endplates), in N/mm².
use Rattle.std.specs.Prelude.{ℕ, min, cond, eqb}
use Rattle.tables.specs.DesignStress.{design_stress_of}

-- form: 1, 2, 3 for a, c, d
abbrev pub form_a : ℕ
form_a = 1

abbrev pub form_c : ℕ
form_c = 2

abbrev pub form_d : ℕ
form_d = 3

-- F: the plate's stress; for c and d the lower of the plate's and the shell's. 0 where one of these has none
unfoldable pub endplate_stress : ℕ → ℕ → ℕ → ℕ → ℕ
endplate_stress form material shell temperature =
    let plate = design_stress_of material temperature in
    cond (eqb form form_a) plate (min plate (design_stress_of shell temperature))
