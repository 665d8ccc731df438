-- Causes of a blind flange, with its gasket and loads (document 01). 14, no plate, is in Numbers.
use Rattle.std.specs.Prelude.{ℕ, not, [], ◌∷◌, ◌++◌}
use Rattle.limits.specs.Causes.{Tests, Causes}
use Rattle.limits.specs.Limits.{flange_limits, bolts_limits, bolt_stress_limits}
use Rattle.limits.specs.declared.BlindFlangeSheet.{BlindFlangeSheet}
use Rattle.rules.specs.Loads.{gasket_of}
use Rattle.rules.specs.Bolts.{bolts_sufficient, bolt_area}
use Rattle.rules.specs.declared.gasket.Gasket.{Gasket}

-- 13: the bolts, of area A, do not carry the gasket's loads
abbrev pub bolts_overloaded : Gasket → ℕ → ℕ → ℕ → Tests
bolts_overloaded gasket A sa sb =
    not (bolts_sufficient gasket.operating_load gasket.seating_load A sa sb) ∷ []

-- 10, 12 and 13: the bolts' own, of any diameter, root area and count on this flange
unfoldable pub bolts_causes : BlindFlangeSheet → ℕ → ℕ → ℕ → Causes
bolts_causes s bolt root count =
    let gasket = gasket_of s in
    bolts_limits s gasket.reaction_diameter bolt root count
    ++ (13, bolts_overloaded gasket (bolt_area root count) s.sa s.sb) ∷ []

-- 2 to 9, 17, 11, and those of the sheet's bolts
unfoldable pub blind_flange_causes : BlindFlangeSheet → Causes
blind_flange_causes s = flange_limits s ++ bolt_stress_limits s ++ bolts_causes s s.bolt s.root s.count
