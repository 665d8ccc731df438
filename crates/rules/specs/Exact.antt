-- Demand 3: the exact inequalities of document 01, on whole numbers, and how near to them a thickness is.
use Rattle.std.specs.Prelude.{ℕ, ◌+◌, ◌-◌, ◌*◌, ◌^◌, ◌≤◌}
use Rattle.tables.specs.DesignStress.{design_stress_of}
use Rattle.root.specs.Least.{◌≥◌, Least}
use Rattle.limits.specs.Stress.{endplate_stress}
use Rattle.limits.specs.declared.EndplateSheet.{EndplateSheet}
use Rattle.limits.specs.declared.BlindFlangeSheet.{BlindFlangeSheet}
use Rattle.rules.specs.Endplate.{form_factor}
use Rattle.rules.specs.Gasket.{reaction_diameter_of}
use Rattle.rules.specs.Loads.{exact_flange_load, exact_operating_load_of, exact_seating_load_of}
use Rattle.rules.specs.Bolts.{bolt_area}
use Rattle.rules.specs.Figures.{ambient}
use Rattle.rules.specs.Answer.{Accepted}
use Rattle.rules.specs.Answer.{Answer}
use Rattle.rules.specs.Answer.{Endplate, BlindFlange, Refused}

-- ---- the inequalities, each of a number T, e or edge in hundredths of a mm

-- need of an endplate: 40·F·T² ≥ P·d², or 30·F·T² ≥ P·d² for form d
abbrev pub EndplateHolds : ℕ → ℕ → ℕ → ℕ → ℕ → Type 0
EndplateHolds form F P d T = form_factor form * F * (T * T) ≥ P * (d * d)

-- need of a blind flange: 10¹²·S·G·e² ≥ 3·10¹⁰·G³·P + 954500·V1·(C − G)
abbrev pub ThicknessHolds : ℕ → ℕ → ℕ → ℕ → ℕ → ℕ → Type 0
ThicknessHolds S G P C V1 e = 10 ^ 12 * S * G * (e * e) ≥ 3 * 10 ^ 10 * (G * G * G) * P + 954500 * V1 * (C - G)

-- edge: both 2·10¹³·sb·S0·G·edge² ≥ 954500·V·(C − G) and 10¹²·S·G·edge² ≥ 954500·V1·(C − G)
abbrev pub AmbientEdgeHolds : ℕ → ℕ → ℕ → ℕ → ℕ → ℕ → Type 0
AmbientEdgeHolds sb S0 G C «V» edge = 2 * 10 ^ 13 * sb * S0 * G * (edge * edge) ≥ 954500 * «V» * (C - G)

abbrev pub OperatingEdgeHolds : ℕ → ℕ → ℕ → ℕ → ℕ → Type 0
OperatingEdgeHolds S G C V1 edge = 10 ^ 12 * S * G * (edge * edge) ≥ 954500 * V1 * (C - G)

-- ---- the demand

-- 0.50 mm: printed so or above, a need or an edge is less than 0.02 mm above the least exact thickness
abbrev pub near_from : ℕ
near_from = 50

-- r satisfies P whatever its size, and from there on no whole number lower by 2 or more does
pub record Near (P : ℕ → Type 0) (r : ℕ) : Type 0 where
  pub holds : P r
  pub fails : near_from ≤ r → (t : ℕ) → t + 2 ≤ r → ¬ P t

-- the need of an accepted endplate is the least whole number that satisfies its inequality
abbrev pub EndplateThicknessExact : EndplateSheet → ℕ → Type 0
EndplateThicknessExact s thickness =
    let F = endplate_stress s.form s.material s.shell s.temperature in
    Least (EndplateHolds s.form F s.pressure s.diameter) thickness

-- an answer that has an endplate's figures, with such a need
abbrev pub EndplateSized : EndplateSheet → Answer → Type 0
EndplateSized s (Endplate f plate) = EndplateThicknessExact s f.thickness
EndplateSized s (BlindFlange f plate) = ⊥
EndplateSized s (Refused cause figure) = ⊥

abbrev pub EndplateExact : EndplateSheet → Answer → Type 0
EndplateExact s answer = Accepted answer → EndplateSized s answer

-- the exact W of a sheet: V
abbrev pub exact_flange_load_of : BlindFlangeSheet → ℕ
exact_flange_load_of s =
    let A = bolt_area s.root s.count in
    exact_flange_load (exact_operating_load_of s) (exact_seating_load_of s) A s.sa s.sb

-- the need of an accepted blind flange is near its inequality
abbrev pub ThicknessExact : BlindFlangeSheet → ℕ → Type 0
ThicknessExact s thickness =
    let S = design_stress_of s.material s.temperature in
    let G = reaction_diameter_of s.od s.width in
    Near (ThicknessHolds S G s.pressure s.circle (exact_operating_load_of s)) thickness

-- its edge is near its two: it fails where it misses at least one
abbrev pub EdgeExact : BlindFlangeSheet → ℕ → Type 0
EdgeExact s edge =
    let S = design_stress_of s.material s.temperature in
    let S0 = design_stress_of s.material ambient in
    let G = reaction_diameter_of s.od s.width in
    let C = s.circle in
    Near
    (λ t. AmbientEdgeHolds s.sb S0 G C (exact_flange_load_of s) t × OperatingEdgeHolds S G C (exact_operating_load_of s) t)
    edge

-- an answer that has a blind flange's figures, with such a need and edge
abbrev pub BlindFlangeSized : BlindFlangeSheet → Answer → Type 0
BlindFlangeSized s (Endplate f plate) = ⊥
BlindFlangeSized s (BlindFlange f plate) = ThicknessExact s f.thickness × EdgeExact s f.edge_thickness
BlindFlangeSized s (Refused cause figure) = ⊥

abbrev pub BlindFlangeExact : BlindFlangeSheet → Answer → Type 0
BlindFlangeExact s answer = Accepted answer → BlindFlangeSized s answer
