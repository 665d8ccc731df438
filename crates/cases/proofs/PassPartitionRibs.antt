-- Pass partition ribs (R-4): without a rib every answer to numbers is the former one, loads being in tenths of a newton in
-- both. Assumes nothing.
use Rattle.std.proofs.Common.{◌≡◌, ℕ, ◌+◌, ◌*◌, List, [], ◌∷◌, map, refl, ap, ◌∙◌, arith}
use Rattle.tables.specs.DesignStress.{column, design_stress_of}
use Rattle.root.specs.Root.{ceil_div, whole_root_by, least_root, least_root_over}
use Rattle.plates.specs.declared.Plate.{Plate}
use Rattle.plates.specs.Plates.{smallest_serving, toleranced}
use Rattle.limits.specs.Causes.{Causes, first_of, first_cause}
use Rattle.limits.specs.Limits.{endplate_causes, flange_limits}
use Rattle.limits.specs.Laws.{number_idle}
use Rattle.limits.specs.declared.EndplateSheet.{EndplateSheet}
use Rattle.limits.specs.declared.BlindFlangeSheet.{BlindFlangeSheet}
use Rattle.rules.specs.Gasket.{wide_width, effective_width_of, reaction_diameter_of}
use Rattle.rules.specs.Loads.{exact_operating_load, exact_seating_load, exact_operating_load_of, exact_seating_load_of}
use Rattle.rules.specs.Loads.{operating_load_of, seating_load_of, flange_load_of, gasket_of}
use Rattle.rules.specs.Bolts.{bolt_area, bolts_sufficient}
use Rattle.rules.specs.BlindFlange.{flange_thickness, edge_under, edge_thickness_of}
use Rattle.rules.specs.Figures.{ambient, endplate_figures, blind_flange_figures}
use Rattle.rules.specs.FlangeCauses.{bolts_causes, blind_flange_causes}
use Rattle.rules.specs.Answer.{from_plates, report_of, endplate_unless, endplate_sizing, endplate_answer}
use Rattle.rules.specs.Answer.{blind_flange_unless, blind_flange_sizing, blind_flange_answer}
use Rattle.rules.specs.declared.BlindFlangeFigures.{BlindFlangeFigures}
use Rattle.rules.specs.Answer.{Answer}
use Rattle.rules.specs.Answer.{Refused}
use Rattle.capi.specs.Call.{blind_flange_call}
use Rattle.cases.proofs.OtherLoads.{figures_with, causes_with}

-- ---- the former definitions: no rib in the loads, no 17 in checking order

-- V1 and V2, of the ring alone
abbrev former_operating_load : BlindFlangeSheet → ℕ
former_operating_load s =
    let G = reaction_diameter_of s.od s.width in
    78500 * (G * G) * s.pressure + 628 * effective_width_of s.width * G * s.m * s.pressure

abbrev former_seating_load : BlindFlangeSheet → ℕ
former_seating_load s = 314 * effective_width_of s.width * reaction_diameter_of s.od s.width * s.y

abbrev former_figures : BlindFlangeSheet → BlindFlangeFigures
former_figures s =
    let S = design_stress_of s.material s.temperature in
    let S0 = design_stress_of s.material ambient in
    let G = reaction_diameter_of s.od s.width in
    let Wm1 = operating_load_of (former_operating_load s) in
    let Wm2 = seating_load_of (former_seating_load s) in
    let W = flange_load_of Wm1 Wm2 (bolt_area s.root s.count) s.sa s.sb in
    let e = flange_thickness S G s.pressure s.circle Wm1 in
    figures_with s Wm1 Wm2 W e (edge_thickness_of S S0 G s.circle Wm1 W)

abbrev former_order : List ℕ
former_order = 2 ∷ 3 ∷ 4 ∷ 5 ∷ 6 ∷ 7 ∷ 8 ∷ 9 ∷ 10 ∷ 11 ∷ 12 ∷ 13 ∷ 14 ∷ []

-- the causes with 13 by these exact loads. Row 17 is among them, and the former order passes it over
abbrev causes_under : ℕ → ℕ → BlindFlangeSheet → Causes
causes_under V1 V2 s =
    let A = bolt_area s.root s.count in
    causes_with s (bolts_sufficient (operating_load_of V1) (seating_load_of V2) A s.sa s.sb)

abbrev former_cause : BlindFlangeSheet → ℕ
former_cause s = first_of former_order (causes_under (former_operating_load s) (former_seating_load s) s)

abbrev pub former_answer : BlindFlangeSheet → List Plate → Answer
former_answer s plates = from_plates (blind_flange_unless (former_cause s) (former_figures s)) plates

abbrev pub former_endplate_answer : EndplateSheet → List Plate → Answer
former_endplate_answer s plates =
    from_plates (endplate_unless (first_of former_order (endplate_causes s)) (endplate_figures s)) plates

-- ---- without a rib

unfoldable pub ribbed : ℕ → ℕ → BlindFlangeSheet → BlindFlangeSheet
ribbed rib width s = record {
  material = s.material;
  temperature = s.temperature;
  pressure = s.pressure;
  allowance = s.allowance;
  od = s.od;
  width = s.width;
  rib = rib;
  rib_width = width;
  m = s.m;
  y = s.y;
  circle = s.circle;
  bolt = s.bolt;
  root = s.root;
  count = s.count;
  sa = s.sa;
  sb = s.sb;
}

-- the former answer looks at neither of its numbers
pub looks_at_neither : (s : BlindFlangeSheet) (rib width : ℕ) (plates : List Plate) →
    former_answer (ribbed rib width s) plates ≡ former_answer s plates
unfolding ribbed first_of flange_limits
looks_at_neither s rib width plates = refl

-- 17 changes no order in which it does not apply
abbrev up_to_width : List ℕ
up_to_width = 2 ∷ 3 ∷ 4 ∷ 5 ∷ 6 ∷ 7 ∷ 8 ∷ []

abbrev from_gasket : List ℕ
from_gasket = 9 ∷ 10 ∷ 11 ∷ 12 ∷ 13 ∷ 14 ∷ []

module _ (s : BlindFlangeSheet) where
  abbrev none : BlindFlangeSheet
  none = ribbed 0 0 s

  operating : exact_operating_load_of none ≡ former_operating_load s
  unfolding exact_operating_load ribbed
  operating = omega arith

  seating : exact_seating_load_of none ≡ former_seating_load s
  unfolding exact_seating_load ribbed
  seating = omega arith

  figures_kept : blind_flange_figures none ≡ former_figures s
  unfolding blind_flange_figures gasket_of ribbed
  figures_kept = rw (operating, seating)

  cause_kept : first_cause (blind_flange_causes none) ≡ former_cause s
  unfolding first_of blind_flange_causes flange_limits bolts_causes gasket_of ribbed
  cause_kept =
      number_idle 17 up_to_width from_gasket (blind_flange_causes none) refl
      ∙ ap (λ (V1 : ℕ). first_of former_order (causes_under V1 (exact_seating_load_of none) none)) operating
      ∙ ap (λ (V2 : ℕ). first_of former_order (causes_under (former_operating_load s) V2 none)) seating

  -- every figure and every cause
  pub no_rib : (plates : List Plate) → blind_flange_answer none plates ≡ former_answer s plates
  unfolding blind_flange_answer blind_flange_sizing
  no_rib plates = rw (cause_kept, figures_kept)

-- an endplate has no 17
pub endplate_kept : (s : EndplateSheet) (plates : List Plate) → endplate_answer s plates ≡ former_endplate_answer s plates
unfolding endplate_answer endplate_sizing first_of endplate_causes
endplate_kept s plates = refl

-- ---- with a rib: the printed flange of document 01 with one of 490 mm by 10 mm

printed : BlindFlangeSheet
printed = blind_flange_call 1 150 1000 100 5000 100 0 0 200 110 5600 20 2250 16 100 100

abbrev with_rib : ℕ → ℕ → Answer
with_rib rib width = blind_flange_answer (ribbed rib width printed) (map (toleranced 0) (2500 ∷ 3200 ∷ 4000 ∷ []))

-- its b is 5 mm: Wm1 grows by 2·5·490·2·1 = 9800.0 N from 219250.5 N, Wm2 by 5·490·11 = 26950.0 N from
-- 84623.0 N
rib_loads_bolts :
    report_of (with_rib 4900 100)
    ≡ 108 ∷ 108 ∷ 4900 ∷ 500 ∷ 2290505 ∷ 1115730 ∷ 2945253 ∷ 3093 ∷ 1929 ∷ 3193 ∷ 3200 ∷ []
unfolding printed ribbed column design_stress_of ceil_div whole_root_by least_root least_root_over wide_width effective_width_of
    reaction_diameter_of exact_operating_load exact_seating_load operating_load_of seating_load_of flange_load_of gasket_of bolts_sufficient
    flange_thickness edge_under blind_flange_figures first_of flange_limits bolts_causes blind_flange_causes blind_flange_sizing
    smallest_serving blind_flange_answer
rib_loads_bolts = refl

-- 17 refuses each of its cases, and at both limits does not apply: there these bolts do not carry
rib_refused_lem :
    (with_rib 4900 0 ≡ Refused 17 0)
    × (with_rib 0 100 ≡ Refused 17 0)
    × (with_rib 40001 100 ≡ Refused 17 0)
    × (with_rib 4900 501 ≡ Refused 17 0)
    × (with_rib 40000 500 ≡ Refused 13 0)
unfolding printed ribbed column design_stress_of ceil_div whole_root_by least_root least_root_over wide_width effective_width_of
    reaction_diameter_of exact_operating_load exact_seating_load operating_load_of seating_load_of gasket_of bolts_sufficient first_of
    flange_limits bolts_causes blind_flange_causes blind_flange_sizing smallest_serving blind_flange_answer
rib_refused_lem = (refl, refl, refl, refl, refl)
