-- Demand 3, as theorems of the definitions: what is within the limits satisfies the exact inequalities, and how nearly.
-- Assumes nothing.
use mathlib.Core.Path.{◌≡◌, refl}
use Prim.Native.Nat.{ℕ, ◌-◌, ◌*◌, ◌^◌, ◌≤◌}
use native.Mathlib.Nat.{mul-le-mul_left, mul-le-mul_right}
use native.Mathlib.Omega.{arith}
use Rattle.tables.specs.DesignStress.{design_stress_of}
use Rattle.root.specs.Least.{Least}
use Rattle.root.proofs.Laws.{square_le}
use Rattle.limits.specs.Stress.{endplate_stress}
use Rattle.limits.specs.Causes.{first_cause}
use Rattle.limits.specs.Limits.{endplate_causes}
use Rattle.limits.specs.declared.EndplateSheet.{EndplateSheet}
use Rattle.limits.specs.declared.BlindFlangeSheet.{BlindFlangeSheet}
use Rattle.rules.proofs.EndplateLeast.{endplate_thickness_least}
use Rattle.rules.specs.Gasket.{reaction_diameter_of}
use Rattle.rules.specs.Loads.{operating_load_of, seating_load_of, flange_load_of, exact_operating_load_of, exact_seating_load_of}
use Rattle.rules.specs.Loads.{gasket_of}
use Rattle.rules.specs.Bolts.{bolt_area}
use Rattle.rules.specs.BlindFlange.{edge_under, flange_thickness_least, edge_under_least}
use Rattle.rules.specs.Figures.{ambient, endplate_figures, blind_flange_figures}
use Rattle.rules.specs.FlangeCauses.{blind_flange_causes}
use Rattle.rules.specs.Exact.{EndplateHolds, AmbientEdgeHolds, OperatingEdgeHolds, Near, ThicknessExact}
use Rattle.rules.specs.Exact.{EdgeExact, exact_flange_load_of}
use Rattle.rules.proofs.WithinLimits.{FlangeWithin, BoltingWithin, endplate_within, both_within}
use Rattle.rules.proofs.FlangeBounded.{Stresses, stresses, Circle, circle}
use Rattle.rules.proofs.RoundedLoads.{operating_low, operating_high, flange_low, flange_high}
use Rattle.rules.proofs.Accuracy.{least_step, loaded, near_map, near_both}

-- ---- endplates

pub endplate_least :
    (s : EndplateSheet) →
    first_cause (endplate_causes s) ≡ 0 →
    let F = endplate_stress s.form s.material s.shell s.temperature in
    Least (EndplateHolds s.form F s.pressure s.diameter) (endplate_figures s).thickness
unfolding endplate_figures
endplate_least s e = endplate_thickness_least s.form _ s.pressure s.diameter (endplate_within s e).stressed

-- ---- blind flanges: an instance of the argument for each thickness

-- the larger a thickness, the more it satisfies
rises : (x f t u : ℕ) → t ≤ u → x ≤ f * (t * t) → x ≤ f * (u * u)
rises x f t u l h = omega (arith, mul-le-mul_left f (square_le l))

module _ (s : BlindFlangeSheet) (none : first_cause (blind_flange_causes s) ≡ 0) where
  f : FlangeWithin s
  f = (both_within s none).0

  a : BoltingWithin s
  a = (both_within s none).1

  abbrev S : ℕ
  S = design_stress_of s.material s.temperature

  abbrev S0 : ℕ
  S0 = design_stress_of s.material ambient

  abbrev G : ℕ
  G = reaction_diameter_of s.od s.width

  abbrev lever : ℕ
  lever = s.circle - G

  stress : Stresses s f S S0
  stress = stresses s f refl refl

  diameter : Circle s f a G
  unfolding gasket_of
  diameter = circle s f a {gasket = gasket_of s} refl

  -- Wm1 is at most a tenth of a newton too much
  slack_operating : 95450 * 10 ^ 9 * lever ≤ 10 ^ 9 * (100 * S * G) * least_step
  slack_operating = omega (arith, mul-le-mul_right G stress.least, a.circle_most)

  -- W is at most three tenths too much
  slack_ambient : 95450 * (6 * 10 ^ 10 * s.sb) * lever ≤ 2 * 10 ^ 10 * s.sb * (100 * S0 * G) * least_step
  slack_ambient =
      omega (
        arith,
        mul-le-mul_left s.sb (mul-le-mul_right G stress.ambient_least),
        mul-le-mul_left {m = 2 * lever} {n = G} s.sb (omega (arith, a.circle_most)),
      )

  abbrev V1 : ℕ
  V1 = exact_operating_load_of s

  abbrev Wm1 : ℕ
  Wm1 = operating_load_of V1

  pub thickness_near : ThicknessExact s (blind_flange_figures s).thickness
  unfolding blind_flange_figures gasket_of
  thickness_near =
      near_map (λ t. omega arith)
      (loaded (10 ^ 9) (100 * S * G) (3 * (G * G * G) * s.pressure) Wm1 V1 (10 ^ 9) lever _ _
      (omega arith) (operating_low V1) (operating_high V1) refl
      (flange_thickness_least S G s.pressure s.circle Wm1 (omega (arith, stress.least)) diameter.least)
      slack_operating)

  edge_operating : Near (OperatingEdgeHolds S G s.circle V1) (edge_under S G s.circle Wm1)
  edge_operating =
      near_map (λ t. omega arith)
      (loaded (10 ^ 9) (100 * S * G) 0 Wm1 V1 (10 ^ 9) lever _ _
      (omega arith) (operating_low V1) (operating_high V1) (omega arith)
      (edge_under_least S G s.circle Wm1 (omega (arith, stress.least)) diameter.least)
      slack_operating)

  abbrev A : ℕ
  A = bolt_area s.root s.count

  abbrev W : ℕ
  W = flange_load_of Wm1 (seating_load_of (exact_seating_load_of s)) A s.sa s.sb

  edge_ambient : Near (AmbientEdgeHolds s.sb S0 G s.circle (exact_flange_load_of s)) (edge_under S0 G s.circle W)
  edge_ambient =
      near_map (λ t. omega arith)
      (loaded (2 * 10 ^ 10 * s.sb) (100 * S0 * G) 0 W (exact_flange_load_of s) (6 * 10 ^ 10 * s.sb) lever _ _
      (omega (arith, a.sb_least))
      (flange_low V1 (exact_seating_load_of s) A s.sa s.sb a.sb_least a.ratio)
      (flange_high V1 (exact_seating_load_of s) A s.sa s.sb a.sb_least a.ratio)
      (omega arith)
      (edge_under_least S0 G s.circle W (omega (arith, stress.ambient_least)) diameter.least)
      slack_ambient)

  pub edge_near : EdgeExact s (blind_flange_figures s).edge_thickness
  unfolding blind_flange_figures gasket_of
  edge_near = near_both (rises _ _) (rises _ _) edge_ambient edge_operating
