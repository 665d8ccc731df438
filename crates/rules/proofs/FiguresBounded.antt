-- Bounds of the figures: what makes the products fit within the limits. Assumes nothing.
use mathlib.Core.Path.{◌≡◌, refl}
use mathlib.Core.Logic.{◌≢◌}
use mathlib.Core.Bool.{Bool, true, false, cond}
use Prim.Native.Nat.{ℕ, ◌+◌, ◌-◌, ◌*◌, ◌/◌, ◌^◌, min, ◌≤◌}
use native.Mathlib.Nat.{mul-le-mul, mul-le-mul_left}
use native.Mathlib.Omega.{arith}
use borrow.Author.Tests.{leb-true}
use lib.Dec.{eqb}
use Rattle.tables.specs.DesignStress.{design_stress_of}
use Rattle.tables.proofs.Laws.DesignStress.{stress_most}
use Rattle.root.specs.Least.{least_most}
use Rattle.limits.specs.Stress.{form_a, endplate_stress}
use Rattle.rules.specs.Bounds.{most_pressure, most_stress, most_diameter, most_width, most_effective_width, most_rib}
use Rattle.rules.specs.Bounds.{most_factor, most_bolt_stress, most_gasket_load, most_thickness}
use Rattle.rules.specs.Endplate.{endplate_thickness, endplate_factor}
use Rattle.rules.proofs.EndplateLeast.{endplate_thickness_least}
use Rattle.rules.specs.BlindFlange.{moment, flange_loading, flange_thickness, edge_under, flange_factor}
use Rattle.rules.specs.BlindFlange.{flange_thickness_least, edge_under_least}
use Rattle.rules.specs.Gasket.{narrow, wide_width, wide_width_least, effective_width_of, reaction_diameter_of}
use Rattle.rules.specs.Loads.{exact_operating_load, exact_seating_load, operating_load_of, seating_load_of, flange_load_of}
use Rattle.rules.specs.Loads.{operating_load_of_least, seating_load_of_least, flange_load_of_least}
use Rattle.rules.proofs.ProductsFit.{gasket_products}

-- ---- the gasket

pub wide_width_most : (n k : ℕ) → 31752 * n ≤ 1000 * (k * k) → wide_width n ≤ k
wide_width_most n k h = least_most k (wide_width_least n) h

pub effective_width_of_most : (n : ℕ) → n ≤ most_width → effective_width_of n ≤ most_effective_width
unfolding effective_width_of
effective_width_of_most n h = by_width (narrow n) refl
  where
    by_width : (b : Bool) → narrow n ≡ b → cond b (5 * n) (10 * wide_width n) ≤ most_effective_width
    by_width true e = omega (arith, leb-true)
    by_width false e = omega (arith, wide_width_most n 181 (omega arith))

-- G lies 2·b inside od
pub inset : (od n : ℕ) → reaction_diameter_of od n ≡ od - effective_width_of n / 5
unfolding reaction_diameter_of effective_width_of
inset od n = by_width (narrow n)
  where
    by_width : (b : Bool) → od - cond b n (2 * wide_width n) ≡ od - cond b (5 * n) (10 * wide_width n) / 5
    by_width true = omega arith
    by_width false = omega arith

-- ---- the loads

pub operating_load_of_most :
    {G b rib br m P : ℕ} →
    G ≤ most_diameter →
    b ≤ most_effective_width →
    rib ≤ most_rib →
    br ≤ most_effective_width →
    m ≤ most_factor →
    P ≤ most_pressure →
    operating_load_of (exact_operating_load G b rib br m P) ≤ most_gasket_load
operating_load_of_most {G} {b} {rib} {br} {m} {P} hG hb hrib hbr hm hP =
    least_most most_gasket_load (operating_load_of_least G b rib br m P)
    (omega (arith, gasket_products hG hb hrib hbr hm hP))

pub seating_load_of_most :
    {G b rib br y : ℕ} →
    G ≤ most_diameter →
    b ≤ most_effective_width →
    rib ≤ most_rib →
    br ≤ most_effective_width →
    y ≤ most_factor →
    seating_load_of (exact_seating_load G b rib br y) ≤ most_gasket_load
seating_load_of_most {G} {b} {rib} {br} {y} hG hb hrib hbr hy =
    least_most most_gasket_load (seating_load_of_least G b rib br y)
    (omega (arith, gasket_products hG hb hrib hbr hy hy))

-- sa ≤ 4·sb bounds W by the other loads and the area
pub flange_load_of_most :
    (Wm1 Wm2 A sa sb : ℕ) →
    sa ≤ most_bolt_stress →
    1 ≤ sb →
    sa ≤ 4 * sb →
    flange_load_of Wm1 Wm2 A sa sb ≤ 2 * Wm1 + Wm2 + 256 * A
flange_load_of_most Wm1 Wm2 A sa sb ha hb ratio =
    least_most (2 * Wm1 + Wm2 + 256 * A) (flange_load_of_least Wm1 Wm2 A sa sb hb)
    (omega (arith, mul-le-mul_left Wm1 ratio, mul-le-mul_left (A * sb) ha))

-- ---- the stress of an endplate

pub endplate_stress_most : (form m shell t : ℕ) → endplate_stress form m shell t ≤ most_stress
unfolding endplate_stress
endplate_stress_most form m shell t = by_form (eqb form form_a)
  where
    by_form : (b : Bool) → cond b (design_stress_of m t) (min (design_stress_of m t) (design_stress_of shell t)) ≤ most_stress
    by_form true = stress_most m t
    by_form false = omega (arith, stress_most m t)

-- ---- the thicknesses: at most 2³², since the right sides are at most 2⁶⁴

pub endplate_thickness_most :
    (form : ℕ) {F P d : ℕ} → F ≢ 0 → P ≤ most_pressure → d ≤ most_diameter → endplate_thickness form F P d ≤ most_thickness
endplate_thickness_most form {F} {P} {d} hF hP hd =
    least_most most_thickness (endplate_thickness_least form F P d hF)
    (omega (arith, mul-le-mul hP (mul-le-mul hd hd), endplate_factor form F hF))

module _ (S G C : ℕ) (hS : 1 ≤ S) (hG : 1 ≤ G) where
  pub flange_thickness_most : (P Wm1 : ℕ) → flange_loading G P C Wm1 ≤ 2 ^ 64 → flange_thickness S G P C Wm1 ≤ most_thickness
  flange_thickness_most P Wm1 h =
      least_most most_thickness (flange_thickness_least S G P C Wm1 hS hG) (omega (arith, flange_factor S G hS hG))

  pub edge_under_most : (W : ℕ) → moment W C G ≤ 2 ^ 64 → edge_under S G C W ≤ most_thickness
  edge_under_most W h = least_most most_thickness (edge_under_least S G C W hS hG) (omega (arith, flange_factor S G hS hG))
