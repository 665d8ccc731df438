-- The former reading of a blind flange's loads, in whole newtons (R-7): beside it no figure rises, and bolts that carried
-- carry. Assumes nothing.
use Rattle.std.proofs.Common.{◌≡◌, ℕ, zero, suc, ◌+◌, ◌-◌, ◌*◌, ◌^◌, ◌<◌, ◌≤◌, max, Bool, true, ◌&&◌, leb, List, refl, mul-le-mul_right, arith, le-leb, leb-true}
use mathlib.Core.Bool.{and-eq-true_iff}
use Rattle.tables.specs.DesignStress.{design_stress_of}
use Rattle.plates.specs.declared.Plate.{Plate}
use Rattle.root.specs.Least.{least_most}
use Rattle.root.specs.Root.{ceil_div, least_root_over}
use Rattle.root.proofs.Laws.{ceil_div-zero, ceil_div-le, ceil_div_least, ceil_div_excess, ceil_div_unique}
use Rattle.root.proofs.Laws.{least_root_over-zero, least_root_over_least}
use Rattle.limits.specs.Causes.{first_cause}
use Rattle.limits.specs.declared.BlindFlangeSheet.{BlindFlangeSheet}
use Rattle.rules.specs.Gasket.{reaction_diameter_of}
use Rattle.rules.specs.Loads.{exact_operating_load_of, exact_seating_load_of, operating_load_of, seating_load_of, flange_load_of, gasket_of}
use Rattle.rules.specs.Bolts.{bolt_area, bolts_sufficient}
use Rattle.rules.specs.BlindFlange.{flange_thickness, edge_under}
use Rattle.rules.specs.Figures.{ambient, blind_flange_figures}
use Rattle.rules.specs.Answer.{from_plates, blind_flange_unless}
use Rattle.rules.specs.declared.BlindFlangeFigures.{BlindFlangeFigures}
use Rattle.rules.specs.Answer.{Answer}
use Rattle.cases.proofs.OtherLoads.{figures_with, causes_with}

-- ---- the former definitions: loads in N

abbrev area : BlindFlangeSheet → ℕ
area s = bolt_area s.root s.count

-- Wm1: the least with 10¹⁰·Wm1 ≥ V1
abbrev pub former_operating_load : BlindFlangeSheet → ℕ
former_operating_load s = ceil_div (exact_operating_load_of s) (10 ^ 10)

-- Wm2: the least with 10⁶·Wm2 ≥ V2
abbrev pub former_seating_load : BlindFlangeSheet → ℕ
former_seating_load s = ceil_div (exact_seating_load_of s) (10 ^ 6)

-- W: the least with 20·sb·W ≥ the greater of 10·Wm1·sa and 10·Wm2·sb, plus A·sa·sb
abbrev pub former_flange_load : BlindFlangeSheet → ℕ
former_flange_load s =
    let operating = 10 * former_operating_load s * s.sa in
    let seating = 10 * former_seating_load s * s.sb in
    ceil_div (max operating seating + area s * s.sa * s.sb) (20 * s.sb)

-- the bolts carry: A·sb ≥ 10·Wm1 and A·sa ≥ 10·Wm2
abbrev pub former_sufficient : BlindFlangeSheet → Bool
former_sufficient s =
    leb (10 * former_operating_load s) (area s * s.sb) && leb (10 * former_seating_load s) (area s * s.sa)

-- 954500·W·(C − G), for a load
abbrev former_moment : BlindFlangeSheet → ℕ → ℕ
former_moment s W = 954500 * W * (s.circle - reaction_diameter_of s.od s.width)

-- e: the least with 100·S·G·e² ≥ 3·G³·P + 954500·Wm1·(C − G)
abbrev pub former_thickness : BlindFlangeSheet → ℕ
former_thickness s =
    let S = design_stress_of s.material s.temperature in
    let G = reaction_diameter_of s.od s.width in
    least_root_over (3 * (G * G * G) * s.pressure + former_moment s (former_operating_load s)) (100 * S * G)

-- edge: the greater of the two with 954500·W·(C − G) under S0 and 954500·Wm1·(C − G) under S
abbrev pub former_edge : BlindFlangeSheet → ℕ
former_edge s =
    let S = design_stress_of s.material s.temperature in
    let S0 = design_stress_of s.material ambient in
    let G = reaction_diameter_of s.od s.width in
    max
    (least_root_over (former_moment s (former_flange_load s)) (100 * S0 * G))
    (least_root_over (former_moment s (former_operating_load s)) (100 * S * G))

abbrev pub former_figures : BlindFlangeSheet → BlindFlangeFigures
former_figures s =
    figures_with s (former_operating_load s) (former_seating_load s) (former_flange_load s) (former_thickness s) (former_edge s)

abbrev pub former_answer : BlindFlangeSheet → List Plate → Answer
former_answer s plates =
    from_plates (blind_flange_unless (first_cause (causes_with s (former_sufficient s))) (former_figures s)) plates

-- ---- what is rounded up finer is not above

-- to steps of d and then of ten, or at once to steps of ten times d
rounded_twice : (n d : ℕ) → 0 < d → ceil_div n (10 * d) ≡ ceil_div (ceil_div n d) 10
rounded_twice n d h =
    let p = ceil_div_least n (10 * d) (omega arith) in
    ceil_div_unique (ceil_div n d) 10 (ceil_div n (10 * d)) (omega arith) record {
      holds = (ceil_div-le n d (10 * ceil_div n (10 * d)) h).1 (omega (arith, p.holds));
      fails = λ q l c. p.fails q l (omega (arith, (ceil_div-le n d (10 * q) h).0 c));
    }

-- a smaller number in steps of d, or a larger in steps of ten times d
finer : (n m d : ℕ) → n ≤ m → ceil_div n d ≤ 10 * ceil_div m (10 * d)
finer n m zero h = rw (ceil_div-zero n) (omega arith)
finer n m (suc d) h =
    let p = ceil_div_least m (10 * suc d) (omega arith) in
    (ceil_div-le n (suc d) (10 * ceil_div m (10 * suc d)) (omega arith)).1 (omega (arith, p.holds))

-- a smaller number has no greater root
root_rises : (n m a : ℕ) → n ≤ m → least_root_over n a ≤ least_root_over m a
root_rises n m zero h = rw (least_root_over-zero n) (omega arith)
root_rises n m (suc a) h =
    let p = least_root_over_least m (suc a) (omega arith) in
    least_most _ (least_root_over_least n (suc a) (omega arith)) (omega (arith, p.holds))

module _ (s : BlindFlangeSheet) where
  abbrev Wm1 : ℕ
  Wm1 = operating_load_of (exact_operating_load_of s)

  abbrev Wm2 : ℕ
  Wm2 = seating_load_of (exact_seating_load_of s)

  abbrev W : ℕ
  W = flange_load_of Wm1 Wm2 (area s) s.sa s.sb

  -- the former Wm1 and Wm2 are the present ones rounded up to the newton
  operating_newtons : former_operating_load s ≡ ceil_div Wm1 10
  unfolding operating_load_of
  operating_newtons = rounded_twice (exact_operating_load_of s) (10 ^ 9) (omega arith)

  seating_newtons : former_seating_load s ≡ ceil_div Wm2 10
  unfolding seating_load_of
  seating_newtons = rounded_twice (exact_seating_load_of s) (10 ^ 5) (omega arith)

  operating_falls : Wm1 ≤ 10 * former_operating_load s
  operating_falls = rw operating_newtons (ceil_div_least Wm1 10 (omega arith)).holds

  seating_falls : Wm2 ≤ 10 * former_seating_load s
  seating_falls = rw seating_newtons (ceil_div_least Wm2 10 (omega arith)).holds

  flange_falls : W ≤ 10 * former_flange_load s
  unfolding flange_load_of
  flange_falls =
      let former = max (10 * former_operating_load s * s.sa) (10 * former_seating_load s * s.sb) + area s * s.sa * s.sb in
      let steps : 20 * s.sb ≡ 10 * (2 * s.sb) = omega arith in
      rw steps
      (finer (max (Wm1 * s.sa) (Wm2 * s.sb) + area s * s.sa * s.sb) former (2 * s.sb)
      (omega (arith, mul-le-mul_right s.sa operating_falls, mul-le-mul_right s.sb seating_falls)))

  abbrev S : ℕ
  S = design_stress_of s.material s.temperature

  abbrev S0 : ℕ
  S0 = design_stress_of s.material ambient

  abbrev G : ℕ
  G = reaction_diameter_of s.od s.width

  need_falls : flange_thickness S G s.pressure s.circle Wm1 ≤ former_thickness s
  unfolding flange_thickness
  need_falls = root_rises _ _ _ (omega (arith, mul-le-mul_right (s.circle - G) operating_falls))

  -- one edge
  edge_falls :
      (stress load former : ℕ) →
      load ≤ 10 * former →
      edge_under stress G s.circle load ≤ least_root_over (former_moment s former) (100 * stress * G)
  unfolding edge_under
  edge_falls stress load former h = root_rises _ _ _ (omega (arith, mul-le-mul_right (s.circle - G) h))

-- ---- figure by figure

-- what the loads have no part in is the same; the others, loads in tenths beside newtons, are not above the former ones
pub record Falls (now former : BlindFlangeFigures) : Type 0 where
  pub stress : now.design_stress ≡ former.design_stress
  pub cold : now.ambient_stress ≡ former.ambient_stress
  pub g : now.reaction_diameter ≡ former.reaction_diameter
  pub b : now.effective_width ≡ former.effective_width
  pub wm1 : now.operating_load ≤ 10 * former.operating_load
  pub wm2 : now.seating_load ≤ 10 * former.seating_load
  pub w : now.flange_load ≤ 10 * former.flange_load
  pub need : now.thickness ≤ former.thickness
  pub edge : now.edge_thickness ≤ former.edge_thickness
  pub total : now.total ≤ former.total

pub figures_fall : (s : BlindFlangeSheet) → Falls (blind_flange_figures s) (former_figures s)
unfolding blind_flange_figures gasket_of
figures_fall s =
    let need = need_falls s in
    let ambient-edge = edge_falls s (S0 s) (W s) (former_flange_load s) (flange_falls s) in
    let operating-edge = edge_falls s (S s) (Wm1 s) (former_operating_load s) (operating_falls s) in
    record {
      stress = refl;
      cold = refl;
      g = refl;
      b = refl;
      wm1 = operating_falls s;
      wm2 = seating_falls s;
      w = flange_falls s;
      need = need;
      edge = omega arith;
      total = omega arith;
    }

-- ---- the bolts

-- each former shortfall was under 1 N
abbrev pub UnderANewton : BlindFlangeSheet → Type 0
UnderANewton s =
    (10 * former_operating_load s < area s * s.sb + 10) × (10 * former_seating_load s < area s * s.sa + 10)

module _ (s : BlindFlangeSheet) where
  abbrev pub sufficient : Bool
  sufficient = bolts_sufficient (Wm1 s) (Wm2 s) (area s) s.sa s.sb

  -- bolts that carried the newtons carry the tenths
  pub still_sufficient : former_sufficient s ≡ true → sufficient ≡ true
  unfolding bolts_sufficient
  still_sufficient e =
      let p = (and-eq-true_iff (leb (10 * former_operating_load s) (area s * s.sb)) _).0 e in
      let operating = leb-true (10 * former_operating_load s) (area s * s.sb) p.0 in
      let seating = leb-true (10 * former_seating_load s) (area s * s.sa) p.1 in
      rw (
        le-leb (Wm1 s) (area s * s.sb) (omega (arith, operating_falls s)),
        le-leb (Wm2 s) (area s * s.sa) (omega (arith, seating_falls s)),
      )

  -- bolts that carry the tenths were short by less than a newton, if at all
  pub under_a_newton : sufficient ≡ true → UnderANewton s
  unfolding bolts_sufficient
  under_a_newton e =
      let p = (and-eq-true_iff (leb (Wm1 s) (area s * s.sb)) _).0 e in
      let operating = leb-true (Wm1 s) (area s * s.sb) p.0 in
      let seating = leb-true (Wm2 s) (area s * s.sa) p.1 in
      rw (operating_newtons s, seating_newtons s)
      (omega (arith, ceil_div_excess (Wm1 s) 10 (omega arith)), omega (arith, ceil_div_excess (Wm2 s) 10 (omega arith)))
