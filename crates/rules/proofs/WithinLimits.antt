-- What the numbers of a sheet keep to where none of the causes 2 to 12 and 17 applies. The bounds are wider than the limits,
-- which stand in the crate limits alone. Assumes nothing.
use mathlib.Core.Path.{◌≡◌}
use mathlib.Core.Logic.{◌≢◌}
use mathlib.Core.List.{◌++◌}
use Prim.Native.Nat.{ℕ, ◌*◌, ◌/◌, ◌≤◌}
use native.Mathlib.Nat.{mul-le-mul}
use native.Mathlib.Omega.{arith}
use borrow.Author.Tests.{ltb-false, eqb-false}
use Rattle.tables.specs.DesignStress.{design_stress_of}
use Rattle.limits.specs.Stress.{endplate_stress}
use Rattle.limits.specs.Causes.{first_of, first_cause, of_numbers, of_bolting, of_loads, of_plates}
use Rattle.limits.specs.Limits.{endplate_causes, flange_limits, bolting_limits}
use Rattle.limits.specs.declared.EndplateSheet.{EndplateSheet}
use Rattle.limits.specs.declared.BlindFlangeSheet.{BlindFlangeSheet}
use Rattle.limits.specs.Laws.{cause_fails, none_of_both}
use Rattle.rules.specs.Bounds.{most_pressure, most_diameter, most_allowance, most_effective_width, most_rib}
use Rattle.rules.specs.Bounds.{most_factor, most_bolts, most_area, most_bolt_stress}
use Rattle.rules.specs.Gasket.{effective_width_of, reaction_diameter_of}
use Rattle.rules.specs.Bolts.{bolt_area}
use Rattle.rules.specs.FlangeCauses.{bolts_causes, blind_flange_causes}
use Rattle.rules.specs.Loads.{gasket_of}
use Rattle.rules.proofs.FiguresBounded.{effective_width_of_most}

pub record EndplateWithin (s : EndplateSheet) : Type 0 where
  pub pressure : s.pressure ≤ most_pressure
  pub stressed : endplate_stress s.form s.material s.shell s.temperature ≢ 0
  pub diameter : s.diameter ≤ most_diameter
  pub allowance : s.allowance ≤ most_allowance

pub endplate_within : (s : EndplateSheet) → first_cause (endplate_causes s) ≡ 0 → EndplateWithin s
unfolding endplate_causes
endplate_within s e =
    let n = cause_fails (endplate_causes s) e in
    record {
      pressure = let h = n 3 tt 1 in omega (arith, ltb-false);
      stressed = eqb-false _ _ (n 5 tt 0);
      diameter = let h = n 6 tt 1 in omega (arith, ltb-false);
      allowance = let h = n 7 tt 0 in omega (arith, ltb-false);
    }

-- 2 to 9 and 17
pub record FlangeWithin (s : BlindFlangeSheet) : Type 0 where
  pub pressure : s.pressure ≤ most_pressure
  pub stressed : design_stress_of s.material s.temperature ≢ 0
  pub od : s.od ≤ most_diameter
  pub od_least : 1 ≤ s.od
  pub allowance : s.allowance ≤ most_allowance
  pub width : effective_width_of s.width ≤ most_effective_width
  pub rib : s.rib ≤ most_rib
  pub rib_width_most : effective_width_of s.rib_width ≤ most_effective_width
  pub m : s.m ≤ most_factor
  pub y : s.y ≤ most_factor

pub flange_within : (s : BlindFlangeSheet) → first_cause (flange_limits s) ≡ 0 → FlangeWithin s
unfolding flange_limits
flange_within s e =
    let n = cause_fails (flange_limits s) e in
    record {
      pressure = let h = n 3 tt 1 in omega (arith, ltb-false);
      stressed = eqb-false _ _ (n 5 tt 0);
      od = let h = n 6 tt 1 in omega (arith, ltb-false);
      od_least = let h = n 6 tt 0 in omega (arith, ltb-false);
      allowance = let h = n 7 tt 0 in omega (arith, ltb-false);
      width = omega (arith, effective_width_of_most s.width (let h = n 8 tt 1 in omega (arith, ltb-false)));
      rib = let h = n 17 tt 1 in omega (arith, ltb-false);
      rib_width_most = omega (arith, effective_width_of_most s.rib_width (let h = n 17 tt 2 in omega (arith, ltb-false)));
      m = let h = n 9 tt 0 in omega (arith, ltb-false);
      y = let h = n 9 tt 1 in omega (arith, ltb-false);
    }

-- 10 to 12
pub record BoltingWithin (s : BlindFlangeSheet) : Type 0 where
  pub bolt : s.bolt ≤ most_bolts
  pub count : s.count ≤ most_bolts
  pub area : bolt_area s.root s.count ≤ most_area
  pub sa : s.sa ≤ most_bolt_stress
  pub sb : s.sb ≤ most_bolt_stress
  pub sb_least : 1 ≤ s.sb
  pub ratio : s.sa ≤ 4 * s.sb
  pub circle_least : s.od ≤ s.circle
  pub circle_most : 2 * s.circle ≤ 3 * reaction_diameter_of s.od s.width

area_most :
    (bolt root count : ℕ) → bolt ≤ most_bolts → 100 * root ≤ 785 * (bolt * bolt) → count ≤ most_bolts → count * root ≤ most_area
area_most bolt root count hb hr hc =
    let root-most : root ≤ 785 * (most_bolts * most_bolts) / 100 = omega (arith, mul-le-mul hb hb) in
    omega (arith, mul-le-mul hc root-most)

pub bolting_within :
    (s : BlindFlangeSheet) → first_cause (bolting_limits s (reaction_diameter_of s.od s.width)) ≡ 0 → BoltingWithin s
unfolding bolting_limits
bolting_within s e =
    let n = cause_fails (bolting_limits s (reaction_diameter_of s.od s.width)) e in
    record {
      bolt = let h = n 10 tt 1 in omega (arith, ltb-false);
      count = let h = n 10 tt 5 in omega (arith, ltb-false);
      area =
          let bolt = n 10 tt 1 in
          let root = n 10 tt 3 in
          let count = n 10 tt 5 in
          area_most s.bolt s.root s.count
          (omega (arith, ltb-false)) (omega (arith, ltb-false)) (omega (arith, ltb-false));
      sa = let h = n 11 tt 1 in omega (arith, ltb-false);
      sb = let h = n 11 tt 3 in omega (arith, ltb-false);
      sb_least = omega (arith, eqb-false s.sb 0 (n 11 tt 2));
      ratio = let h = n 11 tt 4 in omega (arith, ltb-false);
      circle_least = let h = n 12 tt 0 in omega (arith, ltb-false);
      circle_most = let h = n 12 tt 1 in omega (arith, ltb-false);
    }

-- both, where no cause at all applies
pub both_within : (s : BlindFlangeSheet) → first_cause (blind_flange_causes s) ≡ 0 → FlangeWithin s × BoltingWithin s
unfolding first_of flange_limits bolting_limits bolts_causes blind_flange_causes gasket_of
both_within s e =
    let rest = of_loads ++ of_plates in
    let p = none_of_both of_numbers (of_bolting ++ rest) (blind_flange_causes s) tt e in
    (flange_within s p.0, bolting_within s (none_of_both of_bolting rest (blind_flange_causes s) tt p.1).0)
