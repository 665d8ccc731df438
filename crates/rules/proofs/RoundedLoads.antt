-- How far a load rounded up is above the exact one. Assumes nothing.
use Prim.Native.Nat.{ℕ, ◌+◌, ◌*◌, ◌^◌, max, ◌≤◌}
use native.Mathlib.Nat.{mul-le-mul_right}
use native.Mathlib.Omega.{arith}
use Rattle.root.proofs.Laws.{ceil_div_least, ceil_div_excess}
use Rattle.rules.specs.Loads.{exact_flange_load, operating_load_of, seating_load_of, flange_load_of, flange_load_of_least}

-- 10⁹·Wm1 is at least V1 and at most 10⁹ above it
pub operating_low : (V1 : ℕ) → V1 ≤ 10 ^ 9 * operating_load_of V1
unfolding operating_load_of
operating_low V1 = (ceil_div_least V1 (10 ^ 9) (omega arith)).holds

pub operating_high : (V1 : ℕ) → 10 ^ 9 * operating_load_of V1 ≤ V1 + 10 ^ 9
unfolding operating_load_of
operating_high V1 = omega (arith, ceil_div_excess V1 (10 ^ 9) (omega arith))

seating_low : (V2 : ℕ) → V2 ≤ 10 ^ 5 * seating_load_of V2
unfolding seating_load_of
seating_low V2 = (ceil_div_least V2 (10 ^ 5) (omega arith)).holds

seating_high : (V2 : ℕ) → 10 ^ 5 * seating_load_of V2 ≤ V2 + 10 ^ 5
unfolding seating_load_of
seating_high V2 = omega (arith, ceil_div_excess V2 (10 ^ 5) (omega arith))

-- 2·10¹⁰·sb·W is at least V and at most 6·10¹⁰·sb above it: three tenths of a newton, since sa ≤ 4·sb
module _ (V1 V2 A sa sb : ℕ) (some : 1 ≤ sb) (ratio : sa ≤ 4 * sb) where
  pub flange_low :
      exact_flange_load V1 V2 A sa sb ≤ 2 * 10 ^ 10 * sb * flange_load_of (operating_load_of V1) (seating_load_of V2) A sa sb
  unfolding exact_flange_load
  flange_low =
      let operating = mul-le-mul_right sa (operating_low V1) in
      let seating = mul-le-mul_right sb (seating_low V2) in
      omega (arith, (flange_load_of_least (operating_load_of V1) (seating_load_of V2) A sa sb some).holds)

  pub flange_high :
      2 * 10 ^ 10 * sb * flange_load_of (operating_load_of V1) (seating_load_of V2) A sa sb
      ≤ exact_flange_load V1 V2 A sa sb + 6 * 10 ^ 10 * sb
  unfolding exact_flange_load flange_load_of
  flange_high =
      let operating = mul-le-mul_right sa (operating_high V1) in
      let seating = mul-le-mul_right sb (seating_high V2) in
      let numerator = max (operating_load_of V1 * sa) (seating_load_of V2 * sb) + A * sa * sb in
      omega (arith, ceil_div_excess numerator (2 * sb) (omega arith))
