-- The products of the calculations, under the bounds that functions ask for and structs hold: each is at most the product of
-- its bounds. Assumes nothing.
use Prim.Native.Nat.{ℕ, ◌+◌, ◌-◌, ◌*◌, ◌≤◌}
use native.Mathlib.Nat.{mul-le-mul}
use native.Mathlib.Omega.{arith}
use Rattle.rules.specs.Bounds.{most_pressure, most_stress, most_diameter, most_lever, most_effective_width, most_rib}
use Rattle.rules.specs.Bounds.{most_factor, most_area, most_bolt_stress, most_gasket_load, most_load, BoltsBounded}

-- of the operating and the seating load, of the ring and of a rib with its own b
pub record GasketProducts (g b rib br m p : ℕ) : Type 0 where
  pub gg : g * g ≤ most_diameter * most_diameter
  pub ggp : g * g * p ≤ most_diameter * most_diameter * most_pressure
  pub bg : b * g ≤ most_effective_width * most_diameter
  pub bgm : b * g * m ≤ most_effective_width * most_diameter * most_factor
  pub bgmp : b * g * m * p ≤ most_effective_width * most_diameter * most_factor * most_pressure
  pub br_rib : br * rib ≤ most_effective_width * most_rib
  pub br_rib_m : br * rib * m ≤ most_effective_width * most_rib * most_factor
  pub br_rib_mp : br * rib * m * p ≤ most_effective_width * most_rib * most_factor * most_pressure

module _
    {g b rib br m p : ℕ}
    (hg : g ≤ most_diameter)
    (hb : b ≤ most_effective_width)
    (hrib : rib ≤ most_rib)
    (hbr : br ≤ most_effective_width)
    (hm : m ≤ most_factor)
    (hp : p ≤ most_pressure) where
  pub gasket_products : GasketProducts g b rib br m p
  gasket_products =
      let gg = mul-le-mul hg hg in
      let bg = mul-le-mul hb hg in
      let bgm = mul-le-mul bg hm in
      let br_rib = mul-le-mul hbr hrib in
      let br_rib_m = mul-le-mul br_rib hm in
      record {
        gg = gg;
        ggp = mul-le-mul gg hp;
        bg = bg;
        bgm = bgm;
        bgmp = mul-le-mul bgm hp;
        br_rib = br_rib;
        br_rib_m = br_rib_m;
        br_rib_mp = mul-le-mul br_rib_m hp;
      }

-- of the bolts
pub record BoltProducts (operating seating area sa sb : ℕ) : Type 0 where
  pub operating_sa : operating * sa ≤ most_gasket_load * most_bolt_stress
  pub seating_sb : seating * sb ≤ most_gasket_load * most_bolt_stress
  pub strength_sa : area * sa ≤ most_area * most_bolt_stress
  pub strength_sb : area * sb ≤ most_area * most_bolt_stress
  pub strength_both : area * sa * sb ≤ most_area * most_bolt_stress * most_bolt_stress

pub bolt_products :
    {operating seating area sa sb : ℕ} →
    BoltsBounded operating seating area sa sb →
    BoltProducts operating seating area sa sb
bolt_products h = record {
  operating_sa = mul-le-mul h.0 h.3;
  seating_sb = mul-le-mul h.1 h.4;
  strength_sa = mul-le-mul h.2 h.3;
  strength_sb = mul-le-mul h.2 h.4;
  strength_both = mul-le-mul (mul-le-mul h.2 h.3) h.4;
}

-- of the thicknesses: the factor of their square, the moment of a load, and the bending under pressure
pub record EdgeProducts (stress g circle load : ℕ) : Type 0 where
  pub factor : stress * g ≤ most_stress * most_diameter
  pub moment : load * (circle - g) ≤ most_load * most_lever

pub edge_products :
    {stress g circle load : ℕ} →
    stress ≤ most_stress →
    g ≤ most_diameter →
    circle ≤ g + most_lever →
    load ≤ most_load →
    EdgeProducts stress g circle load
edge_products {g = g} {circle = circle} hs hg hc hw = record {
  factor = mul-le-mul hs hg;
  moment = mul-le-mul {m₁ = circle - g} {m₂ = most_lever} hw (omega arith);
}

pub record BendingProducts (g p : ℕ) : Type 0 where
  pub gg : g * g ≤ most_diameter * most_diameter
  pub ggg : g * g * g ≤ most_diameter * most_diameter * most_diameter
  pub gggp : g * g * g * p ≤ most_diameter * most_diameter * most_diameter * most_pressure

pub bending_products : {g p : ℕ} → g ≤ most_diameter → p ≤ most_pressure → BendingProducts g p
bending_products hg hp =
    let gg = mul-le-mul hg hg in
    record { gg = gg; ggg = mul-le-mul gg hg; gggp = mul-le-mul (mul-le-mul gg hg) hp }
