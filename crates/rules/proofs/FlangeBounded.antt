-- Bounds of a blind flange's gasket and figures within the limits, each from those that it is worked from. Assumes nothing.
use mathlib.Core.Path.{◌≡◌, refl}
use Rattle.std.specs.Prelude.{ℕ, ◌+◌, ◌-◌, ◌/◌, ◌≤◌, Some}
use native.Mathlib.Omega.{arith}
use borrow.Author.Tests.{ne_eqb}
use Rattle.tables.specs.DesignStress.{design_stress_of, nonzero}
use Rattle.tables.proofs.Laws.DesignStress.{least_stress, stress_least, stress_most, ambient_greatest}
use Rattle.limits.specs.declared.BlindFlangeSheet.{BlindFlangeSheet}
use Rattle.rules.specs.Bounds.{most_stress, most_diameter, most_lever, most_effective_width, most_gasket_load}
use Rattle.rules.specs.Bounds.{most_load, most_thickness}
use Rattle.rules.specs.Gasket.{effective_width_of, reaction_diameter_of}
use Rattle.rules.specs.Loads.{flange_load_of, gasket_of}
use Rattle.rules.specs.Bolts.{bolt_area}
use Rattle.rules.specs.BlindFlange.{flange_thickness, edge_thickness_of}
use Rattle.rules.specs.Figures.{ambient}
use Rattle.rules.specs.declared.gasket.Gasket.{Gasket}
use Rattle.rules.proofs.WithinLimits.{FlangeWithin, BoltingWithin}
use Rattle.rules.proofs.FiguresBounded.{inset, operating_load_of_most, seating_load_of_most, flange_load_of_most}
use Rattle.rules.proofs.FiguresBounded.{flange_thickness_most, edge_under_most}
use Rattle.rules.proofs.ProductsFit.{edge_products, bending_products}

module _ (s : BlindFlangeSheet) (a : FlangeWithin s) where
  pub record Stresses (S S0 : ℕ) : Type 0 where
    pub least : least_stress ≤ S
    pub ambient_least : least_stress ≤ S0
    pub most : S ≤ most_stress
    pub ambient_most : S0 ≤ most_stress

  pub stresses :
      {S S0 : ℕ} →
      S ≡ design_stress_of s.material s.temperature →
      S0 ≡ design_stress_of s.material ambient →
      Stresses S S0
  stresses e e0 =
      let least = stress_least s.material s.temperature a.stressed in
      let above = ambient_greatest s.material s.temperature in
      let most = stress_most s.material s.temperature in
      let ambient_most = stress_most s.material ambient in
      omega arith

  -- the stress cold is there: what is handed out is Some of it
  pub ambient_given : nonzero (design_stress_of s.material ambient) ≡ Some (design_stress_of s.material ambient)
  ambient_given = by_stress _ (omega (arith, (stresses refl refl).ambient_least))
    where
      by_stress : (S0 : ℕ) → 1 ≤ S0 → nonzero S0 ≡ Some S0
      by_stress S0 h = rw (ne_eqb S0 0 (omega arith))

  -- ---- the gasket

  pub record RingMost (G b : ℕ) : Type 0 where
    pub diameter : G ≤ most_diameter
    pub width : b ≤ most_effective_width

  pub ring_most : {G b : ℕ} → b ≡ effective_width_of s.width → G ≡ s.od - b / 5 → RingMost G b
  ring_most e e' = omega arith

  pub record GasketMost (gasket : Gasket) : Type 0 where
    pub ring : RingMost gasket.reaction_diameter gasket.effective_width
    pub operating : gasket.operating_load ≤ most_gasket_load
    pub seating : gasket.seating_load ≤ most_gasket_load

  gasket_of_most : GasketMost (gasket_of s)
  unfolding gasket_of
  gasket_of_most =
      let r = ring_most refl (inset s.od s.width) in
      record {
        ring = r;
        operating = operating_load_of_most r.diameter r.width a.rib a.rib_width_most a.m a.pressure;
        seating = seating_load_of_most r.diameter r.width a.rib a.rib_width_most a.y;
      }

  pub gasket_most : {gasket : Gasket} → gasket ≡ gasket_of s → GasketMost gasket
  gasket_most e = rw e gasket_of_most

  -- ---- with the bolts

  module _ (b : BoltingWithin s) where
    pub record Circle (G : ℕ) : Type 0 where
      pub least : 1 ≤ G
      pub above : G ≤ s.circle
      pub near : s.circle ≤ G + most_lever

    circle_of : Circle (reaction_diameter_of s.od s.width)
    circle_of = let i = inset s.od s.width in omega arith

    pub circle : {gasket : Gasket} → gasket ≡ gasket_of s → Circle gasket.reaction_diameter
    unfolding gasket_of
    circle e = rw e circle_of

    pub flange :
        {Wm1 Wm2 W : ℕ} →
        Wm1 ≤ most_gasket_load →
        Wm2 ≤ most_gasket_load →
        W ≡ flange_load_of Wm1 Wm2 (bolt_area s.root s.count) s.sa s.sb →
        W ≤ most_load
    flange {Wm1} {Wm2} h1 h2 e =
        let A = bolt_area s.root s.count in
        omega (arith, b.area, flange_load_of_most Wm1 Wm2 A s.sa s.sb b.sa b.sb_least b.ratio)

    -- the products under the roots fit, so that the thicknesses do
    module _ {S S0 G Wm1 : ℕ} (t : Stresses S S0) (hG : G ≤ most_diameter) (r : Circle G) (h1 : Wm1 ≤ most_load) where
      pub thickness_most : flange_thickness S G s.pressure s.circle Wm1 ≤ most_thickness
      thickness_most =
          let moment = edge_products t.most hG r.near h1 in
          let bending = bending_products hG a.pressure in
          flange_thickness_most S G s.circle (omega arith) r.least s.pressure Wm1 (omega arith)

      pub edge_most :
          {W edge : ℕ} → edge ≡ edge_thickness_of S S0 G s.circle Wm1 W → W ≤ most_load → edge ≤ most_thickness
      edge_most {W} e h =
          let ambient-edge = edge_products t.ambient_most hG r.near h in
          let operating-edge = edge_products t.most hG r.near h1 in
          omega (
            arith,
            edge_under_most S0 G s.circle (omega arith) r.least W (omega arith),
            edge_under_most S G s.circle (omega arith) r.least Wm1 (omega arith),
          )
