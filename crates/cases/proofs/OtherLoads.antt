-- A blind flange with loads, need and edge that are not the present ones: what a former reading is made from. Assumes nothing.
use Rattle.std.proofs.Common.{ℕ, ◌+◌, max, Bool, not, [], ◌∷◌, ◌++◌}
use Rattle.tables.specs.DesignStress.{design_stress_of}
use Rattle.limits.specs.Causes.{Causes}
use Rattle.limits.specs.Limits.{flange_limits, bolts_limits, bolt_stress_limits}
use Rattle.limits.specs.declared.BlindFlangeSheet.{BlindFlangeSheet}
use Rattle.rules.specs.Gasket.{effective_width_of, reaction_diameter_of}
use Rattle.rules.specs.Figures.{ambient}
use Rattle.rules.specs.declared.BlindFlangeFigures.{BlindFlangeFigures}

-- the figures with these loads, this need and this edge
abbrev pub figures_with : BlindFlangeSheet → ℕ → ℕ → ℕ → ℕ → ℕ → BlindFlangeFigures
figures_with s Wm1 Wm2 W e edge = record {
  design_stress = design_stress_of s.material s.temperature;
  ambient_stress = design_stress_of s.material ambient;
  reaction_diameter = reaction_diameter_of s.od s.width;
  effective_width = effective_width_of s.width;
  operating_load = Wm1;
  seating_load = Wm2;
  flange_load = W;
  thickness = e;
  edge_thickness = edge;
  total = max e edge + s.allowance;
}

-- the causes, 13 by whether the bolts carry
abbrev pub causes_with : BlindFlangeSheet → Bool → Causes
causes_with s carry =
    flange_limits s
    ++ bolt_stress_limits s
    ++ bolts_limits s (reaction_diameter_of s.od s.width) s.bolt s.root s.count
    ++ (13, not carry ∷ [])
    ∷ []
