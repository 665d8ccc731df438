-- The figures of a report (document 01), from the numbers of a sheet.
use Rattle.std.specs.Prelude.{ℕ, ◌+◌, max}
use Rattle.tables.specs.DesignStress.{design_stress_of}
use Rattle.limits.specs.Stress.{endplate_stress}
use Rattle.limits.specs.declared.EndplateSheet.{EndplateSheet}
use Rattle.limits.specs.declared.BlindFlangeSheet.{BlindFlangeSheet}
use Rattle.rules.specs.Endplate.{endplate_thickness}
use Rattle.rules.specs.Loads.{flange_load_of, gasket_of}
use Rattle.rules.specs.Bolts.{bolt_area}
use Rattle.rules.specs.BlindFlange.{flange_thickness, edge_thickness_of}
use Rattle.rules.specs.declared.EndplateFigures.{EndplateFigures}
use Rattle.rules.specs.declared.BlindFlangeFigures.{BlindFlangeFigures}

-- of an endplate; total is need plus allowance
unfoldable pub endplate_figures : EndplateSheet → EndplateFigures
endplate_figures s =
    let F = endplate_stress s.form s.material s.shell s.temperature in
    let T = endplate_thickness s.form F s.pressure s.diameter in
    record {
      design_stress = F;
      thickness = T;
      total = T + s.allowance;
    }

-- the 50 °C column
abbrev pub ambient : ℕ
ambient = 50

-- of a blind flange; total is the greater of need and edge, plus allowance
unfoldable pub blind_flange_figures : BlindFlangeSheet → BlindFlangeFigures
blind_flange_figures s =
    let S = design_stress_of s.material s.temperature in
    let S0 = design_stress_of s.material ambient in
    let gasket = gasket_of s in
    let G = gasket.reaction_diameter in
    let Wm1 = gasket.operating_load in
    let Wm2 = gasket.seating_load in
    let C = s.circle in
    let A = bolt_area s.root s.count in
    let W = flange_load_of Wm1 Wm2 A s.sa s.sb in
    let e = flange_thickness S G s.pressure C Wm1 in
    let edge = edge_thickness_of S S0 G C Wm1 W in
    record {
      design_stress = S;
      ambient_stress = S0;
      reaction_diameter = G;
      effective_width = gasket.effective_width;
      operating_load = Wm1;
      seating_load = Wm2;
      flange_load = W;
      thickness = e;
      edge_thickness = edge;
      total = max e edge + s.allowance;
    }
