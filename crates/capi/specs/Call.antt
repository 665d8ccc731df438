-- The numbers of a call from C as those of a sheet, in the order of its lines.
use Rattle.std.specs.Prelude.{ℕ}
use Rattle.limits.specs.declared.EndplateSheet.{EndplateSheet}
use Rattle.limits.specs.declared.BlindFlangeSheet.{BlindFlangeSheet}
use Rattle.limits.specs.declared.unbolted.UnboltedSheet.{UnboltedSheet}

-- of an endplate; form is 1, 2, 3 for a, c, d
abbrev pub endplate_call : ℕ → ℕ → ℕ → ℕ → ℕ → ℕ → ℕ → EndplateSheet
endplate_call form material shell temperature pressure diameter allowance =
    record {
      form = form;
      material = material;
      shell = shell;
      temperature = temperature;
      pressure = pressure;
      diameter = diameter;
      allowance = allowance;
    }

-- of a blind flange
abbrev pub blind_flange_call : ℕ → ℕ → ℕ → ℕ → ℕ → ℕ → ℕ → ℕ → ℕ → ℕ → ℕ → ℕ → ℕ → ℕ → ℕ → ℕ → BlindFlangeSheet
blind_flange_call material temperature pressure allowance od width rib ribWidth m y circle bolt root count sa sb =
    record {
      material = material;
      temperature = temperature;
      pressure = pressure;
      allowance = allowance;
      od = od;
      width = width;
      rib = rib;
      rib_width = ribWidth;
      m = m;
      y = y;
      circle = circle;
      bolt = bolt;
      root = root;
      count = count;
      sa = sa;
      sb = sb;
    }

-- of a blind flange whose bolts are chosen
abbrev pub unbolted_call : ℕ → ℕ → ℕ → ℕ → ℕ → ℕ → ℕ → ℕ → ℕ → ℕ → ℕ → ℕ → ℕ → UnboltedSheet
unbolted_call material temperature pressure allowance od width rib ribWidth m y circle sa sb =
    record {
      material = material;
      temperature = temperature;
      pressure = pressure;
      allowance = allowance;
      od = od;
      width = width;
      rib = rib;
      rib_width = ribWidth;
      m = m;
      y = y;
      circle = circle;
      sa = sa;
      sb = sb;
    }
