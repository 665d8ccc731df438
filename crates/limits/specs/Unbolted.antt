-- A blind flange whose bolts are yet to be chosen (document 02, R-10): with bolts it is a blind flange's sheet.
use Rattle.limits.specs.declared.BlindFlangeSheet.{BlindFlangeSheet}
use Rattle.limits.specs.declared.unbolted.UnboltedSheet.{UnboltedSheet}
use Rattle.limits.specs.declared.unbolted.FlangeBolts.{FlangeBolts}

abbrev pub bolted : UnboltedSheet → FlangeBolts → BlindFlangeSheet
bolted s bolts =
    record {
      material = s.material;
      temperature = s.temperature;
      pressure = s.pressure;
      allowance = s.allowance;
      od = s.od;
      width = s.width;
      rib = s.rib;
      rib_width = s.rib_width;
      m = s.m;
      y = s.y;
      circle = s.circle;
      bolt = bolts.bolt;
      root = bolts.root;
      count = bolts.count;
      sa = s.sa;
      sb = s.sb;
    }

-- what stands for bolts where none are read
abbrev pub unchosen : FlangeBolts
unchosen = record { bolt = 0; root = 0; count = 0 }

-- as a blind flange's sheet, for what reads no bolts
abbrev pub flange_of : UnboltedSheet → BlindFlangeSheet
flange_of s = bolted s unchosen
