-- The numbers of a sheet by their places in its lines, counted from 0.
use Rattle.std.specs.Prelude.{ℕ, List, get_or}
use Rattle.limits.specs.declared.EndplateSheet.{EndplateSheet}
use Rattle.limits.specs.declared.BlindFlangeSheet.{BlindFlangeSheet}

abbrev pub endplate_of : List ℕ → EndplateSheet
endplate_of v =
    record {
      form = get_or v 0 0;
      material = get_or v 1 0;
      shell = get_or v 2 0;
      temperature = get_or v 3 0;
      pressure = get_or v 4 0;
      diameter = get_or v 5 0;
      allowance = get_or v 6 0;
    }

abbrev pub blind_flange_of : List ℕ → BlindFlangeSheet
blind_flange_of v =
    record {
      material = get_or v 0 0;
      temperature = get_or v 1 0;
      pressure = get_or v 2 0;
      allowance = get_or v 3 0;
      od = get_or v 4 0;
      width = get_or v 5 0;
      rib = get_or v 6 0;
      rib_width = get_or v 7 0;
      m = get_or v 8 0;
      y = get_or v 9 0;
      circle = get_or v 10 0;
      bolt = get_or v 11 0;
      root = get_or v 12 0;
      count = get_or v 13 0;
      sa = get_or v 14 0;
      sb = get_or v 15 0;
    }
