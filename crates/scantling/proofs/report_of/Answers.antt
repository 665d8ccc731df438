-- `report_of` meets its contract. Assumes nothing.
use Rattle.std.proofs.Common.{arith}
use Rattle.sheet.specs.Laws.{space_front}
use Rattle.scantling.proofs.report_of.Goals as goal

pub returns : goal.returns
returns c =
    let made = c.write_report.ensures in
    record {
      out_after = rw (made.value, made.content) (space_front c.args.text.now c.args.out.now (omega arith));
      short = made.short;
    }
