-- `lines::put_line` meets its contract. Assumes nothing.
use Rattle.std.proofs.Common.{rules, append_assoc}
use Rattle.report.specs.Decimal.{number_line}
use Rattle.report.proofs.Digits.{same_decimal}
use Rattle.report.proofs.lines.put_line.Goals as goal

pub returns-clause-line : goal.returns-clause-line
unfolding number_line
returns-clause-line g c = search (rules, append_assoc, same_decimal c.args.n c.ranges.n.fits)
