-- `root::ceil_div` meets its contract. Assumes nothing.
use Rattle.std.proofs.Common.{sym, arith}
use Rattle.root.proofs.Laws.{ceil_div-zero}
use Rattle.root.proofs.Quotient.{rounded_up}
use Rattle.root.proofs.ceil_div.Goals as goal

pub returns-then-d-eq0 : goal.returns-then-d-eq0
returns-then-d-eq0 c = rw c.if-d-eq0.true (sym (ceil_div-zero _))

pub returns-else-d-eq0 : goal.returns-else-d-eq0
returns-else-d-eq0 c = grind (arith, c.div_ceil.ensures, rounded_up c.args.n c.args.d c.if-d-eq0.false)
