-- `root::whole_root` meets its contract. Assumes nothing.
use Rattle.std.proofs.Common.{arith, ◌^◌}
use Rattle.root.proofs.WholeRoot.{below, joined}
use Rattle.root.proofs.+whole_root.Goals as goal

pub overflow_add-result : goal.overflow_add-result
overflow_add-result t c =
    let w = c.from_quarter-whole.ensures in
    omega (arith, below _ _ _ (2 ^ 31) w.1 (omega arith))

pub returns : goal.returns
returns t c =
    let w = c.from_quarter-whole.ensures in
    joined _ _ _ _ (omega arith) (omega (arith, below _ _ _ (2 ^ 31) w.1 (omega arith))) (w.1, w.2)
