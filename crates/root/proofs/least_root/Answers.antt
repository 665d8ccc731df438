-- `root::least_root` meets its contract. Assumes nothing.
use Rattle.std.proofs.Common.{arith}
use Rattle.root.proofs.WholeRoot.{none_left, some_left}
use Rattle.root.proofs.least_root.Goals as goal

pub returns-then-whole-gt0 : goal.returns-then-whole-gt0
returns-then-whole-gt0 c = let w = c.from_quarter-whole.ensures in some_left _ _ _ (w.1, w.2) (omega arith)

pub returns-else-whole-gt0 : goal.returns-else-whole-gt0
returns-else-whole-gt0 c = let w = c.from_quarter-whole.ensures in none_left _ _ _ (w.1, w.2) (omega arith)
