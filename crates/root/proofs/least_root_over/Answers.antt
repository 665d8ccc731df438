-- `root::least_root_over` meets its contract. Assumes nothing.
use Rattle.std.proofs.Common.{ap, arith, sym, ◌∙◌}
use Rattle.root.specs.Root.{least_root}
use Rattle.root.proofs.Laws.{least_root_over-zero, least_root_over_is}
use Rattle.root.proofs.least_root_over.Goals as goal

pub returns-then-a-eq0 : goal.returns-then-a-eq0
returns-then-a-eq0 c = rw c.if-a-eq0.true (sym (least_root_over-zero _))

pub returns-else-a-eq0 : goal.returns-else-a-eq0
returns-else-a-eq0 c =
    c.least_root.ensures ∙ ap least_root c.ceil_div.ensures ∙ sym (least_root_over_is _ _ (omega arith))
