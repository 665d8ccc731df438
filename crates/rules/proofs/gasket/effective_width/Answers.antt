-- `gasket::effective_width` meets its contract: no u32 has a root of 2²⁰ or more. Assumes nothing.
use Rattle.std.proofs.Common.{arith, ◌^◌}
use Rattle.rules.specs.Gasket.{wide_width}
use Rattle.rules.proofs.FiguresBounded.{wide_width_most}
use Rattle.rules.proofs.gasket.effective_width.Goals as goal

pub overflow_mul-result-else-width-le126 : goal.overflow_mul-result-else-width-le126
unfolding wide_width
overflow_mul-result-else-width-le126 c =
    let most = wide_width_most c.args.width (2 ^ 20) (omega arith) in
    rw (c.least_root_over.ensures, c.from-else-width-le126.ensures) (omega (arith, most))
