-- `root::from_quarter` meets its contract. Assumes nothing.
use Rattle.std.proofs.Common.{arith, ◌%◌, ◌*◌, ◌+◌, ◌/◌, ◌<◌, ◌^◌, ◌≡◌}
use Rattle.root.proofs.WholeRoot.{below, digit_one, digit_zero, raised}
use Rattle.root.proofs.from_quarter.Goals as goal
use Rattle.root.proofs.from_quarter.Goals.{After-with_digit-left}

-- n's quarter is below 2^62, so that its root is below 2^31
fits : (c : After-with_digit-left) → c.args.quarter / 2 ^ 32 < 2 ^ 31
fits c = below _ _ _ _ c.requires.0 (omega arith)

-- what the quarter leaves over is carried up, with n's last digit
carried : (c : After-with_digit-left) → c.with_digit-left.result ≡ 4 * (c.args.quarter % 2 ^ 32) + c.args.n % 4
carried c = omega arith

pub returns-then-taken-left : goal.returns-then-taken-left
returns-then-taken-left c =
    let w = (goal.at.returns-then-taken-left c).After-with_digit-left in
    raised _ _ _ _ (omega (arith, fits w)) (digit_one _ _ _ _ c.requires (omega (arith, carried w)))

pub returns-else-taken-left : goal.returns-else-taken-left
returns-else-taken-left c =
    let w = (goal.at.returns-else-taken-left c).After-with_digit-left in
    raised _ _ _ _ (omega (arith, fits w)) (digit_zero _ _ _ _ c.requires (carried w) (omega arith))
