-- `entries::in_numbers` meets its contract. Assumes nothing.
use Rattle.std.proofs.Common.{arith, length, take_all, ◌/◌}
use Rattle.plates.proofs.Chunks.{pairs}
use Rattle.plates.proofs.entries.in_numbers.Goals as goal

pub returns : goal.returns
returns c =
    let numbers = c.args.numbers.now in
    grind (arith, take_all, c.as_chunks.ensures.front, pairs (length numbers / 2) numbers (omega arith) (omega arith))
