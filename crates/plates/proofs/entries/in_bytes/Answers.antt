-- `entries::in_bytes` meets its contract. Assumes nothing.
use Rattle.std.proofs.Common.{arith, length, take_all, ◌/◌}
use Rattle.plates.proofs.Chunks.{eights}
use Rattle.plates.proofs.entries.in_bytes.Goals as goal

pub returns : goal.returns
returns c =
    let bytes = c.args.bytes.now in
    grind (arith, take_all, c.as_chunks.ensures.front, eights (length bytes / 8) bytes (omega arith) (omega arith))
