use Rattle.std.proofs.Common.{length, ◌≡◌, ◌≤◌}
use Rattle.cases.proofs.vectors.run.Given as goal

abbrev pub invariant-loop : goal.invariant-loop
invariant-loop l = (l.kept ≤ length l.piece) × (length l.piece ≡ 65536)
