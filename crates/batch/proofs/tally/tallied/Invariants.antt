use Rattle.std.proofs.Common.{map}
use Rattle.sheet.specs.Sheet.{answer_of}
use Rattle.batch.proofs.Tallied.{Tallied}
use Rattle.batch.proofs.tally.tallied.Given as goal

-- the pieces so far are counted
abbrev pub invariant-loop-piece : goal.invariant-loop-piece
invariant-loop-piece l =
    Tallied (map answer_of (map (λ p. p.now) l.yielded)) l.tally.pieces l.tally.excesses.items l.tally.causes.items
