use Rattle.std.proofs.Common.{◌-◌, ◌≤◌, length}
use Rattle.batch.proofs.Cuts.{Uncut}
use Rattle.batch.proofs.pieces.first_piece.Given as goal

-- the text is not cut before `from`, where the search goes on
abbrev pub invariant-loop-next : goal.invariant-loop-next
invariant-loop-next l = Uncut l.text l.from × (l.from ≤ length l.text)

abbrev pub decreases-loop-next : goal.decreases-loop-next
decreases-loop-next l = length l.text - l.from
