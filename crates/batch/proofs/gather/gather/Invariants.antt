use Rattle.std.proofs.Common.{◌≡◌, length, map}
use Rattle.batch.proofs.Gathered.{Gathered}
use Rattle.batch.proofs.gather.gather.Given as goal

-- the pieces so far are gathered
abbrev pub invariant-loop-piece : goal.invariant-loop-piece
invariant-loop-piece l =
    Gathered (map (λ p. p.now) l.yielded) l.count l.at l.space × (length l.space ≡ length l.initial.space)
