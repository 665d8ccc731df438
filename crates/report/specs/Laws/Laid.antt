-- Lent space: where a text fits and where it does not. Assumes nothing.
use Rattle.std.specs.Prelude.{ℕ, ◌+◌, ◌≤◌, ◌<◌, List, ◌≡◌, length, take}
use Rattle.std.proofs.Common.{zero-add, arith}
use Rattle.std.proofs.Math.Seq.{take-append_seam}
use Rattle.report.specs.Space.{written_at, laid}

pub laid-fits : (at : ℕ) (s d : List ℕ) → at + length s ≤ length d → laid at s d ≡ written_at at s d
unfolding laid
laid-fits at s d h = grind arith

pub laid_not : (at : ℕ) (s d : List ℕ) → length d < at + length s → laid at s d ≡ d
unfolding laid
laid_not at s d h = grind arith

-- what fits stands at the front
pub laid_front : (s d : List ℕ) → length s ≤ length d → take (length s) (laid 0 s d) ≡ s
unfolding written_at
laid_front s d h = rw (laid-fits 0 s d (omega arith), zero-add) (take-append_seam s _)
