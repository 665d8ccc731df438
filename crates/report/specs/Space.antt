-- Lent space, and text written over a part of it.
use Rattle.std.specs.Prelude.{ℕ, ◌+◌, cond, List, ◌++◌, leb, length, take, drop}

-- d with s written over it from index at on
unfoldable pub written_at : ℕ → List ℕ → List ℕ → List ℕ
written_at at s d = take at d ++ (s ++ drop (at + length s) d)

-- lent space: s from index at on where it fits, with the old content before and after it; else the old content
unfoldable pub laid : ℕ → List ℕ → List ℕ → List ℕ
laid at s d = cond (leb (at + length s) (length d)) (written_at at s d) d
