-- What stands past the limit does not matter: the pieces that are worked are the same whatever pieces follow them. Assumes
-- nothing.
use Rattle.std.specs.Prelude.{ℕ, false, List, ◌++◌, ◌≡◌, length, All}
use Rattle.std.specs.List.{concat}
use Rattle.std.proofs.Math.Seq.{take-append_seam}
use Rattle.batch.specs.Book.{bad_limit, worked}
use Rattle.batch.specs.Laws.Cut.{CutByLines, NoCutWithin, pieces_fixed}

pub past_limit : (ps rest : List (List ℕ)) → bad_limit (length ps) ≡ false
    → CutByLines (ps ++ rest) → All NoCutWithin (ps ++ rest)
    → worked (concat (ps ++ rest)) (length ps) ≡ ps
unfolding worked
past_limit ps rest good c w = rw (good, pieces_fixed (ps ++ rest) c w) (take-append_seam ps rest)
