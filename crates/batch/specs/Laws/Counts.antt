-- How many pieces are worked: the smaller of the limit and their number; a book has one piece at least. And an outcome is known
-- by its numbers. Assumes nothing.
use Rattle.std.specs.Prelude.{ℕ, ◌≤◌, Bool, true, false, List, [], ◌∷◌, ◌≡◌, refl, length, min}
use Rattle.std.proofs.Common.{arith, length-take}
use Rattle.batch.specs.declared.Outcome.{Outcome}
use Rattle.batch.specs.declared.Outcome.TheVariants.{Reports, ShortSpace, BadLimit}
use Rattle.batch.specs.Pieces.{cut_after, byte_before, pieces_of}
use Rattle.batch.specs.Book.{bad_limit, worked, numbers_of}

pub worked_count : (book : List ℕ) (limit : ℕ) → bad_limit limit ≡ false
    → length (worked book limit) ≡ min limit (length (pieces_of book))
unfolding worked
worked_count book limit e = rw e (length-take limit (pieces_of book))

-- an empty book has one piece too
pub some_piece : (book : List ℕ) → 1 ≤ length (pieces_of book)
unfolding pieces_of
some_piece [] = omega arith
some_piece (x ∷ rest) = one_before (cut_after x rest) (pieces_of rest)
  where
    one_before : (cut : Bool) (ps : List (List ℕ)) → 1 ≤ length (byte_before cut x ps)
    one_before true ps = omega arith
    one_before false [] = omega arith
    one_before false (p ∷ ps) = omega arith

-- no two outcomes have the same numbers: what is promised of the numbers is promised of the outcome itself
pub outcome_named : (a b : Outcome) → numbers_of a ≡ numbers_of b → a ≡ b
outcome_named (Reports c n) (Reports d m) e = grind arith
outcome_named (Reports c n) (ShortSpace m) e = grind arith
outcome_named (Reports c n) BadLimit e = grind arith
outcome_named (ShortSpace n) (Reports d m) e = grind arith
outcome_named (ShortSpace n) (ShortSpace m) e = grind arith
outcome_named (ShortSpace n) BadLimit e = grind arith
outcome_named BadLimit (Reports d m) e = grind arith
outcome_named BadLimit (ShortSpace m) e = grind arith
outcome_named BadLimit BadLimit e = refl
