-- What stands in the space after a summary: in a space where it fits it stands at the front; under 15 all is as it was. What is
-- returned is known by its numbers, and has the summary's length in either case. Assumes nothing.
use Rattle.std.specs.Prelude.{ℕ, ◌≤◌, ◌<◌, Bool, true, false, cond, List, [], ◌∷◌, ◌++◌, ◌≡◌, leb, length, drop, Result, Ok, Err}
use Rattle.std.proofs.Common.{◌∙◌, arith, refl, zero-add}
use Rattle.report.specs.Space.{written_at}
use Rattle.report.specs.Laws.Laid.{laid-fits, laid_not}
use Rattle.batch.specs.declared.ShortSpace.{ShortSpace}
use Rattle.batch.specs.Summary.{summary_for, summary_space, summary_numbers_for, summary_numbers_of}

module _ (book space : List ℕ) where
  pub summary_stands : length (summary_for book) ≤ length space
      → summary_space book space ≡ summary_for book ++ drop (length (summary_for book)) space
  unfolding summary_space written_at
  summary_stands h = laid-fits 0 (summary_for book) space (omega (arith, h)) ∙ rw zero-add refl

  -- 15
  pub summary_untouched : length space < length (summary_for book) → summary_space book space ≡ space
  unfolding summary_space
  summary_untouched h = laid_not 0 (summary_for book) space (omega (arith, h))

pub summary_named : (a b : Result ℕ ShortSpace) → summary_numbers_of a ≡ summary_numbers_of b → a ≡ b
summary_named (Ok n) (Ok m) e = grind arith
summary_named (Ok n) (Err s) e = grind arith
summary_named (Err r) (Ok m) e = grind arith
summary_named (Err r) (Err s) e = grind arith

-- the length returned, written or needed
abbrev pub length_returned : Result ℕ ShortSpace → ℕ
length_returned (Ok n) = n
length_returned (Err short) = short.length

pub length_known : (book space : List ℕ) (r : Result ℕ ShortSpace) → summary_numbers_of r ≡ summary_numbers_for book space
    → length_returned r ≡ length (summary_for book)
unfolding summary_numbers_for
length_known book space r e = by_test (leb (length (summary_for book)) (length space)) r e
  where
    by_test : (fits : Bool) (r : Result ℕ ShortSpace)
        → summary_numbers_of r ≡ cond fits (0 ∷ 0 ∷ length (summary_for book) ∷ []) (15 ∷ length (summary_for book) ∷ 0 ∷ [])
        → length_returned r ≡ length (summary_for book)
    by_test true (Ok n) e = grind arith
    by_test true (Err short) e = grind arith
    by_test false (Ok n) e = grind arith
    by_test false (Err short) e = grind arith
