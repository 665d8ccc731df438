-- In a space that no summary exceeds, a book's summary stands at the front. Assumes nothing.
use Rattle.std.proofs.Common.{ℕ, ◌≤◌, List, [], ◌∷◌, ◌≡◌, length, take, arith, le-leb}
use Rattle.std.proofs.Math.Seq.{take-append_seam}
use Rattle.batch.specs.Laws.Summary.{summary_stands}
use Rattle.batch.specs.Summary.{longest_summary, summary_for, summary_space, summary_numbers_for}

module _
    (book space : List ℕ)
    (room : longest_summary ≤ length space)
    (short : length (summary_for book) ≤ longest_summary) where
  fits : length (summary_for book) ≤ length space
  fits = omega arith

  pub numbers : summary_numbers_for book space ≡ 0 ∷ 0 ∷ length (summary_for book) ∷ []
  unfolding summary_numbers_for
  numbers = rw (le-leb (length (summary_for book)) (length space) fits)

  pub front : take (length (summary_for book)) (summary_space book space) ≡ summary_for book
  front = rw (summary_stands book space fits) (take-append_seam (summary_for book) _)
