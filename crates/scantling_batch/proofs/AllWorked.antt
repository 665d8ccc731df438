-- A book of no more sheets than are worked, in a space long enough for any: the reports of all its sheets are written. Assumes
-- nothing.
use Rattle.std.proofs.Common.{ℕ, ◌≤◌, List, [], ◌∷◌, ◌≡◌, ap, ◌∙◌, length, take, arith, le-leb}
use Rattle.std.specs.Prelude.{flat_map}
use Rattle.std.proofs.lemmas.List.{take_all}
use Rattle.report.specs.Laws.Laid.{laid_front}
use Rattle.sheet.specs.Outcome.{report_for}
use Rattle.batch.specs.Pieces.{pieces_of}
use Rattle.batch.specs.Book.{most_pieces, longest_batch, worked, reports_for, numbers_for, book_space}

-- the reports that result
abbrev reports : List ℕ → List ℕ
reports book = reports_for book most_pieces

module _ (book space : List ℕ) (room : longest_batch ≤ length space) (short : length (reports book) ≤ longest_batch) where
  pub numbers : numbers_for book most_pieces space ≡ 0 ∷ 0 ∷ length (worked book most_pieces) ∷ length (reports book) ∷ []
  unfolding numbers_for
  numbers = rw (le-leb (length (reports book)) (length space) (omega arith))

  pub front :
      length (pieces_of book) ≤ most_pieces →
      take (length (reports book)) (book_space book most_pieces space) ≡ flat_map report_for (pieces_of book)
  unfolding book_space reports_for worked
  front few =
      laid_front (reports book) space (omega arith)
      ∙ ap (flat_map report_for) (take_all most_pieces (pieces_of book) few)
