-- What a call with a book, a limit and a lent space answers, in document 02's numbers, and what the space holds then.
use Rattle.std.specs.Prelude.{ℕ, ◌*◌, Bool, ◌||◌, cond, List, [], ◌∷◌, eqb, leb, ltb, length, take, flat_map}
use Rattle.report.specs.Report.{longest}
use Rattle.report.specs.Space.{laid}
use Rattle.sheet.specs.Outcome.{report_for}
use Rattle.batch.specs.Pieces.{pieces_of}
use Rattle.batch.specs.declared.Outcome.{Outcome}
use Rattle.batch.specs.declared.Outcome.TheVariants.{Reports, ShortSpace, BadLimit}

-- ---- what is worked

-- the greatest limit, and the most pieces that a summary counts
abbrev pub most_pieces : ℕ
most_pieces = 64

-- 0 or over 64
abbrev pub bad_limit : ℕ → Bool
bad_limit limit = eqb limit 0 || ltb most_pieces limit

-- the first pieces of the book, as many as the smaller of the limit and their number; none for a bad limit
unfoldable pub worked : List ℕ → ℕ → List (List ℕ)
worked book limit = cond (bad_limit limit) [] (take limit (pieces_of book))

-- their reports one after another, each that of a sheet on its own
unfoldable pub reports_for : List ℕ → ℕ → List ℕ
reports_for book limit = flat_map report_for (worked book limit)

-- they are never longer
abbrev pub longest_batch : ℕ
longest_batch = most_pieces * longest

-- ---- the cause, 0 if none, the figure returned with it, the count of the pieces worked, and the length written

-- of a call: 16 before all else, and 15 where the space is shorter than the reports, with the length needed
unfoldable pub numbers_for : List ℕ → ℕ → List ℕ → List ℕ
numbers_for book limit space =
    let count = length (worked book limit) in
    let n = length (reports_for book limit) in
    let fitted = cond (leb n (length space)) (0 ∷ 0 ∷ count ∷ n ∷ []) (15 ∷ n ∷ 0 ∷ 0 ∷ []) in
    cond (bad_limit limit) (16 ∷ 0 ∷ 0 ∷ 0 ∷ []) fitted

-- and of what is returned
abbrev pub numbers_of : Outcome → List ℕ
numbers_of (Reports count n) = 0 ∷ 0 ∷ count ∷ n ∷ []
numbers_of (ShortSpace n) = 15 ∷ n ∷ 0 ∷ 0 ∷ []
numbers_of BadLimit = 16 ∷ 0 ∷ 0 ∷ 0 ∷ []

-- ---- the space

-- the reports from its front and the old bytes past them; the old bytes under 15 and 16
unfoldable pub book_space : List ℕ → ℕ → List ℕ → List ℕ
book_space book limit space = cond (bad_limit limit) space (laid 0 (reports_for book limit) space)
