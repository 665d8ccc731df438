-- The summary of a book's first pieces (document 02, R-3), what a call answers, and what the space holds then.
use Rattle.std.specs.Prelude.{ℕ, ◌-◌, Bool, true, false, cond, List, [], ◌∷◌, ◌++◌, eqb, leb, length, map, take, flat_map, max, min, Option, Some, None, Result, Ok, Err}
use Rattle.std.specs.List.{count_by, filter_map, reduce, sum}
use Rattle.rules.specs.Answer.{Answer, Endplate, BlindFlange, Refused}
use Rattle.text.specs.Ascii.{ascii}
use Rattle.report.specs.Decimal.{decimal, number_line}
use Rattle.report.specs.Space.{laid}
use Rattle.sheet.specs.Sheet.{answer_of}
use Rattle.batch.specs.Pieces.{pieces_of}
use Rattle.batch.specs.Book.{most_pieces}
use Rattle.batch.specs.declared.ShortSpace.{ShortSpace}

-- ---- what a piece counts as, by its answer

-- it has figures and a plate
abbrev pub is_accepted : Answer → Bool
is_accepted (Endplate f plate) = true
is_accepted (BlindFlange f plate) = true
is_accepted (Refused cause figure) = false

-- it has a cause
abbrev pub is_refused : Answer → Bool
is_refused (Endplate f plate) = false
is_refused (BlindFlange f plate) = false
is_refused (Refused cause figure) = true

-- its cause has this number
abbrev pub is_refused_under : ℕ → Answer → Bool
is_refused_under number (Endplate f plate) = false
is_refused_under number (BlindFlange f plate) = false
is_refused_under number (Refused cause figure) = eqb cause number

-- plate minus total of an accepted piece, the plate's nominal thickness: hundredths of a mm. No plate is below its total, so the
-- difference never stops at 0 (`reached`, proofs/Laws/Counted.antt)
abbrev pub excess_of : Answer → Option ℕ
excess_of (Endplate f plate) = Some (plate.thickness - f.total)
excess_of (BlindFlange f plate) = Some (plate.thickness - f.total)
excess_of (Refused cause figure) = None

-- ---- the figures

-- the numbers that a sheet can meet, in rising order: those of document 01 without 15, which is the space's, and 17 (R-4)
abbrev pub sheet_numbers : List ℕ
sheet_numbers = 1 ∷ 2 ∷ 3 ∷ 4 ∷ 5 ∷ 6 ∷ 7 ∷ 8 ∷ 9 ∷ 10 ∷ 11 ∷ 12 ∷ 13 ∷ 14 ∷ 17 ∷ []

abbrev pub accepted : List Answer → ℕ
accepted answers = count_by is_accepted answers

abbrev pub refused : List Answer → ℕ
refused answers = count_by is_refused answers

abbrev pub refused_under : List Answer → ℕ → ℕ
refused_under answers number = count_by (is_refused_under number) answers

-- of the accepted pieces
unfoldable pub excesses : List Answer → List ℕ
excesses answers = filter_map excess_of answers

-- ---- the lines

-- refused and the number, with how many are refused under it
abbrev pub refused_line : List Answer → ℕ → List ℕ
refused_line answers number = number_line (ascii "refused" ++ decimal number) (refused_under answers number)

-- a line that is left out where there is no number
abbrev pub line_of_some : List ℕ → Option ℕ → List ℕ
line_of_some key (Some n) = number_line key n
line_of_some key None = []

-- the summary of pieces with these answers
unfoldable pub summary_of : List Answer → List ℕ
summary_of answers =
    number_line (ascii "pieces") (length answers)
    ++ number_line (ascii "accepted") (accepted answers)
    ++ number_line (ascii "refused") (refused answers)
    ++ flat_map (refused_line answers) sheet_numbers
    ++ number_line (ascii "sum") (sum (excesses answers))
    ++ line_of_some (ascii "least") (reduce min (excesses answers))
    ++ line_of_some (ascii "greatest") (reduce max (excesses answers))

-- the answers to the first pieces of a book, each a sheet on its own
unfoldable pub answers_for : List ℕ → List Answer
answers_for book = map answer_of (take most_pieces (pieces_of book))

unfoldable pub summary_for : List ℕ → List ℕ
summary_for book = summary_of (answers_for book)

-- it is never longer: there is room for the lines of 27 numbers
abbrev pub longest_summary : ℕ
longest_summary = 1024

-- ---- the cause, 0 if none, the figure returned with it, and the length written

-- of a call: 15 where the space is shorter than the summary, with the length needed
unfoldable pub summary_numbers_for : List ℕ → List ℕ → List ℕ
summary_numbers_for book space =
    let n = length (summary_for book) in
    cond (leb n (length space)) (0 ∷ 0 ∷ n ∷ []) (15 ∷ n ∷ 0 ∷ [])

-- and of what is returned
abbrev pub summary_numbers_of : Result ℕ ShortSpace → List ℕ
summary_numbers_of (Ok n) = 0 ∷ 0 ∷ n ∷ []
summary_numbers_of (Err short) = 15 ∷ short.length ∷ 0 ∷ []

-- ---- the space

-- the summary from its front and the old bytes past it; the old bytes under 15
unfoldable pub summary_space : List ℕ → List ℕ → List ℕ
summary_space book space = laid 0 (summary_for book) space
