-- The report of an answer: its figures in report order, or the two lines of a refusal.
use Rattle.std.specs.Prelude.{ℕ, ◌+◌, List, [], ◌∷◌, ◌++◌, length}
use Prim.Native.String.{String}
use Rattle.std.specs.Borrow.{Bor}
use Rattle.rules.specs.Answer.{report_of}
use Rattle.rules.specs.Answer.{Answer}
use Rattle.rules.specs.Answer.{Endplate, BlindFlange, Refused}
use Rattle.text.specs.Ascii.{ascii}
use Rattle.report.specs.Decimal.{number_line}

-- the keys of a report's lines
abbrev pub keys_of : Answer → List String
keys_of (Endplate f plate) = "stress" ∷ "need" ∷ "total" ∷ "plate" ∷ []
keys_of (BlindFlange f plate) =
    "stress"
    ∷ "cold"
    ∷ "g"
    ∷ "b"
    ∷ "wm1"
    ∷ "wm2"
    ∷ "w"
    ∷ "need"
    ∷ "edge"
    ∷ "total"
    ∷ "plate"
    ∷ []
keys_of (Refused cause figure) = "refused" ∷ "place" ∷ []

-- and their numbers
abbrev pub report_numbers : Answer → List ℕ
report_numbers (Endplate f plate) = report_of (Endplate f plate)
report_numbers (BlindFlange f plate) = report_of (BlindFlange f plate)
report_numbers (Refused cause figure) = cause ∷ figure ∷ []

-- a line for each key and its number
abbrev pub number_lines : List String → List ℕ → List ℕ
number_lines [] ns = []
number_lines (key ∷ keys) [] = []
number_lines (key ∷ keys) (n ∷ ns) = number_line (ascii key) n ++ number_lines keys ns

unfoldable pub report_text : Answer → List ℕ
report_text answer = number_lines (keys_of answer) (report_numbers answer)

-- a line for each row, a key and its number
abbrev pub row_lines : List (Bor (List ℕ) × ℕ) → List ℕ
row_lines [] = []
row_lines (row ∷ rows) = number_line row.0.now row.1 ++ row_lines rows

-- what a line may take: its key, =, at most 20 digits and LF
abbrev pub line_room : List ℕ → ℕ
line_room key = length key + 22

-- and what the lines of rows may take together
abbrev pub rows_room : List (Bor (List ℕ) × ℕ) → ℕ
rows_room [] = 0
rows_room (row ∷ rows) = line_room row.0.now + rows_room rows

-- no report is longer: its lines together may take no more
abbrev pub longest : ℕ
longest = 319
