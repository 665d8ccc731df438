-- A book of sheets (R-1): rows of it. Assumes nothing.
use Rattle.std.proofs.Common.{◌≡◌, ℕ, List, [], ◌∷◌, ◌++◌, map, refl, replicate}
use Prim.Native.String.{String}
use Rattle.text.specs.Ascii.{ascii}
use Rattle.text.specs.Index.{index_of, index_after}
use Rattle.tables.specs.DesignStress.{column, design_stress_of}
use Rattle.root.specs.Root.{ceil_div, whole_root_by, least_root, least_root_over}
use Rattle.plates.specs.Plates.{smallest_serving}
use Rattle.limits.specs.Causes.{first_of}
use Rattle.limits.specs.Limits.{endplate_causes}
use Rattle.limits.specs.Stress.{endplate_stress}
use Rattle.rules.specs.Endplate.{endplate_thickness}
use Rattle.rules.specs.Figures.{endplate_figures}
use Rattle.rules.specs.Answer.{endplate_sizing, endplate_answer}
use Rattle.text.specs.Line.{value_of, before, after}
use Rattle.text.specs.Number.{number_of}
use Rattle.text.specs.Plates.{entry_of, plates_listed, plates_of}
use Rattle.report.specs.Decimal.{decimal, number_line}
use Rattle.report.specs.Report.{report_text}
use Rattle.report.specs.Space.{written_at, laid}
use Rattle.lines.specs.Fields.{line_of}
use Rattle.lines.specs.Lines.{plates_line, lines_of}
use Rattle.sheet.specs.Sheet.{part_of, sheet_of, answer_of}
use Rattle.batch.specs.Pieces.{pieces_of}
use Rattle.batch.specs.Book.{worked, reports_for, numbers_for, book_space}
use Rattle.cases.proofs.Starred.{text_of}
use Rattle.cases.proofs.UsualStock.{end_of}

-- ---- rows of cutting: a book and its pieces

abbrev line : String → List ℕ
line s = text_of (s ∷ [])

-- CR
abbrev carriage_return : ℕ
carriage_return = 13

abbrev uncut : List ℕ
uncut = text_of ("form=part=" ∷ " part=" ∷ "Part=" ∷ []) ++ ascii "part"

abbrev crlf : List ℕ
crlf = ascii "part=" ++ carriage_return ∷ line ""

abbrev books : List (List ℕ × List (List ℕ))
books =
    ([], [] ∷ [])
    ∷ (line "part=end" ++ ascii "part=", line "part=end" ∷ ascii "part=" ∷ [])
    ∷ (line "part=" ++ line "part=", line "part=" ∷ line "part=" ∷ [])
    ∷ (line "" ++ ascii "part=end", line "" ∷ ascii "part=end" ∷ [])
    -- not within a line, nor at another word or at a part of the key
    ∷ (uncut, uncut ∷ [])
    -- a CR is a byte like others
    ∷ (line "part=" ++ carriage_return ∷ line "part=", (line "part=" ++ carriage_return ∷ line "part=") ∷ [])
    ∷ (crlf ++ ascii "part=", crlf ∷ ascii "part=" ∷ [])
    ∷ []

cut : map (λ row. pieces_of row.0) books ≡ map (λ row. row.1) books
unfolding pieces_of
cut = refl

-- ---- rows of calls: a limit, a space's length, and the four numbers. The book has two sheets at fault, whose reports are of
-- 18 bytes each

abbrev two : List ℕ
two = line "part=" ++ line "part=end"

abbrev calls : List (ℕ × (ℕ × List ℕ))
calls =
    (64, (36, 0 ∷ 0 ∷ 2 ∷ 36 ∷ []))
    ∷ (64, (35, 15 ∷ 36 ∷ 0 ∷ 0 ∷ []))
    ∷ (2, (36, 0 ∷ 0 ∷ 2 ∷ 36 ∷ []))
    ∷ (1, (18, 0 ∷ 0 ∷ 1 ∷ 18 ∷ []))
    ∷ (1, (17, 15 ∷ 18 ∷ 0 ∷ 0 ∷ []))
    ∷ (0, (36, 16 ∷ 0 ∷ 0 ∷ 0 ∷ []))
    ∷ (65, (36, 16 ∷ 0 ∷ 0 ∷ 0 ∷ []))
    ∷ (65, (0, 16 ∷ 0 ∷ 0 ∷ 0 ∷ []))
    ∷ []

numbered : map (λ row. numbers_for two row.0 (replicate row.1.0 46)) calls ≡ map (λ row. row.1.1) calls
unfolding pieces_of worked reports_for numbers_for index_of index_after after value_of number_of decimal number_line report_text line_of
    plates_line lines_of part_of sheet_of answer_of
numbered = refl

-- ---- a sheet at fault between two others: its two lines between their reports, and dots past them

abbrev reported : List String
reported = "stress=108" ∷ "need=2500" ∷ "total=2500" ∷ "plate=2500" ∷ []

abbrev sized : List String
sized = end_of "pressure=1080" "plates=2500"

laid_out :
    book_space (text_of (sized ++ "part=end" ∷ "form=c" ∷ sized)) 64 (replicate 106 46)
    ≡ text_of (reported ++ "refused=1" ∷ "place=3" ∷ reported) ++ replicate 2 46
unfolding column design_stress_of ceil_div whole_root_by least_root least_root_over endplate_stress endplate_thickness endplate_figures
    endplate_causes first_of endplate_sizing smallest_serving endplate_answer index_of index_after before after value_of number_of entry_of
    plates_listed plates_of decimal number_line report_text line_of plates_line lines_of part_of sheet_of answer_of
    pieces_of worked reports_for laid written_at book_space
laid_out = refl
