-- The sheet, by the part that its first line names. Assumes nothing.
use Rattle.std.specs.Prelude.{ℕ, Bool, true, false, ◌&&◌, cond, List, Option, Some, None, ◌≡◌, refl}
use Rattle.text.specs.Ascii.{ascii}
use Rattle.text.specs.Line.{same, is_line, value_of}
use Rattle.sheet.specs.declared.answers.Part.{Part}
use Rattle.sheet.specs.declared.answers.Part.TheVariants.{Endplate, BlindFlange}
use Rattle.sheet.specs.Sheet.{Sheet, malformed, named_part, part_of, sheet_of}

abbrev pub sheet_by : List ℕ → Option Part → Sheet
sheet_by text (Some Endplate) = part_of false text
sheet_by text (Some BlindFlange) = part_of true text
sheet_by text None = malformed 1

pub by_part : (text : List ℕ) → sheet_by text (named_part text) ≡ sheet_of text
unfolding sheet_of
by_part text =
    let word = value_of (ascii "part") text in
    by_tests (is_line (ascii "part") text) (same (ascii "end") word) (same (ascii "blind") word)
  where
    by_tests :
        (line end blind : Bool) →
        sheet_by text (cond line (cond end (Some Endplate) (cond blind (Some BlindFlange) None)) None)
        ≡ cond (line && end) (part_of false text) (cond (line && blind) (part_of true text) (malformed 1))
    by_tests false end blind = refl
    by_tests true true blind = refl
    by_tests true false true = refl
    by_tests true false false = refl
