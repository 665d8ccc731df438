-- What a sheet says: the numbers of an endplate or of a blind flange, with the plates; and its answer.
use Rattle.std.specs.Prelude.{ℕ, Bool, true, false, cond, ◌&&◌, List, [], Option, Some, None}
use Rattle.plates.specs.declared.Plate.{Plate}
use Rattle.rules.specs.Answer.{endplate_answer, blind_flange_answer}
use Rattle.rules.specs.Numbers.{endplate_cause, endplate_figure, endplate_report}
use Rattle.rules.specs.Numbers.{blind_flange_cause, blind_flange_figure, blind_flange_report}
use Rattle.limits.specs.declared.EndplateSheet.{EndplateSheet}
use Rattle.limits.specs.declared.BlindFlangeSheet.{BlindFlangeSheet}
use Rattle.rules.specs.Answer.{Answer}
use Rattle.rules.specs.Answer.{Refused}
use Rattle.sheet.specs.declared.answers.Part.{Part}
use Rattle.sheet.specs.declared.answers.Part.TheVariants.{Endplate, BlindFlange}
use Rattle.text.specs.Ascii.{ascii, line_feed}
use Rattle.text.specs.Line.{same, is_line, value_of, after}
use Rattle.lines.specs.Fields.{endplate_fields, blind_flange_fields, fields_of, number_named}
use Rattle.lines.specs.Lines.{Lines, fault, given, lines_of}

pub data Sheet : Type 0 where
  -- the number of the first line at fault
  malformed : ℕ → Sheet
  endplate : EndplateSheet → List Plate → Sheet
  blind_flange : BlindFlangeSheet → List Plate → Sheet

-- the numbers of an endplate's lines, each by its key
abbrev pub endplate_sheet : List ℕ → EndplateSheet
endplate_sheet v =
    let the = number_named endplate_fields v in
    record {
      form = the "form";
      material = the "material";
      shell = the "shell";
      temperature = the "temp";
      pressure = the "pressure";
      diameter = the "dia";
      allowance = the "allow";
    }

-- the numbers of a blind flange's lines
abbrev pub blind_flange_sheet : List ℕ → BlindFlangeSheet
blind_flange_sheet v =
    let the = number_named blind_flange_fields v in
    record {
      material = the "material";
      temperature = the "temp";
      pressure = the "pressure";
      allowance = the "allow";
      od = the "od";
      width = the "width";
      rib = the "rib";
      rib_width = the "ribw";
      m = the "m";
      y = the "y";
      circle = the "circle";
      bolt = the "bolt";
      root = the "root";
      count = the "count";
      sa = the "sa";
      sb = the "sb";
    }

-- the lines after part=blind, or after part=end
abbrev pub read : Bool → Lines → Sheet
read blind (fault k) = malformed k
read true (given v plates) = blind_flange (blind_flange_sheet v) plates
read false (given v plates) = endplate (endplate_sheet v) plates

-- the part that the first line names
abbrev pub named_part : List ℕ → Option Part
named_part text =
    let key = ascii "part" in
    let word = value_of key text in
    let named = cond (same (ascii "end") word) (Some Endplate) (cond (same (ascii "blind") word) (Some BlindFlange) None) in
    cond (is_line key text) named None

-- the first line is part= and this word
abbrev pub is_part : List ℕ → List ℕ → Bool
is_part word text = let key = ascii "part" in is_line key text && same word (value_of key text)

-- the lines after the first, of a blind flange or else of an endplate
unfoldable pub part_of : Bool → List ℕ → Sheet
part_of blind text = read blind (lines_of 2 (fields_of blind) (after line_feed text))

unfoldable pub sheet_of : List ℕ → Sheet
sheet_of text =
    let endplateOf = part_of false text in
    let blindFlangeOf = part_of true text in
    cond (is_part (ascii "end") text) endplateOf (cond (is_part (ascii "blind") text) blindFlangeOf (malformed 1))

-- 1 with the line at fault, or what the rules say of the numbers
abbrev pub answered : Sheet → Answer
answered (malformed line) = Refused 1 line
answered (endplate s plates) = endplate_answer s plates
answered (blind_flange s plates) = blind_flange_answer s plates

-- the answer to a text
unfoldable pub answer_of : List ℕ → Answer
answer_of text = answered (sheet_of text)

-- ---- the same in document 01's numbers

-- the cause, 0 if none; 15 is the space's affair
abbrev pub sheet_cause : Sheet → ℕ
sheet_cause (malformed line) = 1
sheet_cause (endplate s plates) = endplate_cause s plates
sheet_cause (blind_flange s plates) = blind_flange_cause s plates

-- the figure returned with it: the line of 1, the total of 14, else 0
abbrev pub sheet_figure : Sheet → ℕ
sheet_figure (malformed line) = line
sheet_figure (endplate s plates) = endplate_figure s plates
sheet_figure (blind_flange s plates) = blind_flange_figure s plates

-- the report's figures, in report order; none with a cause
abbrev pub sheet_report : Sheet → List ℕ
sheet_report (malformed line) = []
sheet_report (endplate s plates) = endplate_report s plates
sheet_report (blind_flange s plates) = blind_flange_report s plates
