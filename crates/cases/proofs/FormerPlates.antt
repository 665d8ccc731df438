-- The plates line as it was read before R-8, and the sheets that are read the same: every one whose plates line says neither
-- nothing nor none. Assumes nothing.
use Rattle.std.proofs.Common.{◌≡◌, ℕ, ◌+◌, Bool, true, false, cond, not, eqb, List, [], ◌∷◌, length, refl, ap}
use Rattle.text.specs.Index.{index_of, index_after}
use Rattle.plates.specs.declared.Plate.{Plate}
use Rattle.text.specs.Ascii.{ascii, line_feed}
use Rattle.text.specs.Line.{same, is_line, value_of, before, after}
use Rattle.text.specs.Number.{number_of}
use Rattle.text.specs.Plates.{most_plates, entry_of, plates_listed, plates_of}
use Rattle.text.specs.Laws.Begins.{same_equal}
use Rattle.std.specs.Prelude.{Option, Some, None}
use Rattle.report.specs.Report.{report_text}
use Rattle.lines.specs.Fields.{Field, field_of, fields_of}
use Rattle.lines.specs.Lines.{Lines, fault, given, ahead, last_line}
use Rattle.sheet.specs.Sheet.{Sheet, malformed, endplate, blind_flange, read, is_part, sheet_of, answered, answer_of}
use Rattle.sheet.specs.Outcome.{report_for}
use Rattle.cases.proofs.OtherReading.{Reading, sheet_by_part, plates_by, lines_by, part_by, sheet_by, past, after_fields, read_alike}

-- nothing was an empty list, and none was no list
abbrev pub former_plates : Reading
former_plates v = cond (eqb (length v) 0) (Some []) (plates_listed most_plates v)

abbrev pub former_sheet_of : List ℕ → Sheet
former_sheet_of text = sheet_by former_plates text

-- ---- every other plates line is read as it was

-- a plates line there says neither nothing nor none
abbrev pub Neither : List ℕ → Type 0
Neither t =
    let v = value_of (ascii "plates") t in
    is_line (ascii "plates") t ≡ true →
    (eqb (length v) 0 ≡ false) × (same (ascii "none") v ≡ false)

pub read_as_before : (text : List ℕ) → Neither (after_fields text) → sheet_of text ≡ former_sheet_of text
unfolding plates_of
read_as_before text n = read_alike former_plates text (λ e. rw ((n e).0, (n e).1))

-- ---- a sheet with a list of one plate or more keeps its report

abbrev OneOrMore : Option (List Plate) → Type 0
OneOrMore None = ⊥
OneOrMore (Some []) = ⊥
OneOrMore (Some (plate ∷ plates)) = Unit

abbrev pub Lists : Sheet → Type 0
Lists (malformed line) = ⊥
Lists (endplate s plates) = OneOrMore (Some plates)
Lists (blind_flange s plates) = OneOrMore (Some plates)

abbrev LinesList : Lines → Type 0
LinesList (fault k) = ⊥
LinesList (given v plates) = OneOrMore (Some plates)

-- then its plates line does
line_lists :
    (line : ℕ) (fs : List Field) (t : List ℕ) →
    LinesList (lines_by former_plates line fs t) →
    OneOrMore (plates_by former_plates (past fs t))
line_lists line [] t g = by_plates (plates_by former_plates t) (eqb (length (after line_feed t)) 0) refl g
  where
    by_plates :
        (o : Option (List Plate)) (last : Bool) →
        eqb (length (after line_feed t)) 0 ≡ last →
        LinesList (last_line line o (after line_feed t)) →
        OneOrMore o
    by_plates None last e g = absurd g
    by_plates (Some plates) true e g = rw e at g
    by_plates (Some plates) false e g = absurd (rw e at g)
line_lists line (f ∷ fs) t g =
    line_lists (line + 1) fs (after line_feed t) (later (field_of f t) (lines_by former_plates (line + 1) fs (after line_feed t)) g)
  where
    later : (n : Option ℕ) (rest : Lines) → LinesList (ahead line n rest) → LinesList rest
    later (Some x) (given v plates) g = g
    later (Some x) (fault k) g = absurd g
    later None rest g = absurd g

-- none lists no plates
none_unlisted : (v : List ℕ) → same (ascii "none") v ≡ true → plates_listed most_plates v ≡ None
unfolding plates_listed entry_of number_of before index_of index_after
none_unlisted v e = rw (same_equal (ascii "none") v e)

value_neither :
    (v : List ℕ) → OneOrMore (former_plates v) → (eqb (length v) 0 ≡ false) × (same (ascii "none") v ≡ false)
value_neither v g = by_value (eqb (length v) 0) refl (same (ascii "none") v) refl g
  where
    by_value :
        (empty : Bool) →
        eqb (length v) 0 ≡ empty →
        (is_none : Bool) →
        same (ascii "none") v ≡ is_none →
        OneOrMore (cond empty (Some []) (plates_listed most_plates v)) →
        (eqb (length v) 0 ≡ false) × (same (ascii "none") v ≡ false)
    by_value true e is_none n g = absurd g
    by_value false e true n g = absurd (rw (none_unlisted v n) at g)
    by_value false e false n g = (e, n)

neither : (t : List ℕ) → OneOrMore (plates_by former_plates t) → Neither t
neither t g e = value_neither (value_of (ascii "plates") t) (rw e at g)

text_lists : (text : List ℕ) → Lists (former_sheet_of text) → OneOrMore (plates_by former_plates (after_fields text))
text_lists text g = by_part (is_part (ascii "end") text) (is_part (ascii "blind") text) g
  where
    t : List ℕ
    t = after line_feed text

    lines_list : (blind : Bool) (l : Lines) → Lists (read blind l) → LinesList l
    lines_list true (given v plates) g = g
    lines_list false (given v plates) g = g
    lines_list blind (fault k) g = absurd g

    by_part :
        (end blind : Bool) →
        Lists (sheet_by_part end blind (part_by former_plates false text) (part_by former_plates true text)) →
        OneOrMore (plates_by former_plates (past (fields_of (not end)) t))
    by_part true blind g = line_lists 2 (fields_of false) t (lines_list false (lines_by former_plates 2 (fields_of false) t) g)
    by_part false true g = line_lists 2 (fields_of true) t (lines_list true (lines_by former_plates 2 (fields_of true) t) g)
    by_part false false g = absurd g

pub kept : (text : List ℕ) → Lists (former_sheet_of text) → sheet_of text ≡ former_sheet_of text
kept text g = read_as_before text (neither (after_fields text) (text_lists text g))

pub report_kept : (text : List ℕ) → Lists (former_sheet_of text) → report_for text ≡ report_text (answered (former_sheet_of text))
unfolding answer_of
report_kept text g = ap (λ (s : Sheet). report_text (answered s)) (kept text g)
