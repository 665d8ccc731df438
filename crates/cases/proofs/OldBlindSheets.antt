-- Blind sheets in the old form, without the lines rib and ribw (R-4): each is refused by 1 at line 8. Assumes nothing.
use Rattle.std.proofs.Common.{◌≡◌, ℕ, ◌+◌, Bool, true, false, cond, List, [], ◌∷◌, ◌++◌, length, take, drop, refl, ap, ◌∙◌, arith}
use Rattle.rules.specs.Answer.{Answer}
use Rattle.rules.specs.Answer.{Refused}
use Rattle.text.specs.Ascii.{ascii, line_feed}
use Rattle.text.specs.Line.{is_line, after}
use Rattle.text.specs.Number.{number_of}
use Rattle.std.specs.Prelude.{Option, Some, None}
use Rattle.report.specs.Decimal.{decimal, number_line}
use Rattle.report.specs.Report.{report_text}
use Rattle.lines.specs.Fields.{Field, line_of, field_of, endplate_fields, blind_flange_fields}
use Rattle.lines.specs.Lines.{Lines, fault, given, ahead, lines_of}
use Rattle.sheet.specs.Sheet.{Sheet, malformed, endplate, blind_flange, endplate_sheet, blind_flange_sheet, read, is_part}
use Rattle.sheet.specs.Sheet.{part_of, sheet_of, answered, answer_of}
use Rattle.sheet.specs.Outcome.{report_for}
use Rattle.cases.proofs.Starred.{text_of}
use Rattle.cases.proofs.PassPartitionRibs.{former_answer, former_endplate_answer, endplate_kept}
use Rattle.cases.proofs.LineByItself.{begins_other, is_line_lem, key_begins}

-- ---- the former sheet: its fields are those up to the width and those from m on

abbrev pub fields_before : List Field
fields_before = take 6 blind_flange_fields

abbrev pub fields_after : List Field
fields_after = drop 8 blind_flange_fields

-- what lines said: their numbers, and none for a rib
abbrev pub former_read : Lines → Sheet
former_read (fault k) = malformed k
former_read (given v plates) = blind_flange (blind_flange_sheet (take 6 v ++ 0 ∷ 0 ∷ drop 6 v)) plates

abbrev pub former_lines : List ℕ → Lines
former_lines text = lines_of 2 (fields_before ++ fields_after) (after line_feed text)

abbrev pub former_sheet_of : List ℕ → Sheet
former_sheet_of text =
    cond (is_part (ascii "end") text) (part_of false text)
    (cond (is_part (ascii "blind") text) (former_read (former_lines text)) (malformed 1))

abbrev pub former_answered : Sheet → Answer
former_answered (malformed line) = Refused 1 line
former_answered (endplate s plates) = former_endplate_answer s plates
former_answered (blind_flange s plates) = former_answer s plates

-- a sheet of a blind flange
abbrev pub IsBlind : Sheet → Type 0
IsBlind (malformed line) = ⊥
IsBlind (endplate s plates) = ⊥
IsBlind (blind_flange s plates) = Unit

-- ---- a text that begins with part=end has the sheet and the answer that it had

abbrev end_lines : List ℕ → Lines
end_lines text = lines_of 2 endplate_fields (after line_feed text)

end_kept : (text : List ℕ) → is_part (ascii "end") text ≡ true → answer_of text ≡ former_answered (former_sheet_of text)
unfolding answer_of sheet_of part_of
end_kept text e = rw e (by_lines (end_lines text))
  where
    by_lines : (l : Lines) → answered (read false l) ≡ former_answered (read false l)
    by_lines (fault k) = refl
    by_lines (given v plates) = endplate_kept (endplate_sheet v) plates

-- ---- a line m where rib must stand

-- lines that were in order
abbrev pub Given : Lines → Type 0
Given (fault k) = ⊥
Given (given v plates) = Unit

-- the first of them, and those after it
in_order : (line : ℕ) (n : Option ℕ) (rest : Lines) → Given (ahead line n rest) → ((x : ℕ) × (n ≡ Some x)) × Given rest
in_order line (Some x) (given v plates) g = ((x, refl), tt)
in_order line (Some x) (fault k) g = absurd g
in_order line None rest g = absurd g

-- where other fields follow from one on that these lines do not have, the first of those is at fault
other_fields :
    (fs gs hs : List Field) →
    ((line : ℕ) (t : List ℕ) → Given (lines_of line gs t) → lines_of line hs t ≡ fault line) →
    (line : ℕ) (t : List ℕ) →
    Given (lines_of line (fs ++ gs) t) →
    lines_of line (fs ++ hs) t ≡ fault (line + length fs)
unfolding lines_of
other_fields [] gs hs h line t g = h line t g ∙ ap fault (omega arith)
other_fields (f ∷ fs) gs hs h line t g =
    let p = in_order line (field_of f t) (lines_of (line + 1) (fs ++ gs) (after line_feed t)) g in
    rw (p.0.1, other_fields fs gs hs h (line + 1) (after line_feed t) p.1) (ap fault (omega arith))

-- a line of m is none of rib
not_rib : (t : List ℕ) → is_line (ascii "m") t ≡ true → is_line (ascii "rib") t ≡ false
not_rib t e = rw (begins_other (ascii "rib") (ascii "m") t tt (key_begins (ascii "m") t e))

m_for_rib :
    (line : ℕ) (t : List ℕ) →
    Given (lines_of line fields_after t) →
    lines_of line (drop 6 blind_flange_fields) t ≡ fault line
unfolding lines_of line_of
m_for_rib line t g =
    let m = (in_order line _ (lines_of (line + 1) (drop 9 blind_flange_fields) (after line_feed t)) g).0 in
    rw (not_rib t (is_line_lem (ascii "m") number_of t m.0 m.1))

-- ---- a text that was read as a blind sheet is refused by 1 at line 8

not_end : (l : Lines) → IsBlind (read false l) → ⊥
not_end (fault k) w = w
not_end (given v plates) w = w

were_given : (l : Lines) → IsBlind (former_read l) → Given l
were_given (fault k) w = w
were_given (given v plates) w = w

module _ (text : List ℕ) where
  pub record BlindText : Type 0 where
    pub not_an_end : is_part (ascii "end") text ≡ false
    pub blind : is_part (ascii "blind") text ≡ true
    pub lines : Given (former_lines text)
    pub former : former_sheet_of text ≡ former_read (former_lines text)

  pub was_blind : IsBlind (former_sheet_of text) → BlindText
  unfolding part_of
  was_blind was = by_part (is_part (ascii "end") text) refl (is_part (ascii "blind") text) refl was
    where
      by_part :
          (e : Bool) →
          is_part (ascii "end") text ≡ e →
          (b : Bool) →
          is_part (ascii "blind") text ≡ b →
          IsBlind (cond e (part_of false text) (cond b (former_read (former_lines text)) (malformed 1))) →
          BlindText
      by_part true p b q w = absurd (not_end (end_lines text) w)
      by_part false p true q w = record {
        not_an_end = p;
        blind = q;
        lines = were_given (former_lines text) w;
        former = rw (p, q);
      }
      by_part false p false q w = absurd w

  pub read_as_blind : is_part (ascii "end") text ≡ false → is_part (ascii "blind") text ≡ true → sheet_of text ≡ part_of true text
  unfolding sheet_of
  read_as_blind p q = rw (p, q)

old_form : (text : List ℕ) → IsBlind (former_sheet_of text) → sheet_of text ≡ malformed 8
unfolding part_of
old_form text was =
    let w = was_blind text was in
    read_as_blind text w.not_an_end w.blind
    ∙ ap (read true)
    (other_fields fields_before fields_after (drop 6 blind_flange_fields) m_for_rib 2 (after line_feed text) w.lines)

old_form_answer : (text : List ℕ) → IsBlind (former_sheet_of text) → answer_of text ≡ Refused 1 8
unfolding answer_of
old_form_answer text was = ap answered (old_form text was)

old_form_report : (text : List ℕ) → IsBlind (former_sheet_of text) → report_for text ≡ text_of ("refused=1" ∷ "place=8" ∷ [])
unfolding report_text number_line decimal
old_form_report text was = ap report_text (old_form_answer text was)
