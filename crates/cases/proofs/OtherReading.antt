-- A sheet by another reading of its plates line, and what holds of the plates that a reading gives. Assumes nothing.
use Rattle.std.proofs.Common.{◌≡◌, ℕ, ◌+◌, Bool, true, false, not, cond, eqb, List, [], ◌∷◌, length, sym, refl, ap, ◌∙◌}
use Rattle.plates.specs.declared.Plate.{Plate}
use Rattle.text.specs.Ascii.{ascii, line_feed}
use Rattle.text.specs.Line.{is_line, value_of, after}
use Rattle.text.specs.Plates.{plates_of}
use Rattle.std.specs.Prelude.{Option, Some, None}
use Rattle.lines.specs.Fields.{Field, field_of, fields_of}
use Rattle.lines.specs.Lines.{Lines, fault, given, ahead, plates_line, last_line, lines_of}
use Rattle.sheet.specs.Sheet.{Sheet, malformed, endplate, blind_flange, read, is_part, part_of, sheet_of}

-- how the value of a plates line is read
abbrev pub Reading : Type 0
Reading = List ℕ → Option (List Plate)

-- part=end, part=blind, or neither
abbrev pub sheet_by_part : Bool → Bool → Sheet → Sheet → Sheet
sheet_by_part isEnd isBlind endplateOf blindFlangeOf = cond isEnd endplateOf (cond isBlind blindFlangeOf (malformed 1))

module _ (reading : Reading) where
  abbrev pub plates_by : List ℕ → Option (List Plate)
  plates_by t = let key = ascii "plates" in cond (is_line key t) (reading (value_of key t)) None

  abbrev pub lines_by : ℕ → List Field → List ℕ → Lines
  lines_by line [] t = last_line line (plates_by t) (after line_feed t)
  lines_by line (field ∷ fields) t =
      let rest = lines_by (line + 1) fields (after line_feed t) in
      ahead line (field_of field t) rest

  abbrev pub part_by : Bool → List ℕ → Sheet
  part_by blind text = read blind (lines_by 2 (fields_of blind) (after line_feed text))

  abbrev pub sheet_by : List ℕ → Sheet
  sheet_by text = sheet_by_part (is_part (ascii "end") text) (is_part (ascii "blind") text) (part_by false text) (part_by true text)

-- the present one
present_lines : (line : ℕ) (fs : List Field) (t : List ℕ) → lines_by plates_of line fs t ≡ lines_of line fs t
unfolding lines_of plates_line
present_lines line [] t = refl
present_lines line (f ∷ fs) t = ap (ahead line (field_of f t)) (present_lines (line + 1) fs (after line_feed t))

pub present_part : (blind : Bool) (text : List ℕ) → part_by plates_of blind text ≡ part_of blind text
unfolding part_of
present_part blind text = ap (read blind) (present_lines 2 (fields_of blind) (after line_feed text))

pub present : (text : List ℕ) → sheet_by plates_of text ≡ sheet_of text
unfolding sheet_of
present text = rw (present_part false text, present_part true text)

-- what stands after the lines of the fields
abbrev pub past : List Field → List ℕ → List ℕ
past [] t = t
past (field ∷ fields) t = past fields (after line_feed t)

-- readings that agree on the plates line of a text agree on its lines, those at fault too
agree_lines :
    (p q : Reading) (line : ℕ) (fs : List Field) (t : List ℕ) →
    plates_by p (past fs t) ≡ plates_by q (past fs t) →
    lines_by p line fs t ≡ lines_by q line fs t
agree_lines p q line [] t e = ap (λ (o : Option (List Plate)). last_line line o (after line_feed t)) e
agree_lines p q line (f ∷ fs) t e = ap (ahead line (field_of f t)) (agree_lines p q (line + 1) fs (after line_feed t) e)

agree :
    (p q : Reading) (blind : Bool) (text : List ℕ) →
    let t = past (fields_of blind) (after line_feed text) in
    plates_by p t ≡ plates_by q t →
    part_by p blind text ≡ part_by q blind text
agree p q blind text e = ap (read blind) (agree_lines p q 2 (fields_of blind) (after line_feed text) e)

-- where the plates line of a sheet must be
abbrev pub after_fields : List ℕ → List ℕ
after_fields text = past (fields_of (not (is_part (ascii "end") text))) (after line_feed text)

-- a reading that agrees with the present one on the value there reads the same sheet
pub read_alike :
    (p : Reading) (text : List ℕ) →
    (let t = after_fields text in
    let v = value_of (ascii "plates") t in
    is_line (ascii "plates") t ≡ true → plates_of v ≡ p v) →
    sheet_of text ≡ sheet_by p text
read_alike p text same =
    sym (present text) ∙ by_part (is_part (ascii "end") text) (is_part (ascii "blind") text) (by_line (is_line (ascii "plates") t) refl)
  where
    t : List ℕ
    t = after_fields text

    v : List ℕ
    v = value_of (ascii "plates") t

    by_line : (line : Bool) → is_line (ascii "plates") t ≡ line → cond line (plates_of v) None ≡ cond line (p v) None
    by_line true e = same e
    by_line false e = refl

    by_part :
        (end blind : Bool) →
        let t = past (fields_of (not end)) (after line_feed text) in
        plates_by plates_of t ≡ plates_by p t →
        sheet_by_part end blind (part_by plates_of false text) (part_by plates_of true text)
        ≡ sheet_by_part end blind (part_by p false text) (part_by p true text)
    by_part true blind e = agree plates_of p false text e
    by_part false true e = agree plates_of p true text e
    by_part false false e = refl

-- ---- what holds of every list that a reading gives holds of the plates of a sheet

module _ (P : List Plate → Type 0) where
  abbrev pub OfListed : Option (List Plate) → Type 0
  OfListed (Some plates) = P plates
  OfListed None = Unit

  abbrev OfLines : Lines → Type 0
  OfLines (fault k) = Unit
  OfLines (given v plates) = P plates

  abbrev pub OfSheet : Sheet → Type 0
  OfSheet (malformed line) = Unit
  OfSheet (endplate s plates) = P plates
  OfSheet (blind_flange s plates) = P plates

  module _ (reading : Reading) (holds : (v : List ℕ) → OfListed (reading v)) where
    of_line : (t : List ℕ) → OfListed (plates_by reading t)
    of_line t = by_line (is_line (ascii "plates") t)
      where
        by_line : (line : Bool) → OfListed (cond line (reading (value_of (ascii "plates") t)) None)
        by_line true = holds _
        by_line false = tt

    of_lines : (line : ℕ) (fs : List Field) (t : List ℕ) → OfLines (lines_by reading line fs t)
    of_lines line [] t = last (plates_by reading t) (of_line t) (eqb (length (after line_feed t)) 0) refl
      where
        last :
            (o : Option (List Plate)) →
            OfListed o →
            (ends : Bool) →
            eqb (length (after line_feed t)) 0 ≡ ends →
            OfLines (last_line line o (after line_feed t))
        last None h ends e = tt
        last (Some plates) h true e = rw e h
        last (Some plates) h false e = rw e tt
    of_lines line (f ∷ fs) t =
        later (field_of f t) (lines_by reading (line + 1) fs (after line_feed t)) (of_lines (line + 1) fs (after line_feed t))
      where
        later : (n : Option ℕ) (rest : Lines) → OfLines rest → OfLines (ahead line n rest)
        later (Some x) (given v plates) h = h
        later (Some x) (fault k) h = tt
        later None rest h = tt

    of_part : (blind : Bool) (text : List ℕ) → OfSheet (part_by reading blind text)
    of_part blind text = read_of blind _ (of_lines 2 (fields_of blind) (after line_feed text))
      where
        read_of : (blind : Bool) (l : Lines) → OfLines l → OfSheet (read blind l)
        read_of true (given v plates) h = h
        read_of false (given v plates) h = h
        read_of true (fault k) h = tt
        read_of false (fault k) h = tt

    pub of_sheet : (text : List ℕ) → OfSheet (sheet_by reading text)
    of_sheet text = by_part (is_part (ascii "end") text) (is_part (ascii "blind") text)
      where
        by_part : (end blind : Bool) → OfSheet (sheet_by_part end blind (part_by reading false text) (part_by reading true text))
        by_part true blind = of_part false text
        by_part false true = of_part true text
        by_part false false = tt
