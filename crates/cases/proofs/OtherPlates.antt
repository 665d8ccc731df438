-- Sheets that differ in their plates alone: the same sheet with another plates line. Assumes nothing.
use Rattle.std.proofs.Common.{◌≡◌, ℕ, ◌+◌, Bool, true, false, ◌&&◌, T, eqb, List, [], ◌∷◌, ◌++◌, length, refl, ap, ◌∙◌, arith, length-append, ne_eqb, eqb-true}
use lib.Ieee.Bits.{is_true}
use Rattle.text.specs.Index.{index_of, index_after}
use Rattle.tables.specs.TableRule.{every, both}
use Rattle.plates.specs.declared.Plate.{Plate}
use Rattle.text.specs.Ascii.{ascii, line_feed}
use Rattle.text.specs.Laws.Joined.{Lacks}
use Rattle.std.specs.Prelude.{Option, Some, None}
use Rattle.lines.specs.Fields.{Field, line_of, field_of, fields_of}
use Rattle.lines.specs.Lines.{Lines, fault, given, ahead, last_line}
use Rattle.sheet.specs.Sheet.{Sheet, malformed, endplate, blind_flange, read, is_part}
use Rattle.cases.proofs.LineByItself.{without_lf, differs, begins_other, ended, after_line, value_line}
use Rattle.cases.proofs.LineByItself.{is_same, value_same, line_same, part_same}
use Rattle.cases.proofs.OtherReading.{Reading, sheet_by_part, plates_by, lines_by, sheet_by}

-- a text of lines, the last of them plates= and this value
abbrev pub sheet_text : List (List ℕ) → List ℕ → List ℕ
sheet_text [] value = ascii "plates=" ++ (value ++ line_feed ∷ [])
sheet_text (u ∷ us) value = u ++ line_feed ∷ sheet_text us value

-- lines without their LF
abbrev pub AreLines : List (List ℕ) → Type 0
AreLines [] = Unit
AreLines (u ∷ us) = Lacks line_feed u × AreLines us

-- the same with other plates
abbrev lines_with : List Plate → Lines → Lines
lines_with plates (fault k) = fault k
lines_with plates (given v others) = given v plates

abbrev pub with_plates : List Plate → Sheet → Sheet
with_plates plates (malformed line) = malformed line
with_plates plates (endplate s others) = endplate s plates
with_plates plates (blind_flange s others) = blind_flange s plates

ahead_with :
    (plates : List Plate) (line : ℕ) (n : Option ℕ) (l : Lines) →
    ahead line n (lines_with plates l) ≡ lines_with plates (ahead line n l)
ahead_with plates line (Some x) (fault k) = refl
ahead_with plates line (Some x) (given v others) = refl
ahead_with plates line None l = refl

read_with : (plates : List Plate) (blind : Bool) (l : Lines) → read blind (lines_with plates l) ≡ with_plates plates (read blind l)
read_with plates true (fault k) = refl
read_with plates false (fault k) = refl
read_with plates true (given v others) = refl
read_with plates false (given v others) = refl

-- a key without LF that no plates line begins with
abbrev other_key : Field → Bool
other_key field = without_lf field && differs field.0 (ascii "plates=")

some_text : (us : List (List ℕ)) (value : List ℕ) → eqb (length (sheet_text us value)) 0 ≡ false
some_text [] value = ne_eqb (length (sheet_text [] value)) 0 (λ e. omega (arith, e))
some_text (u ∷ us) value =
    let t = sheet_text us value in
    ne_eqb (length (u ++ line_feed ∷ t)) 0 (λ e. omega (arith, e, length-append u (line_feed ∷ t)))

module _ (reading : Reading) where
  -- the last line by itself
  last_line_lem :
      (value : List ℕ) (plates : List Plate) →
      Lacks line_feed value →
      reading value ≡ Some plates →
      (line : ℕ) →
      lines_by reading line [] (sheet_text [] value) ≡ given [] plates
  unfolding index_of index_after
  last_line_lem value plates l e line =
      let u = ascii "plates=" ++ value in
      let lacks : Lacks line_feed u = omega (arith, l) in
      rw (ended u lacks [], value_line u lacks (ascii "plates") [], after_line u lacks [], e)

  module _
      (value other : List ℕ) (plates others : List Plate)
      (l : Lacks line_feed value)
      (l' : Lacks line_feed other)
      (e : reading value ≡ Some plates)
      (e' : reading other ≡ Some others) where
    other_lines :
        (fs : List Field) →
        T (every other_key fs) →
        (us : List (List ℕ)) →
        AreLines us →
        (line : ℕ) →
        lines_by reading line fs (sheet_text us value) ≡ lines_with plates (lines_by reading line fs (sheet_text us other))
    unfolding line_of index_of index_after
    other_lines [] k [] a line = rw (last_line_lem value plates l e line, last_line_lem other others l' e' line)
    other_lines [] k (u ∷ us) a line =
        let key = ascii "plates" in
        let t = sheet_text us value in
        let t' = sheet_text us other in
        rw (
          is_same u a.0 key t t' refl,
          value_same u a.0 key t t' refl,
          after_line u a.0 t,
          after_line u a.0 t',
        )
        (by_plates (plates_by reading (u ++ line_feed ∷ t')))
      where
        by_plates :
            (o : Option (List Plate)) →
            last_line line o (sheet_text us value) ≡ lines_with plates (last_line line o (sheet_text us other))
        by_plates None = refl
        by_plates (Some ps) = rw (some_text us value, some_text us other)
    other_lines (f ∷ fs) k [] a line =
        let d = (both (without_lf f) _ (both (other_key f) (every other_key fs) k).0).1 in
        let key = f.0 in
        rw (
          begins_other key (ascii "plates=") (sheet_text [] value) d refl,
          begins_other key (ascii "plates=") (sheet_text [] other) d refl,
        )
    other_lines (f ∷ fs) k (u ∷ us) a line =
        let w = both (other_key f) (every other_key fs) k in
        let lf = eqb-true _ _ (is_true (without_lf f) (both (without_lf f) _ w.0).0) in
        let t = sheet_text us value in
        let t' = sheet_text us other in
        let n = field_of f (u ++ line_feed ∷ t') in
        rw (line_same u a.0 f.0 t t' lf f.1, after_line u a.0 t, after_line u a.0 t')
        (ap (ahead line n) (other_lines fs w.1 us a.1 (line + 1))
        ∙ ahead_with plates line n (lines_by reading (line + 1) fs t'))

    -- the same sheet with another plates line has the same numbers, or the same line at fault
    pub other_plates :
        (us : List (List ℕ)) →
        AreLines us →
        sheet_by reading (sheet_text us value) ≡ with_plates plates (sheet_by reading (sheet_text us other))
    unfolding index_of index_after
    other_plates [] a = refl
    other_plates (u ∷ us) a =
        let t = sheet_text us value in
        let t' = sheet_text us other in
        rw (
          part_same (ascii "end") u t t' a.0,
          part_same (ascii "blind") u t t' a.0,
          after_line u a.0 t,
          after_line u a.0 t',
        )
        (by_part (is_part (ascii "end") (u ++ line_feed ∷ t')) (is_part (ascii "blind") (u ++ line_feed ∷ t')))
      where
        lines_of_lem : (blind : Bool) → List ℕ → Lines
        lines_of_lem blind v = lines_by reading 2 (fields_of blind) (sheet_text us v)

        part :
            (blind : Bool) →
            T (every other_key (fields_of blind)) →
            read blind (lines_of_lem blind value) ≡ with_plates plates (read blind (lines_of_lem blind other))
        part blind k =
            ap (read blind) (other_lines (fields_of blind) k us a.1 2)
            ∙ read_with plates blind (lines_of_lem blind other)

        by_part :
            (end blind : Bool) →
            sheet_by_part end blind (read false (lines_of_lem false value)) (read true (lines_of_lem true value))
            ≡ with_plates plates (sheet_by_part end blind (read false (lines_of_lem false other)) (read true (lines_of_lem true other)))
        by_part true blind = part false tt
        by_part false true = part true tt
        by_part false false = refl
