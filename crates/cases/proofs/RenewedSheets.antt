-- Blind sheets in the old form with the lines rib=0 and ribw=0 put in after the width (R-4): each is read as it was and prints
-- what it printed. Assumes nothing.
use Rattle.std.proofs.Common.{◌≡◌, ℕ, zero, suc, ◌+◌, Bool, true, false, T, eqb, List, [], ◌∷◌, ◌++◌, length, get_or, take, drop, sym, refl, ap, ◌∙◌, arith, length-take-le, get_or-append-add, eqb-true}
use mathlib.Core.Bool.{and-eq-true_iff}
use lib.Ieee.Bits.{is_true}
use lib.Seq.{get_or_at}
use Rattle.text.specs.Index.{index_of, index_after}
use Rattle.tables.specs.TableRule.{every, both}
use Rattle.limits.specs.declared.BlindFlangeSheet.{BlindFlangeSheet}
use Rattle.rules.specs.Answer.{blind_flange_answer}
use Rattle.plates.specs.declared.Plate.{Plate}
use Rattle.text.specs.Ascii.{ascii, line_feed}
use Rattle.text.specs.Line.{is_line, value_of, before, after}
use Rattle.text.specs.Number.{number_of}
use Rattle.std.specs.Prelude.{Option, Some, None}
use Rattle.report.specs.Report.{report_text}
use Rattle.lines.specs.Fields.{Field, line_of, field_of, blind_flange_fields}
use Rattle.lines.specs.Lines.{Lines, fault, given, ahead, plates_line, last_line, lines_of}
use Rattle.sheet.specs.Sheet.{Sheet, blind_flange_sheet, read, is_part, part_of, sheet_of, answered, answer_of}
use Rattle.sheet.specs.Outcome.{report_for}
use Rattle.cases.proofs.Starred.{text_of}
use Rattle.cases.proofs.PassPartitionRibs.{ribbed, no_rib}
use Rattle.cases.proofs.LineByItself.{without_lf, is_line_lem, lf_found, lacks_before, apart, after_line}
use Rattle.cases.proofs.LineByItself.{line_same, part_same}
use Rattle.cases.proofs.OldBlindSheets.{fields_before, fields_after, former_read, former_lines, former_sheet_of}
use Rattle.cases.proofs.OldBlindSheets.{former_answered, Given, IsBlind, was_blind, read_as_blind}

-- ---- lines put into a text

-- a text with bytes put in after its first lines
abbrev put_in : ℕ → List ℕ → List ℕ → List ℕ
put_in zero bytes t = bytes ++ t
put_in (suc n) bytes t = before line_feed t ++ line_feed ∷ put_in n bytes (after line_feed t)

-- the lines that were given, with numbers put in after the first n
abbrev PutIn : ℕ → List ℕ → Lines → Lines → Type 0
PutIn n numbers (fault k) lines = Unit
PutIn n numbers (given v plates) lines = lines ≡ given (take n v ++ (numbers ++ drop n v)) plates

ahead_put :
    (numbers : List ℕ) (line x n : ℕ) (rest rest' : Lines) {number : Option ℕ} →
    number ≡ Some x →
    PutIn n numbers rest rest' →
    PutIn (suc n) numbers (ahead line (Some x) rest) (ahead line number rest')
ahead_put numbers line x n (fault k) rest' e r = tt
ahead_put numbers line x n (given v plates) rest' e r = rw (e, r)

module _
    (bytes numbers : List ℕ)
    (gs hs : List Field)
    (put : (line : ℕ) (t : List ℕ) → PutIn 0 numbers (lines_of line gs t) (lines_of line hs (bytes ++ t))) where
  put_in_lem :
      (fs : List Field) →
      T (every without_lf fs) →
      (line : ℕ) (t : List ℕ) →
      let n = length fs in
      PutIn n numbers (lines_of line (fs ++ gs) t) (lines_of line (fs ++ hs) (put_in n bytes t))
  unfolding lines_of
  put_in_lem [] p line t = put line t
  put_in_lem (f ∷ fs) p line t =
      let q = both (without_lf f) (every without_lf fs) p in
      rw (after_line (before line_feed t) (lacks_before t) (put_in (length fs) bytes (after line_feed t)))
      (by_number (field_of f t) refl (lines_of (line + 1) (fs ++ gs) (after line_feed t)) _
      (put_in_lem fs q.1 (line + 1) (after line_feed t)))
    where
      by_number :
          (n : Option ℕ) →
          field_of f t ≡ n →
          (rest rest' : Lines) →
          PutIn (length fs) numbers rest rest' →
          PutIn
          (suc (length fs)) numbers (ahead line n rest)
          (ahead line (field_of f (before line_feed t ++ line_feed ∷ put_in (length fs) bytes (after line_feed t))) rest')
      by_number (Some x) e rest rest' r =
          let key = f.0 in
          let k = eqb-true _ _ (is_true (without_lf f) (both (without_lf f) (every without_lf fs) p).0) in
          let whole = apart t (lf_found key t (is_line_lem key f.1 t x e)) in
          let same =
          line_same (before line_feed t) (lacks_before t) key _ (after line_feed t) k f.1
          ∙ ap (line_of key f.1) (sym whole)
          ∙ e in
          ahead_put numbers line x (length fs) rest rest' same r
      by_number None e rest rest' r = tt

-- lines are the same whatever number the first has
any_number : (fs : List Field) (line line' : ℕ) (t : List ℕ) → PutIn 0 [] (lines_of line fs t) (lines_of line' fs t)
unfolding lines_of
any_number [] line line' t = by_plates (plates_line t) (eqb (length (after line_feed t)) 0) refl
  where
    by_plates :
        (o : Option (List Plate)) (last : Bool) →
        eqb (length (after line_feed t)) 0 ≡ last →
        PutIn 0 [] (last_line line o (after line_feed t)) (last_line line' o (after line_feed t))
    by_plates None last e = tt
    by_plates (Some plates) true e = rw e refl
    by_plates (Some plates) false e = rw e tt
any_number (f ∷ fs) line line' t =
    by_number (field_of f t) (lines_of (line + 1) fs (after line_feed t)) _
    (any_number fs (line + 1) (line' + 1) (after line_feed t))
  where
    by_number : (n : Option ℕ) (rest rest' : Lines) → PutIn 0 [] rest rest' → PutIn 0 [] (ahead line n rest) (ahead line' n rest')
    by_number (Some x) (given v plates) rest' r = rw r
    by_number (Some x) (fault k) rest' r = tt
    by_number None rest rest' r = tt

-- ---- the two lines without a rib

abbrev no_rib_lines : List ℕ
no_rib_lines = text_of ("rib=0" ∷ "ribw=0" ∷ [])

-- the two lines are read as two zeros
two_zeros : (line : ℕ) (t : List ℕ) →
    PutIn 0 (0 ∷ 0 ∷ []) (lines_of line fields_after t) (lines_of line (drop 6 blind_flange_fields) (no_rib_lines ++ t))
unfolding lines_of line_of value_of number_of index_of index_after
two_zeros line t =
    rw (
      line_same (ascii "rib=0") refl (ascii "rib") (ascii "ribw=0" ++ line_feed ∷ t) [] refl number_of,
      after_line (ascii "rib=0") refl (ascii "ribw=0" ++ line_feed ∷ t),
      line_same (ascii "ribw=0") refl (ascii "ribw") t [] refl number_of,
      after_line (ascii "ribw=0") refl t,
    )
    (by_lines (lines_of line fields_after t) _ (any_number fields_after line (line + 1 + 1) t))
  where
    by_lines :
        (l l' : Lines) →
        PutIn 0 [] l l' →
        PutIn 0 (0 ∷ 0 ∷ []) l (ahead line (Some 0) (ahead (line + 1) (Some 0) l'))
    by_lines (given v plates) l' r = rw r
    by_lines (fault k) l' r = tt

-- the text of an old sheet with the two lines: after part and the six up to the width
abbrev renewed : List ℕ → List ℕ
renewed text = put_in 7 no_rib_lines text

part_kept : (word text : List ℕ) → is_line (ascii "part") text ≡ true → is_part word (renewed text) ≡ is_part word text
part_kept word text e =
    let rest = put_in 6 no_rib_lines (after line_feed text) in
    part_same word (before line_feed text) rest (after line_feed text) (lacks_before text)
    ∙ ap (is_part word) (sym (apart text (lf_found (ascii "part") text e)))

-- a text that was read as a blind sheet is, with them, read as the same
renewed_sheet : (text : List ℕ) → IsBlind (former_sheet_of text) → sheet_of (renewed text) ≡ former_sheet_of text
unfolding part_of index_of index_after
renewed_sheet text was =
    let w = was_blind text was in
    let part = ((and-eq-true_iff (is_line (ascii "part") text) _).0 w.blind).0 in
    let lines = after line_feed text in
    let put = put_in_lem no_rib_lines (0 ∷ 0 ∷ []) fields_after (drop 6 blind_flange_fields) two_zeros fields_before tt 2 lines in
    let rest = after_line (before line_feed text) (lacks_before text) (put_in 6 no_rib_lines lines) in
    let not_an_end = part_kept (ascii "end") text part ∙ w.not_an_end in
    let blind = part_kept (ascii "blind") text part ∙ w.blind in
    read_as_blind (renewed text) not_an_end blind
    ∙ ap (λ (t : List ℕ). read true (lines_of 2 blind_flange_fields t)) rest
    ∙ by_lines (former_lines text) _ put w.lines
    ∙ sym w.former
  where
    by_lines : (l l' : Lines) → PutIn 6 (0 ∷ 0 ∷ []) l l' → Given l → read true l' ≡ former_read l
    by_lines (given v plates) l' r g = ap (read true) r
    by_lines (fault k) l' r g = absurd g

-- ---- the report is the former one

-- lines in order have a number each
abbrev Sized : ℕ → Lines → Type 0
Sized n (fault k) = Unit
Sized n (given v plates) = length v ≡ n

sized : (fs : List Field) (line : ℕ) (t : List ℕ) → Sized (length fs) (lines_of line fs t)
unfolding lines_of
sized [] line t = by_plates (plates_line t) (eqb (length (after line_feed t)) 0) refl
  where
    by_plates :
        (o : Option (List Plate)) (last : Bool) →
        eqb (length (after line_feed t)) 0 ≡ last →
        Sized 0 (last_line line o (after line_feed t))
    by_plates None last e = tt
    by_plates (Some plates) true e = rw e refl
    by_plates (Some plates) false e = rw e tt
sized (f ∷ fs) line t =
    by_number (field_of f t) (lines_of (line + 1) fs (after line_feed t)) (sized fs (line + 1) (after line_feed t))
  where
    by_number : (n : Option ℕ) (rest : Lines) → Sized (length fs) rest → Sized (suc (length fs)) (ahead line n rest)
    by_number (Some x) (given v plates) r = ap suc r
    by_number (Some x) (fault k) r = tt
    by_number None rest r = tt

-- so the sheet that was read has no rib, and its answer is the former one
no_rib_read : (v : List ℕ) → length v ≡ 14 → let s = blind_flange_sheet (take 6 v ++ 0 ∷ 0 ∷ drop 6 v) in s ≡ ribbed 0 0 s
unfolding ribbed
no_rib_read v e =
    let six : length (take 6 v) ≡ 6 = length-take-le 6 v (omega arith) in
    let zeros : List ℕ = 0 ∷ 0 ∷ drop 6 v in
    let rib = get_or_at (take 6 v) 0 (0 ∷ drop 6 v) 0 6 six in
    let rib_width_most : get_or (take 6 v ++ zeros) 7 0 ≡ 0 =
    ap (λ (n : ℕ). get_or (take 6 v ++ zeros) (n + 1) 0) (sym six) ∙ get_or-append-add (take 6 v) zeros 1 0 in
    rw (rib, rib_width_most)

former_answer_lem : (l : Lines) → Sized 14 l → answered (former_read l) ≡ former_answered (former_read l)
former_answer_lem (fault k) z = refl
former_answer_lem (given v plates) z =
    let s = blind_flange_sheet (take 6 v ++ 0 ∷ 0 ∷ drop 6 v) in
    ap (λ (r : BlindFlangeSheet). blind_flange_answer r plates) (no_rib_read v z) ∙ no_rib s plates

renewed_report :
    (text : List ℕ) →
    IsBlind (former_sheet_of text) →
    report_for (renewed text) ≡ report_text (former_answered (former_sheet_of text))
unfolding answer_of
renewed_report text was =
    let w = was_blind text was in
    ap (λ (sheet : Sheet). report_text (answered sheet)) (renewed_sheet text was ∙ w.former)
    ∙ ap report_text (former_answer_lem (former_lines text) (sized (fields_before ++ fields_after) 2 (after line_feed text)))
    ∙ ap (λ (sheet : Sheet). report_text (former_answered sheet)) (sym w.former)
