-- Mill minus tolerance (R-13) on a sheet: one whose list is not empty and has no colon keeps its report byte for byte. Assumes
-- nothing.
use Rattle.std.proofs.Common.{◌≡◌, ℕ, zero, suc, Bool, true, false, cond, eqb, List, [], ◌∷◌, map, length, take, drop, sym, refl, ap, ◌∙◌, arith}
use Rattle.std.specs.Prelude.{Option, Some, None}
use Rattle.std.specs.Option.{option_map}
use Rattle.text.specs.Index.{index_of, index_after}
use Rattle.plates.specs.declared.Plate.{Plate}
use Rattle.plates.specs.Plates.{standard_plates}
use Rattle.rules.specs.Answer.{Answer, endplate_sizing, blind_flange_sizing, endplate_answer, blind_flange_answer}
use Rattle.rules.specs.Answer.{Refused}
use Rattle.text.specs.Ascii.{ascii, comma, colon}
use Rattle.text.specs.Line.{same, contains, is_line, value_of, before, after}
use Rattle.text.specs.Number.{number_of}
use Rattle.text.specs.Laws.Entry.{entry_alone}
use Rattle.text.specs.Laws.Joined.{Lacks, lacks_cons}
use Rattle.text.specs.Plates.{most_plates, plate_before, plates_listed, plates_of}
use Rattle.report.specs.Report.{report_text}
use Rattle.sheet.specs.Sheet.{Sheet, malformed, endplate, blind_flange, sheet_of, answered, answer_of}
use Rattle.sheet.specs.Outcome.{report_for}
use Rattle.cases.proofs.OtherReading.{Reading, sheet_by, after_fields, read_alike, OfListed, OfSheet, of_sheet}
use Rattle.cases.proofs.WithoutMinus.{of_thickness, former_endplate_answer, former_blind_flange_answer, answer_kept}

-- ---- the former reading of a plates line: numbers

abbrev number_before : Option ℕ → Option (List ℕ) → Option (List ℕ)
number_before (Some n) (Some ns) = Some (n ∷ ns)
number_before (Some n) None = None
number_before None ns = None

abbrev former_listed : ℕ → List ℕ → Option (List ℕ)
former_listed zero t = None
former_listed (suc k) t =
    let more = former_listed k (after comma t) in
    number_before (number_of (before comma t)) (cond (contains comma t) more (Some []))

abbrev thicknesses : List Plate → List ℕ
thicknesses plates = map (λ plate. plate.thickness) plates

abbrev former_numbers : List ℕ → Option (List ℕ)
former_numbers v =
    let listed = former_listed most_plates v in
    cond (eqb (length v) 0) (Some (thicknesses standard_plates)) (cond (same (ascii "none") v) (Some []) listed)

abbrev pub former_plates : Reading
former_plates v = option_map (map of_thickness) (former_numbers v)

-- and the former report of a text
abbrev pub former_answered : Sheet → Answer
former_answered (malformed line) = Refused 1 line
former_answered (endplate s plates) = former_endplate_answer s (thicknesses plates)
former_answered (blind_flange s plates) = former_blind_flange_answer s (thicknesses plates)

abbrev pub former_report : List ℕ → List ℕ
former_report text = report_text (former_answered (sheet_by former_plates text))

-- ---- a list without a colon is read as it was

lacks_take : (b n : ℕ) (xs : List ℕ) → Lacks b xs → Lacks b (take n xs)
unfolding index_of index_after
lacks_take b zero xs e = refl
lacks_take b (suc n) [] e = refl
lacks_take b (suc n) (x ∷ xs) e = let l = lacks_cons b x xs e in rw l.0 (omega (arith, lacks_take b n xs l.1))

lacks_drop : (b n : ℕ) (xs : List ℕ) → Lacks b xs → Lacks b (drop n xs)
lacks_drop b zero xs e = e
lacks_drop b (suc n) [] e = e
lacks_drop b (suc n) (x ∷ xs) e = lacks_drop b n xs (lacks_cons b x xs e).1

listed_kept : (k : ℕ) (v : List ℕ) → Lacks colon v → plates_listed k v ≡ option_map (map of_thickness) (former_listed k v)
unfolding plates_listed before after
listed_kept zero v l = refl
listed_kept (suc k) v l =
    rw (entry_alone (before comma v) (lacks_take colon _ v l), listed_kept k (after comma v) (lacks_drop colon _ v l))
    (by_parts (number_of (before comma v)) (contains comma v) (former_listed k (after comma v)))
  where
    by_parts : (n : Option ℕ) (more : Bool) (rest : Option (List ℕ)) →
        plate_before (option_map of_thickness n) (cond more (option_map (map of_thickness) rest) (Some []))
        ≡ option_map (map of_thickness) (number_before n (cond more rest (Some [])))
    by_parts None more rest = refl
    by_parts (Some n) true None = refl
    by_parts (Some n) true (Some ns) = refl
    by_parts (Some n) false rest = refl

value_kept : (v : List ℕ) → eqb (length v) 0 ≡ false → Lacks colon v → plates_of v ≡ former_plates v
unfolding plates_of
value_kept v e l = rw (e, listed_kept most_plates v l) (by_word (same (ascii "none") v))
  where
    by_word : (none : Bool) → let listed = former_listed most_plates v in
        cond none (Some []) (option_map (map of_thickness) listed) ≡ option_map (map of_thickness) (cond none (Some []) listed)
    by_word true = refl
    by_word false = refl

-- a plates line here lists something, and has no colon
abbrev pub WithoutColon : List ℕ → Type 0
WithoutColon t =
    let v = value_of (ascii "plates") t in
    is_line (ascii "plates") t ≡ true →
    (eqb (length v) 0 ≡ false) × Lacks colon v

read_kept : (text : List ℕ) → WithoutColon (after_fields text) → sheet_of text ≡ sheet_by former_plates text
read_kept text w = read_alike former_plates text (λ e. value_kept _ (w e).0 (w e).1)

-- ---- and answered as it was: no plate of the former reading has a minus

abbrev NoMinus : List Plate → Type 0
NoMinus plates = map of_thickness (thicknesses plates) ≡ plates

no_minus_list : (ns : List ℕ) → NoMinus (map of_thickness ns)
no_minus_list [] = refl
no_minus_list (n ∷ ns) = ap (λ (plates : List Plate). of_thickness n ∷ plates) (no_minus_list ns)

no_minus_value : (v : List ℕ) → OfListed NoMinus (former_plates v)
no_minus_value v = by_numbers (former_numbers v)
  where
    by_numbers : (o : Option (List ℕ)) → OfListed NoMinus (option_map (map of_thickness) o)
    by_numbers (Some ns) = no_minus_list ns
    by_numbers None = tt

same_answer : (s : Sheet) → OfSheet NoMinus s → answered s ≡ former_answered s
unfolding endplate_answer blind_flange_answer
same_answer (malformed line) p = refl
same_answer (endplate s plates) p = ap (endplate_answer s) (sym p) ∙ answer_kept (endplate_sizing s) (thicknesses plates)
same_answer (blind_flange s plates) p = ap (blind_flange_answer s) (sym p) ∙ answer_kept (blind_flange_sizing s) (thicknesses plates)

pub report_kept : (text : List ℕ) → WithoutColon (after_fields text) → report_for text ≡ former_report text
unfolding answer_of
report_kept text w =
    ap (λ (s : Sheet). report_text (answered s)) (read_kept text w)
    ∙ ap report_text (same_answer (sheet_by former_plates text) (of_sheet NoMinus former_plates no_minus_value text))
