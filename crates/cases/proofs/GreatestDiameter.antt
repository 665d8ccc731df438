-- Ends up to 3,000 mm (R-2): every answer that was no refusal 6 while 20000 was the greatest diameter is kept, of numbers and
-- of texts. Assumes nothing.
use Rattle.std.proofs.Common.{◌≡◌, ℕ, Bool, true, false, ◌||◌, ltb, ◌≢◌, List, [], ◌∷◌, sym, refl, ap, ◌∙◌, arith, ltb-true, lt-ltb}
use mathlib.Core.Bool.{or-true}
use Rattle.tables.specs.DesignStress.{column, design_stress_of}
use Rattle.root.specs.Root.{ceil_div, whole_root_by, least_root, least_root_over}
use Rattle.plates.specs.declared.Plate.{Plate}
use Rattle.plates.specs.Plates.{smallest_serving, toleranced}
use Rattle.limits.specs.Causes.{any, Causes, tests_of, first_of, first_cause}
use Rattle.limits.specs.Stress.{endplate_stress}
use Rattle.limits.specs.Limits.{endplate_causes, flange_limits}
use Rattle.limits.specs.Laws.{row_tests, row_more, row_idle}
use Rattle.limits.specs.declared.EndplateSheet.{EndplateSheet}
use Rattle.limits.specs.declared.BlindFlangeSheet.{BlindFlangeSheet}
use Rattle.rules.specs.Endplate.{endplate_thickness}
use Rattle.rules.specs.Figures.{endplate_figures, blind_flange_figures}
use Rattle.rules.specs.FlangeCauses.{bolts_causes, blind_flange_causes}
use Rattle.rules.specs.Answer.{from_plates, cause_of, report_of, endplate_unless, endplate_sizing, endplate_answer}
use Rattle.rules.specs.Answer.{blind_flange_unless, blind_flange_sizing, blind_flange_answer}
use Rattle.rules.specs.Answer.{Answer}
use Rattle.rules.specs.Answer.{Refused}
use Rattle.report.specs.Report.{report_text}
use Rattle.sheet.specs.Sheet.{Sheet, malformed, endplate, blind_flange, sheet_of, answered, answer_of}
use Rattle.sheet.specs.Outcome.{report_for}

-- ---- the answer to a sheet, from the first cause that applies

-- dia or od; a malformed sheet has none
abbrev diameter_of : Sheet → ℕ
diameter_of (malformed line) = 0
diameter_of (endplate s plates) = s.diameter
diameter_of (blind_flange s plates) = s.od

-- 2 to 13; 14 is with the plates
abbrev causes_of : Sheet → Causes
causes_of (malformed line) = []
causes_of (endplate s plates) = endplate_causes s
causes_of (blind_flange s plates) = blind_flange_causes s

-- this being the first cause, or 0 for none
abbrev answer_from : Sheet → ℕ → Answer
answer_from (malformed line) cause = Refused 1 line
answer_from (endplate s plates) cause = from_plates (endplate_unless cause (endplate_figures s)) plates
answer_from (blind_flange s plates) cause = from_plates (blind_flange_unless cause (blind_flange_figures s)) plates

present : (s : Sheet) → answer_from s (first_cause (causes_of s)) ≡ answered s
unfolding endplate_answer endplate_sizing blind_flange_answer blind_flange_sizing
present (malformed line) = refl
present (endplate s plates) = refl
present (blind_flange s plates) = refl

-- ---- with 20000 as the greatest diameter: a row more, by which 6 refuses over 20000 too

abbrev former_causes : Sheet → Causes
former_causes s = (6, ltb 20000 (diameter_of s) ∷ []) ∷ causes_of s

abbrev former_answer : Sheet → Answer
former_answer s = answer_from s (first_cause (former_causes s))

-- cause 6 is below 500, or over the greatest diameter: 30000 now, 20000 then
abbrev Six : Causes → ℕ → Sheet → Type 0
Six causes greatest s = let d = diameter_of s in any (tests_of causes 6) ≡ (ltb d 500 || ltb greatest d)

former_six : (s : Sheet) → Six (causes_of s) 30000 s → Six (former_causes s) 20000 s
former_six s now =
    let d = diameter_of s in
    row_tests 6 (ltb 20000 d ∷ []) (causes_of s) 6
    ∙ ap (λ (others : Bool). ltb 20000 d || others) now
    ∙ by_test (ltb d 500) (ltb 20000 d) (ltb 30000 d) (λ t. lt-ltb 20000 d (omega (arith, ltb-true 30000 d t)))
  where
    by_test : (a b c : Bool) → (c ≡ true → b ≡ true) → (b || (a || c)) ≡ (a || b)
    by_test true true c h = refl
    by_test true false c h = refl
    by_test false true c h = refl
    by_test false false true h = sym (h refl)
    by_test false false false h = refl

endplate_six : (s : EndplateSheet) (plates : List Plate) → Six (causes_of (endplate s plates)) 30000 (endplate s plates)
unfolding endplate_causes
endplate_six s plates = refl

flange_six : (s : BlindFlangeSheet) (plates : List Plate) → Six (causes_of (blind_flange s plates)) 30000 (blind_flange s plates)
unfolding blind_flange_causes flange_limits bolts_causes
flange_six s plates = refl

-- ---- what was no refusal 6 is kept

same_cause : (s : Sheet) → first_cause (former_causes s) ≡ first_cause (causes_of s) → former_answer s ≡ answered s
same_cause s e = ap (answer_from s) e ∙ present s

kept_if : (s : Sheet) → cause_of (answer_from s 6) ≡ 6 → cause_of (former_answer s) ≢ 6 → former_answer s ≡ answered s
kept_if s six n = same_cause s (row_more 6 _ (causes_of s) (λ e. n (ap (λ (k : ℕ). cause_of (answer_from s k)) e ∙ six)))

kept : (s : Sheet) → cause_of (former_answer s) ≢ 6 → former_answer s ≡ answered s
kept (malformed line) n = refl
kept (endplate s plates) n = kept_if (endplate s plates) refl n
kept (blind_flange s plates) n = kept_if (blind_flange s plates) refl n

-- of the numeric calls
endplate_kept :
    (s : EndplateSheet) (plates : List Plate) →
    let former = former_answer (endplate s plates) in
    cause_of former ≢ 6 → former ≡ endplate_answer s plates
endplate_kept s plates = kept (endplate s plates)

flange_kept :
    (s : BlindFlangeSheet) (plates : List Plate) →
    let former = former_answer (blind_flange s plates) in
    cause_of former ≢ 6 → former ≡ blind_flange_answer s plates
flange_kept s plates = kept (blind_flange s plates)

-- of texts, byte for byte
abbrev former_report : List ℕ → List ℕ
former_report text = report_text (former_answer (sheet_of text))

report_kept : (text : List ℕ) → cause_of (former_answer (sheet_of text)) ≢ 6 → former_report text ≡ report_for text
unfolding answer_of
report_kept text n = ap report_text (kept (sheet_of text) n)

-- ---- and so is every answer, a refusal 6 too, where both limits take the diameter or both refuse it

abbrev Alike : Sheet → Type 0
Alike s = ltb 20000 (diameter_of s) ≡ ltb 30000 (diameter_of s)

alike_if : (s : Sheet) → Six (causes_of s) 30000 s → Alike s → former_answer s ≡ answered s
alike_if s six e =
    let below = ltb (diameter_of s) 500 in
    same_cause s
    (row_idle 6 _ (causes_of s) (λ t. six ∙ ap (λ (over : Bool). below || over) (sym e ∙ t) ∙ or-true below))

alike_kept : (s : Sheet) → Alike s → former_answer s ≡ answered s
alike_kept (malformed line) e = refl
alike_kept (endplate s plates) e = alike_if (endplate s plates) (endplate_six s plates) e
alike_kept (blind_flange s plates) e = alike_if (blind_flange s plates) (flange_six s plates) e

report_alike : (text : List ℕ) → Alike (sheet_of text) → former_report text ≡ report_for text
unfolding answer_of
report_alike text e = ap report_text (alike_kept (sheet_of text) e)

-- ---- an end of 3,000 mm under 0.1 N/mm²: refused by 6 then, answered now

storage_end : EndplateSheet
storage_end = record {
  form = 2;
  material = 1;
  shell = 1;
  temperature = 100;
  pressure = 100;
  diameter = 30000;
  allowance = 100;
}

newly_answered :
    (former_answer (endplate storage_end (toleranced 0 5000 ∷ [])) ≡ Refused 6 0)
    × (report_of (endplate_answer storage_end (toleranced 0 5000 ∷ [])) ≡ 108 ∷ 4565 ∷ 4665 ∷ 5000 ∷ [])
unfolding storage_end column design_stress_of ceil_div whole_root_by least_root least_root_over endplate_stress endplate_thickness
    endplate_figures endplate_causes first_of endplate_sizing smallest_serving endplate_answer
newly_answered = (refl, refl)
