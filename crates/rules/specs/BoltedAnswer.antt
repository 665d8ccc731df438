-- The answer of a blind flange whose bolts are chosen (document 02, R-10), and document 01's numbers of it.
use Rattle.std.specs.Prelude.{ℕ, cond, List, [], ◌∷◌, ◌++◌, eqb, Option, Some, None, is_none, IsSomeAnd, Result, Ok, Err}
use Rattle.plates.specs.declared.Plate.{Plate}
use Rattle.limits.specs.Cause.{number_of}
use Rattle.limits.specs.Causes.{Causes, first_of, first_cause, of_numbers, of_plates}
use Rattle.limits.specs.Limits.{unbolted_limits}
use Rattle.limits.specs.Unbolted.{bolted, unchosen}
use Rattle.limits.specs.declared.unbolted.UnboltedSheet.{UnboltedSheet}
use Rattle.limits.specs.declared.unbolted.FlangeBolts.{FlangeBolts}
use Rattle.rules.specs.Figures.{blind_flange_figures}
use Rattle.rules.specs.Answer.{Answer, BlindFlange, Refused, cause_of, Accepted, blind_flange_answer, blind_flange_list}
use Rattle.rules.specs.Numbers.{no_plate_serves, figure_from, report_from}
use Rattle.rules.specs.Exact.{BlindFlangeSized}
use Rattle.rules.specs.BoltChoice.{bolts_taken}
use Rattle.rules.specs.declared.BlindFlangeFigures.{BlindFlangeFigures}
use Rattle.rules.specs.declared.BoltedSize.{BoltedSize}
use Rattle.rules.specs.declared.Refusal.{Refusal}

-- a blind flange's answer, and the bolts taken: none where it is refused
pub record BoltedAnswer : Type 0 where
  pub answer : Answer
  pub bolts : Option FlangeBolts

abbrev pub refused : ℕ → ℕ → BoltedAnswer
refused cause figure = record { answer = Refused cause figure; bolts = None }

-- what the call returns, in document 01's numbers
abbrev pub bolted_in_numbers : Result BoltedSize Refusal → BoltedAnswer
bolted_in_numbers (Ok b) = record { answer = BlindFlange b.figures b.plate; bolts = Some b.bolts }
bolted_in_numbers (Err r) = refused (number_of r.cause) r.figure

-- ---- the answer

-- the bolts are returned with what is accepted
abbrev pub with_bolts : FlangeBolts → Answer → BoltedAnswer
with_bolts b answer = record { answer = answer; bolts = cond (eqb (cause_of answer) 0) (Some b) None }

-- the blind flange answered with the bolts taken; 24 where there are none
abbrev pub answered_with : UnboltedSheet → List Plate → Option FlangeBolts → BoltedAnswer
answered_with s plates (Some b) = with_bolts b (blind_flange_answer (bolted s b) plates)
answered_with s plates None = refused 24 0

unfoldable pub bolted_answer : UnboltedSheet → List ℕ → List ℕ → List Plate → BoltedAnswer
bolted_answer s diameters areas plates =
    let cause = first_cause (unbolted_limits s) in
    cond (eqb cause 0) (answered_with s plates (bolts_taken s diameters areas)) (refused cause 0)

-- ---- document 01's numbers, straight from what the call is given

-- checking order: 24 where 13 would be checked; 10, 12 and 13 are not given
abbrev pub unbolted_order : List ℕ
unbolted_order = of_numbers ++ 11 ∷ 24 ∷ of_plates

-- the bolts whose figures these are; no call shows those of none
abbrev pub or_unchosen : Option FlangeBolts → FlangeBolts
or_unchosen (Some b) = b
or_unchosen None = unchosen

abbrev pub bolted_figures : UnboltedSheet → List ℕ → List ℕ → BlindFlangeFigures
bolted_figures s diameters areas = blind_flange_figures (bolted s (or_unchosen (bolts_taken s diameters areas)))

-- 24: no bolts are taken
abbrev pub unbolted_causes : UnboltedSheet → List ℕ → List ℕ → List Plate → Causes
unbolted_causes s diameters areas plates =
    unbolted_limits s
    ++ (24, is_none (bolts_taken s diameters areas) ∷ [])
    ∷ (14, no_plate_serves (bolted_figures s diameters areas).total plates)
    ∷ []

unfoldable pub bolted_cause : UnboltedSheet → List ℕ → List ℕ → List Plate → ℕ
bolted_cause s diameters areas plates = first_of unbolted_order (unbolted_causes s diameters areas plates)

unfoldable pub bolted_figure : UnboltedSheet → List ℕ → List ℕ → List Plate → ℕ
bolted_figure s diameters areas plates =
    figure_from (bolted_cause s diameters areas plates) (bolted_figures s diameters areas).total

unfoldable pub bolted_report : UnboltedSheet → List ℕ → List ℕ → List Plate → List ℕ
bolted_report s diameters areas plates =
    let f = bolted_figures s diameters areas in
    report_from (bolted_cause s diameters areas plates) (blind_flange_list f) f.total plates

-- bolt, root, count
abbrev pub bolts_list : Option FlangeBolts → List ℕ
bolts_list (Some b) = b.bolt ∷ b.root ∷ b.count ∷ []
bolts_list None = []

-- those taken, where nothing is refused
unfoldable pub bolted_bolts : UnboltedSheet → List ℕ → List ℕ → List Plate → List ℕ
bolted_bolts s diameters areas plates =
    cond (eqb (bolted_cause s diameters areas plates) 0) (bolts_list (bolts_taken s diameters areas)) []

-- ---- demand 3, over the bolts taken: what is accepted has bolts, and a need and an edge that are exact with them

abbrev pub BoltedExact : UnboltedSheet → BoltedAnswer → Type 0
BoltedExact s a = Accepted a.answer → IsSomeAnd a.bolts (λ b. BlindFlangeSized (bolted s b) a.answer)
