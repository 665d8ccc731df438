-- Loads to a tenth of a newton (R-7): what becomes of the answers that loads in whole newtons gave. No thickness, total or
-- plate rises, and bolts may carry that did not. Assumes nothing.
use Rattle.std.proofs.Common.{◌≡◌, ℕ, ◌≤◌, Bool, true, false, cond, T, eqb, ◌≢◌, ◌⊎◌, List, [], ◌∷◌, ◌++◌, sym, refl, ap, subst, inl, inr, arith}
use borrow.Author.Tests.{eqb-false}
use Rattle.tables.specs.DesignStress.{column, design_stress_of}
use Rattle.root.specs.Root.{ceil_div, whole_root_by, least_root, least_root_over}
use Rattle.plates.specs.declared.Plate.{Plate}
use Rattle.plates.specs.Plates.{smallest_serving, toleranced, Serves, Smallest, Chosen}
use Rattle.plates.proofs.Laws.{smallest, listed}
use Rattle.std.specs.Prelude.{Option, Some, None}
use Rattle.limits.specs.Causes.{of_numbers, of_bolting, of_loads, of_plates, first_of, first_cause}
use Rattle.limits.specs.Limits.{flange_limits}
use Rattle.limits.specs.Laws.{in_turn, not_among}
use Rattle.limits.specs.declared.BlindFlangeSheet.{BlindFlangeSheet}
use Rattle.rules.specs.Gasket.{wide_width, effective_width_of, reaction_diameter_of}
use Rattle.rules.specs.Loads.{exact_operating_load, exact_seating_load, operating_load_of, seating_load_of, flange_load_of, gasket_of}
use Rattle.rules.specs.Bolts.{bolts_sufficient}
use Rattle.rules.specs.BlindFlange.{flange_thickness, edge_under}
use Rattle.rules.specs.Figures.{blind_flange_figures}
use Rattle.rules.specs.FlangeCauses.{bolts_causes, blind_flange_causes}
use Rattle.rules.specs.Answer.{with_plate, from_plates, Accepted, cause_of, figure_of, report_of, endplate_answer}
use Rattle.rules.specs.Answer.{blind_flange_unless, blind_flange_sizing, blind_flange_answer}
use Rattle.rules.specs.declared.BlindFlangeFigures.{BlindFlangeFigures}
use Rattle.rules.specs.Answer.{Answer}
use Rattle.rules.specs.Answer.{Endplate, BlindFlange, Refused}
use Rattle.report.specs.Report.{report_text}
use Rattle.sheet.specs.Sheet.{Sheet, malformed, endplate, blind_flange, sheet_of, answered, answer_of}
use Rattle.sheet.specs.Outcome.{report_for}
use Rattle.capi.specs.Call.{blind_flange_call}
use Rattle.cases.proofs.OtherLoads.{causes_with}
use Rattle.cases.proofs.WholeNewtons.{former_sufficient, former_figures, former_answer, Falls, figures_fall, UnderANewton}
use Rattle.cases.proofs.WholeNewtons.{sufficient, still_sufficient, under_a_newton}

-- ---- answer by answer

-- accepted both, the figures as above and the plate's thickness not above the former
abbrev pub Lower : Answer → Answer → Type 0
Lower (BlindFlange f plate) (BlindFlange f' plate') = Falls f f' × (plate.thickness ≤ plate'.thickness)
Lower (BlindFlange f plate) (Endplate f' plate') = ⊥
Lower (BlindFlange f plate) (Refused cause' figure') = ⊥
Lower (Endplate f plate) former = ⊥
Lower (Refused cause figure) former = ⊥

-- a choice not above a plate, by thickness; where none is chosen this holds of no plate
abbrev NotAbove : Option Plate → Plate → Type 0
NotAbove (Some chosen) plate = chosen.thickness ≤ plate.thickness
NotAbove None plate = ⊥

-- what becomes of a former answer
pub record NeverRises (s : BlindFlangeSheet) (former now : Answer) : Type 0 where
  -- one that was accepted is accepted
  pub accepted : Accepted former → Lower now former
  -- one refused with 14 is accepted, or refused with 14 and a total not above the former
  pub no_plate : cause_of former ≡ 14 → Accepted now ⊎ ((cause_of now ≡ 14) × (figure_of now ≤ figure_of former))
  -- one refused with 13 and no more is accepted or refused with 14, and was short by less than 1 N
  pub carried : cause_of former ≡ 13 → cause_of now ≢ 13 → (Accepted now ⊎ (cause_of now ≡ 14)) × UnderANewton s
  -- one refused with 13 still, or by any other cause, keeps its refusal
  pub overloaded : cause_of former ≡ 13 → cause_of now ≡ 13 → now ≡ former
  pub refused : cause_of former ≢ 0 → cause_of former ≢ 13 → cause_of former ≢ 14 → now ≡ former

-- the same refusal
unchanged : (s : BlindFlangeSheet) (cause : ℕ) → cause ≢ 0 → cause ≢ 14 → NeverRises s (Refused cause 0) (Refused cause 0)
unchanged s cause some none = record {
  accepted = λ e. absurd (some e);
  no_plate = λ e. absurd (none e);
  carried = λ e n. absurd (n e);
  overloaded = λ e e'. refl;
  refused = λ n n' n''. refl;
}

module _ (s : BlindFlangeSheet) (plates : List Plate) where
  -- these figures, no cause before 14 applying
  abbrev chosen : BlindFlangeFigures → Option Plate → Answer
  chosen f choice = with_plate (blind_flange_unless 0 f) choice

  -- both with the plate still to choose
  both :
      (f f' : BlindFlangeFigures) →
      Falls f f' →
      (choice choice' : Option Plate) →
      ((plate : Plate) → choice' ≡ Some plate → NotAbove choice plate) →
      NeverRises s (chosen f' choice') (chosen f choice)
  both f f' falls (Some plate) (Some plate') below = record {
    accepted = λ e. (falls, below plate' refl);
    no_plate = λ e. absurd (omega (arith, e));
    carried = λ e. absurd (omega (arith, e));
    overloaded = λ e. absurd (omega (arith, e));
    refused = λ n. absurd (n refl);
  }
  both f f' falls None (Some plate') below = absurd (below plate' refl)
  both f f' falls (Some plate) None below = record {
    accepted = λ e. absurd (omega (arith, e));
    no_plate = λ e. inl refl;
    carried = λ e. absurd (omega (arith, e));
    overloaded = λ e. absurd (omega (arith, e));
    refused = λ n n' n''. absurd (n'' refl);
  }
  both f f' falls None None below = record {
    accepted = λ e. absurd (omega (arith, e));
    no_plate = λ e. inr (refl, falls.total);
    carried = λ e. absurd (omega (arith, e));
    overloaded = λ e. absurd (omega (arith, e));
    refused = λ n n' n''. absurd (n'' refl);
  }

  -- a lower total's choice is not above the choice of a higher one
  not_above :
      (total total' : ℕ) →
      total ≤ total' →
      (plate : Plate) →
      smallest_serving total' plates ≡ Some plate →
      NotAbove (smallest_serving total plates) plate
  not_above total total' h plate e = by_choice (smallest_serving total plates) (smallest total plates)
    where
      chosen_then : Smallest total' plates plate
      chosen_then = rw e at (smallest total' plates)

      serves_now : Serves total plate
      serves_now = let serving = chosen_then.serving in (serving.0, omega (arith, h, serving.1))

      by_choice : (choice : Option Plate) → Chosen total plates choice → NotAbove choice plate
      by_choice (Some chosen) c = c.least plate (listed total' chosen_then) serves_now
      by_choice None c = absurd (c plate (listed total' chosen_then) serves_now)

  -- 13 before, none of 2 to 13 now
  newly_sufficient : (f : BlindFlangeFigures) → UnderANewton s → (choice : Option Plate) → NeverRises s (Refused 13 0) (chosen f choice)
  newly_sufficient f short choice = record {
    accepted = λ e. absurd (omega (arith, e));
    no_plate = λ e. absurd (omega (arith, e));
    carried = λ e n. (answered_or_14 choice, short);
    overloaded = λ e e'. absurd (not_13 choice e');
    refused = λ n n'. absurd (n' refl);
  }
    where
      answered_or_14 : (choice : Option Plate) → Accepted (chosen f choice) ⊎ (cause_of (chosen f choice) ≡ 14)
      answered_or_14 (Some plate) = inl refl
      answered_or_14 None = inr refl

      not_13 : (choice : Option Plate) → cause_of (chosen f choice) ≢ 13
      not_13 (Some plate) e = omega (arith, e)
      not_13 None e = omega (arith, e)

  -- ---- the first cause, with bolts that carry and with bolts that do not

  -- of 2 to 12 and 17; what the bolts carry has no part in it
  abbrev limit : ℕ
  limit = first_of (of_numbers ++ of_bolting) (causes_with s true)

  first : (carry : Bool) → first_cause (causes_with s carry) ≡ cond (eqb limit 0) (cond carry 0 13) limit
  unfolding first_of flange_limits
  first true = in_turn (of_numbers ++ of_bolting) (of_loads ++ of_plates) (causes_with s true) tt
  first false = in_turn (of_numbers ++ of_bolting) (of_loads ++ of_plates) (causes_with s false) tt

  abbrev answer_from : ℕ → BlindFlangeFigures → Answer
  answer_from cause f = from_plates (blind_flange_unless cause f) plates

  by_bolts :
      (f f' : BlindFlangeFigures) →
      Falls f f' →
      (carry carry' : Bool) →
      (carry' ≡ true → carry ≡ true) →
      (carry ≡ true → UnderANewton s) →
      NeverRises s (answer_from (cond carry' 0 13) f') (answer_from (cond carry 0 13) f)
  by_bolts f f' falls true true on short =
      both f f' falls (smallest_serving f.total plates) (smallest_serving f'.total plates)
      (not_above f.total f'.total falls.total)
  by_bolts f f' falls true false on short = newly_sufficient f (short refl) (smallest_serving f.total plates)
  by_bolts f f' falls false true on short = absurd (subst T (sym (on refl)) tt)
  by_bolts f f' falls false false on short = unchanged s 13 (λ e. omega (arith, e)) (λ e. omega (arith, e))

  module _
      (f f' : BlindFlangeFigures)
      (falls : Falls f f')
      (carry carry' : Bool)
      (on : carry' ≡ true → carry ≡ true)
      (short : carry ≡ true → UnderANewton s) where
    by_limit :
        (none : Bool) →
        eqb limit 0 ≡ none →
        NeverRises s (answer_from (cond none (cond carry' 0 13) limit) f') (answer_from (cond none (cond carry 0 13) limit) f)
    by_limit true e = by_bolts f f' falls carry carry' on short
    by_limit false e =
        rw e
        (unchanged s limit (eqb-false limit 0 e)
        (not_among 14 (of_numbers ++ of_bolting) (causes_with s true) (λ z. omega (arith, z)) tt))

    by_cause :
        NeverRises s
        (answer_from (first_cause (causes_with s carry')) f')
        (answer_from (first_cause (causes_with s carry)) f)
    by_cause = rw (first carry, first carry') (by_limit (eqb limit 0) refl)

  pub never_rises : NeverRises s (former_answer s plates) (blind_flange_answer s plates)
  unfolding blind_flange_answer blind_flange_sizing blind_flange_causes bolts_causes gasket_of flange_limits
  never_rises =
      by_cause (blind_flange_figures s) (former_figures s) (figures_fall s)
      (sufficient s) (former_sufficient s) (still_sufficient s) (under_a_newton s)

-- ---- of texts

abbrev pub former_answered : Sheet → Answer
former_answered (malformed line) = Refused 1 line
former_answered (endplate s plates) = endplate_answer s plates
former_answered (blind_flange s plates) = former_answer s plates

pub text_never_rises :
    (text : List ℕ) (s : BlindFlangeSheet) (plates : List Plate) →
    sheet_of text ≡ blind_flange s plates →
    NeverRises s (former_answered (sheet_of text)) (answer_of text)
unfolding answer_of
text_never_rises text s plates e = rw e (never_rises s plates)

-- a malformed sheet, an endplate, and a blind flange refused by another cause than 13 and 14
abbrev pub Unmoved : Sheet → Type 0
Unmoved (malformed line) = Unit
Unmoved (endplate s plates) = Unit
Unmoved (blind_flange s plates) =
    let cause = cause_of (former_answer s plates) in
    (cause ≢ 0) × (cause ≢ 13) × (cause ≢ 14)

unmoved : (s : Sheet) → Unmoved s → former_answered s ≡ answered s
unmoved (malformed line) u = refl
unmoved (endplate s plates) u = refl
unmoved (blind_flange s plates) u = sym ((never_rises s plates).refused u.0 u.1 u.2)

-- keeps its report, byte for byte
pub report_kept : (text : List ℕ) → Unmoved (sheet_of text) → report_text (former_answered (sheet_of text)) ≡ report_for text
unfolding answer_of
report_kept text u = ap report_text (unmoved (sheet_of text) u)

-- ---- and it happens

-- a light cover on four bolts, which carry 15562.8 N; numbers in the order of the sheet's lines. Wm1 is 15562.7 N, which was
-- 15563 N
light_cover : BlindFlangeSheet
light_cover = blind_flange_call 1 150 200 100 3150 100 0 0 50 14 3450 16 1441 4 54 27

newly_carried :
    (former_answer light_cover (toleranced 0 1000 ∷ []) ≡ Refused 13 0)
    × (report_of (blind_flange_answer light_cover (toleranced 0 1000 ∷ []))
    ≡ 108 ∷ 108 ∷ 3050 ∷ 500 ∷ 155627 ∷ 67039 ∷ 311255 ∷ 835 ∷ 601 ∷ 935 ∷ 1000 ∷ [])
unfolding light_cover column design_stress_of ceil_div whole_root_by least_root least_root_over wide_width effective_width_of
    reaction_diameter_of exact_operating_load exact_seating_load operating_load_of seating_load_of flange_load_of gasket_of bolts_sufficient
    flange_thickness edge_under blind_flange_figures first_of flange_limits bolts_causes blind_flange_causes blind_flange_sizing
    smallest_serving blind_flange_answer
newly_carried = (refl, refl)

-- a small cover under little pressure: need, edge, total and plate fall, and a list that had no plate has one
small_cover : BlindFlangeSheet
small_cover = blind_flange_call 1 100 20 0 1000 100 0 0 50 0 1300 12 763 4 10 10

thinner :
    (report_of (former_answer small_cover (toleranced 0 251 ∷ toleranced 0 300 ∷ []))
    ≡ 108 ∷ 108 ∷ 900 ∷ 500 ∷ 156 ∷ 0 ∷ 1604 ∷ 104 ∷ 252 ∷ 252 ∷ 300 ∷ [])
    × (report_of (blind_flange_answer small_cover (toleranced 0 251 ∷ toleranced 0 300 ∷ []))
    ≡ 108 ∷ 108 ∷ 900 ∷ 500 ∷ 1555 ∷ 0 ∷ 16038 ∷ 103 ∷ 251 ∷ 251 ∷ 251 ∷ [])
    × (former_answer small_cover (toleranced 0 251 ∷ []) ≡ Refused 14 252)
    × (cause_of (blind_flange_answer small_cover (toleranced 0 251 ∷ [])) ≡ 0)
unfolding small_cover column design_stress_of ceil_div whole_root_by least_root least_root_over wide_width effective_width_of
    reaction_diameter_of exact_operating_load exact_seating_load operating_load_of seating_load_of flange_load_of gasket_of bolts_sufficient
    flange_thickness edge_under blind_flange_figures first_of flange_limits bolts_causes blind_flange_causes blind_flange_sizing
    smallest_serving blind_flange_answer
thinner = (refl, refl, refl, refl)
