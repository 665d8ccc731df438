-- The answer of a blind flange whose bolts are chosen: its numbers, and demand 3. Assumes nothing.
use mathlib.Core.Path.{◌≡◌, refl, sym, subst, ◌∙◌}
use mathlib.Core.Logic.{◌≢◌}
use mathlib.Core.Bool.{Bool, true, false, cond}
use mathlib.Core.List.{List, [], ◌∷◌, ◌++◌}
use Prim.Native.Nat.{ℕ}
use native.Mathlib.Omega.{arith}
use borrow.Author.Tests.{eqb-true, eqb-false, ne_eqb}
use lib.Dec.{eqb}
use Rattle.std.specs.Prelude.{Option, Some, None, is_none}
use Rattle.plates.specs.declared.Plate.{Plate}
use Rattle.limits.specs.Causes.{any, first_of, first_cause, of_numbers, of_bolting, of_loads, of_plates}
use Rattle.limits.specs.Limits.{flange_limits, unbolted_limits}
use Rattle.limits.specs.Laws.{in_turn, not_among}
use Rattle.limits.specs.Unbolted.{bolted}
use Rattle.limits.specs.declared.unbolted.UnboltedSheet.{UnboltedSheet}
use Rattle.limits.specs.declared.unbolted.FlangeBolts.{FlangeBolts}
use Rattle.rules.specs.FlangeCauses.{blind_flange_causes}
use Rattle.rules.specs.Figures.{blind_flange_figures}
use Rattle.rules.specs.Answer.{Answer, Refused, cause_of, blind_flange_answer, blind_flange_list}
use Rattle.rules.specs.Numbers.{no_plate_serves, blind_flange_cause, blind_flange_figure, blind_flange_report}
use Rattle.rules.specs.Numbers.{figure_from, report_from}
use Rattle.rules.specs.BoltChoice.{bolts_taken}
use Rattle.rules.specs.BoltedAnswer.{BoltedAnswer, refused, with_bolts, answered_with, bolted_answer, unbolted_causes}
use Rattle.rules.specs.declared.BlindFlangeFigures.{BlindFlangeFigures}
use Rattle.rules.specs.BoltedAnswer.{or_unchosen, bolted_cause, bolted_figure, bolted_report, bolts_list}
use Rattle.rules.specs.BoltedAnswer.{bolted_bolts, BoltedExact}
use Rattle.rules.proofs.AnswerInNumbers.{Told, flange_last, flange_numbers}
use Rattle.rules.proofs.AnswersExact.{flange_exact}
use Rattle.rules.proofs.BoltsTaken.{taken_unrefused}

-- the numbers of an answer
abbrev pub BoltedTold : ℕ → ℕ → List ℕ → List ℕ → BoltedAnswer → Type 0
BoltedTold cause figure report bolts a = Told cause figure report a.answer × (bolts_list a.bolts ≡ bolts)

module _ (s : UnboltedSheet) (diameters areas : List ℕ) (plates : List Plate) where
  abbrev limit : ℕ
  limit = first_cause (unbolted_limits s)

  abbrev figures : Option FlangeBolts → BlindFlangeFigures
  figures bolts = blind_flange_figures (bolted s (or_unchosen bolts))

  -- what is looked for where the limits are kept: 24, then 14
  abbrev no_plate : Option FlangeBolts → Bool
  no_plate bolts = any (no_plate_serves (figures bolts).total plates)

  abbrev last : Option FlangeBolts → ℕ
  last bolts = cond (is_none bolts) 24 (cond (no_plate bolts) 14 0)

  cause : bolted_cause s diameters areas plates ≡ cond (eqb limit 0) (last (bolts_taken s diameters areas)) limit
  unfolding first_of bolted_cause unbolted_limits flange_limits
  cause = in_turn (of_numbers ++ 11 ∷ []) (24 ∷ of_plates) (unbolted_causes s diameters areas plates) tt

  limit_not_14 : limit ≢ 14
  unfolding first_of unbolted_limits flange_limits
  limit_not_14 = not_among 14 (of_numbers ++ of_bolting ++ of_loads) (unbolted_limits s) (λ e. omega arith) tt

  -- of bolts with which no cause applies, or of none
  abbrev Unrefused : Option FlangeBolts → Type 0
  Unrefused bolts = (b : FlangeBolts) → bolts ≡ Some b → first_cause (blind_flange_causes (bolted s b)) ≡ 0

  -- from the cause k, what the numbers are with these bolts
  abbrev Numbered : ℕ → Option FlangeBolts → BoltedAnswer → Type 0
  Numbered k bolts =
      BoltedTold
      k (figure_from k (figures bolts).total) (report_from k (blind_flange_list (figures bolts)) (figures bolts).total plates)
      (cond (eqb k 0) (bolts_list bolts) [])

  with_these :
      (b : FlangeBolts) →
      first_cause (blind_flange_causes (bolted s b)) ≡ 0 →
      Numbered (last (Some b)) (Some b) (with_bolts b (blind_flange_answer (bolted s b) plates))
  unfolding blind_flange_cause blind_flange_figure blind_flange_report
  with_these b e =
      let k : blind_flange_cause (bolted s b) plates ≡ last (Some b) = (flange_last (bolted s b) (no_plate (Some b))).0 ∙ rw e in
      let told = rw k at (flange_numbers (bolted s b) plates) in
      let shown :
      bolts_list (cond (eqb (cause_of (blind_flange_answer (bolted s b) plates)) 0) (Some b) None)
      ≡ cond (eqb (last (Some b)) 0) (bolts_list (Some b)) [] =
      rw told.0 (by_plate (no_plate (Some b))) in
      (told, shown)
    where
      by_plate :
          (t : Bool) →
          bolts_list (cond (eqb (cond t 14 0) 0) (Some b) None) ≡ cond (eqb (cond t 14 0) 0) (bolts_list (Some b)) []
      by_plate true = refl
      by_plate false = refl

  by_taken : (bolts : Option FlangeBolts) → Unrefused bolts → Numbered (last bolts) bolts (answered_with s plates bolts)
  by_taken (Some b) h = with_these b (h b refl)
  by_taken None h = ((refl, refl, refl), refl)

  pub bolted_numbers :
      BoltedTold
      (bolted_cause s diameters areas plates) (bolted_figure s diameters areas plates)
      (bolted_report s diameters areas plates) (bolted_bolts s diameters areas plates)
      (bolted_answer s diameters areas plates)
  unfolding bolted_answer bolted_figure bolted_report bolted_bolts
  bolted_numbers = rw cause (by_limit (eqb limit 0) refl)
    where
      by_limit :
          (b : Bool) →
          eqb limit 0 ≡ b →
          Numbered
          (cond b (last (bolts_taken s diameters areas)) limit) (bolts_taken s diameters areas)
          (cond b (answered_with s plates (bolts_taken s diameters areas)) (refused limit 0))
      by_limit true z = by_taken _ (λ b e. taken_unrefused s (eqb-true _ _ z) diameters areas e)
      by_limit false z = ((refl, rw (ne_eqb limit 14 limit_not_14), rw z), rw z)

  -- ---- demand 3

  exact_with : (bolts : Option FlangeBolts) → BoltedExact s (answered_with s plates bolts)
  exact_with (Some b) z = rw z (flange_exact (bolted s b) plates z)
  exact_with None z = absurd (omega (arith, z))

  pub bolted_exact : BoltedExact s (bolted_answer s diameters areas plates)
  unfolding bolted_answer
  bolted_exact = by_limit (eqb limit 0) refl
    where
      by_limit :
          (b : Bool) →
          eqb limit 0 ≡ b →
          BoltedExact s (cond b (answered_with s plates (bolts_taken s diameters areas)) (refused limit 0))
      by_limit true e z = exact_with (bolts_taken s diameters areas) z
      by_limit false e z = absurd (eqb-false _ _ e z)

  -- ---- the clauses of the contract

  abbrev pub BoltedPromised : BoltedAnswer → Type 0
  BoltedPromised r =
      (r ≡ bolted_answer s diameters areas plates)
      × (BoltedTold
      (bolted_cause s diameters areas plates) (bolted_figure s diameters areas plates)
      (bolted_report s diameters areas plates) (bolted_bolts s diameters areas plates) r
      × BoltedExact s r)

  pub bolted_promised : {r : BoltedAnswer} → r ≡ bolted_answer s diameters areas plates → BoltedPromised r
  bolted_promised e = subst BoltedPromised (sym e) (refl, (bolted_numbers, bolted_exact))

  -- ---- the answer by its cases

  pub unbolted_refused : {cause : ℕ} → cause ≡ limit → cause ≢ 0 → refused cause 0 ≡ bolted_answer s diameters areas plates
  unfolding bolted_answer
  unbolted_refused {cause} e h = rw (← e, ne_eqb cause 0 h)

  module _ (e : 0 ≡ limit) where
    pub none_refused : None ≡ bolts_taken s diameters areas → refused 24 0 ≡ bolted_answer s diameters areas plates
    unfolding bolted_answer
    none_refused q = rw (← e, ← q)

    pub taken_answered :
        (b : FlangeBolts) {answer : Answer} →
        Some b ≡ bolts_taken s diameters areas →
        answer ≡ blind_flange_answer (bolted s b) plates →
        with_bolts b answer ≡ bolted_answer s diameters areas plates
    unfolding bolted_answer
    taken_answered b q a = rw (← e, ← q, a)

    pub taken_refused :
        (b : FlangeBolts) {cause figure : ℕ} →
        Some b ≡ bolts_taken s diameters areas →
        cause ≢ 0 →
        Refused cause figure ≡ blind_flange_answer (bolted s b) plates →
        refused cause figure ≡ bolted_answer s diameters areas plates
    taken_refused b {cause} {figure} q h a =
        let k : refused cause figure ≡ with_bolts b (Refused cause figure) = rw (ne_eqb cause 0 h) in
        k ∙ taken_answered b q a
