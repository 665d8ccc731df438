-- The definitions of a part's size by their cases: a refusal, and what follows where no cause applies. Assumes nothing.
use mathlib.Core.Path.{◌≡◌, refl, ap, ◌∙◌}
use mathlib.Core.Logic.{◌≢◌}
use mathlib.Core.Bool.{Bool, true, false, cond}
use mathlib.Core.List.{◌++◌}
use Prim.Native.Nat.{ℕ}
use borrow.Author.Tests.{eqb-true, eqb-false, ne_eqb}
use lib.Dec.{eqb}
use Rattle.limits.specs.Causes.{any, first_cause, tests_of, first_of, of_numbers, of_bolting, of_loads, of_plates}
use Rattle.limits.specs.Limits.{endplate_causes, flange_limits, bolting_limits}
use Rattle.limits.specs.declared.EndplateSheet.{EndplateSheet}
use Rattle.limits.specs.declared.BlindFlangeSheet.{BlindFlangeSheet}
use Rattle.limits.specs.Laws.{in_turn}
use Rattle.rules.specs.Loads.{gasket_of}
use Rattle.rules.specs.FlangeCauses.{bolts_causes, blind_flange_causes}
use Rattle.rules.specs.Figures.{endplate_figures, blind_flange_figures}
use Rattle.rules.specs.Answer.{refused_or, endplate_sizing, blind_flange_sizing}
use Rattle.rules.specs.declared.EndplateFigures.{EndplateFigures}
use Rattle.rules.specs.declared.BlindFlangeFigures.{BlindFlangeFigures}
use Rattle.rules.specs.Sizing.{Sizing}
use Rattle.rules.specs.Sizing.{Endplate, BlindFlange, Refused}

refused : (cause : ℕ) (sized : Sizing) → cause ≢ 0 → Refused cause ≡ refused_or cause sized
refused cause sized h = simp (ne_eqb cause 0 h)

-- a property that every refusal has holds of the whole, if of what is sized where no cause applies
pub by_cause :
    (P : Sizing → Type 0) →
    ((cause : ℕ) → cause ≢ 0 → P (Refused cause)) →
    (cause : ℕ) (sized : Sizing) →
    (cause ≡ 0 → P sized) →
    P (refused_or cause sized)
by_cause P r cause sized h = by_test (eqb cause 0) refl
  where
    by_test : (b : Bool) → eqb cause 0 ≡ b → P (cond b sized (Refused cause))
    by_test true e = h (eqb-true cause 0 e)
    by_test false e = r cause (eqb-false cause 0 e)

module _ (s : EndplateSheet) where
  pub endplate_refused :
      {cause : ℕ} → cause ≡ first_cause (endplate_causes s) → cause ≢ 0 → Refused cause ≡ endplate_sizing s
  unfolding endplate_sizing
  endplate_refused e h = rw (← e) (refused _ _ h)

  pub endplate_fits :
      {f : EndplateFigures} → 0 ≡ first_cause (endplate_causes s) → f ≡ endplate_figures s → Endplate f ≡ endplate_sizing s
  unfolding endplate_sizing
  endplate_fits e q = rw (q, ← e)

module _ (s : BlindFlangeSheet) where
  -- the steps: its numbers, its bolting, its loads
  abbrev limit : ℕ
  limit = first_cause (flange_limits s)

  abbrev bolting : ℕ
  bolting = first_cause (bolting_limits s (gasket_of s).reaction_diameter)

  abbrev pub overloaded : Bool
  overloaded = any (tests_of (blind_flange_causes s) 13)

  first :
      first_cause (blind_flange_causes s) ≡ cond (eqb limit 0) (cond (eqb bolting 0) (cond overloaded 13 0) bolting) limit
  unfolding first_of flange_limits bolting_limits bolts_causes blind_flange_causes
  first =
      let rest = of_loads ++ of_plates in
      in_turn of_numbers (of_bolting ++ rest) (blind_flange_causes s) tt
      ∙ ap (λ (k : ℕ). cond (eqb limit 0) k limit) (in_turn of_bolting rest (blind_flange_causes s) tt)

  -- the sheet's first cause, where its numbers are within their limits
  module _ (e : limit ≡ 0) where
    pub bolting_refused : {cause : ℕ} → cause ≡ bolting → cause ≢ 0 → cause ≡ first_cause (blind_flange_causes s)
    bolting_refused {cause} e' h = rw (first, e, ← e', ne_eqb cause 0 h)

    pub flange_overloaded : 0 ≡ bolting → overloaded ≡ true → 13 ≡ first_cause (blind_flange_causes s)
    flange_overloaded e' h = rw (first, e, ← e', h)

    pub no_cause : 0 ≡ bolting → overloaded ≡ false → 0 ≡ first_cause (blind_flange_causes s)
    no_cause e' h = rw (first, e, ← e', h)

  -- its size, by its first cause
  pub flange_refused :
      {cause : ℕ} → cause ≡ first_cause (blind_flange_causes s) → cause ≢ 0 → Refused cause ≡ blind_flange_sizing s
  unfolding blind_flange_sizing
  flange_refused e h = rw (← e) (refused _ _ h)

  pub limit_refused : {cause : ℕ} → cause ≡ limit → cause ≢ 0 → Refused cause ≡ blind_flange_sizing s
  limit_refused {cause} e h = flange_refused (rw (first, ← e, ne_eqb cause 0 h)) h

  pub flange_sized :
      {f : BlindFlangeFigures} →
      0 ≡ first_cause (blind_flange_causes s) →
      f ≡ blind_flange_figures s →
      BlindFlange f ≡ blind_flange_sizing s
  unfolding blind_flange_sizing
  flange_sized e q = rw (q, ← e)
