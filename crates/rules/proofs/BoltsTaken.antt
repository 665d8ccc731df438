-- With the bolts taken from a list of sizes no cause applies to a flange whose other numbers are within their limits. Assumes
-- nothing.
use mathlib.Core.Path.{◌≡◌, refl, ◌∙◌}
use mathlib.Core.Bool.{Bool, true, false, cond, and-eq-true_iff}
use mathlib.Core.List.{List, ◌++◌}
use Prim.Native.Nat.{ℕ}
use native.Mathlib.Omega.{arith}
use borrow.Author.Tests.{eqb-true}
use Rattle.std.specs.Prelude.{Some}
use Rattle.limits.specs.Causes.{any, tests_of, first_of, first_cause, of_numbers, of_bolting, of_loads, of_plates}
use Rattle.limits.specs.Limits.{flange_limits, bolt_stress_limits, unbolted_limits}
use Rattle.limits.specs.Laws.{in_turn, none_of_both}
use Rattle.limits.specs.Unbolted.{bolted, flange_of}
use Rattle.limits.specs.declared.BlindFlangeSheet.{BlindFlangeSheet}
use Rattle.limits.specs.declared.unbolted.UnboltedSheet.{UnboltedSheet}
use Rattle.limits.specs.declared.unbolted.FlangeBolts.{FlangeBolts}
use Rattle.rules.proofs.Laws.FirstFitting.{taken_first}
use Rattle.rules.specs.FlangeCauses.{bolts_causes, blind_flange_causes}
use Rattle.rules.specs.BoltChoice.{fits, bolts_taken}

-- ---- of a flange whose other numbers are within their limits

module _ (s : BlindFlangeSheet) (within : first_cause (flange_limits s) ≡ 0) (stresses : first_cause (bolt_stress_limits s) ≡ 0)
  where
    -- 11 does not apply
    stresses_pass : any (tests_of (blind_flange_causes s) 11) ≡ false
    unfolding first_of flange_limits bolts_causes blind_flange_causes
    stresses_pass = by_test (any (tests_of (bolt_stress_limits s) 11)) stresses
      where
        by_test : (b : Bool) → ◌≡◌ {A = ℕ} (cond b 11 0) 0 → b ≡ false
        by_test true e = absurd (omega (arith, e))
        by_test false e = refl

    -- so the first cause is the first of the bolts' own
    pub bolts_alone : first_cause (blind_flange_causes s) ≡ first_cause (bolts_causes s s.bolt s.root s.count)
    unfolding first_of flange_limits bolts_causes blind_flange_causes
    bolts_alone =
        in_turn of_numbers (of_bolting ++ of_loads ++ of_plates) (blind_flange_causes s) tt ∙ rw (within, stresses_pass)

-- ---- of a flange whose bolts are chosen

module _ (s : UnboltedSheet) (limits : first_cause (unbolted_limits s) ≡ 0) where
  -- its limits are those of the flange with any bolts
  pub within_limits : (first_cause (flange_limits (flange_of s)) ≡ 0) × (first_cause (bolt_stress_limits (flange_of s)) ≡ 0)
  unfolding first_of flange_limits unbolted_limits
  within_limits =
      let p = none_of_both of_numbers (of_bolting ++ of_loads ++ of_plates) (unbolted_limits s) tt limits in
      (p.0, p.1)

  pub bolted_within :
      (b : FlangeBolts) →
      (first_cause (flange_limits (bolted s b)) ≡ 0) × (first_cause (bolt_stress_limits (bolted s b)) ≡ 0)
  unfolding flange_limits
  bolted_within b = within_limits

  module _ (diameters areas : List ℕ) where
    -- with the bolts taken no cause applies
    pub taken_unrefused :
        {b : FlangeBolts} → bolts_taken s diameters areas ≡ Some b → first_cause (blind_flange_causes (bolted s b)) ≡ 0
    unfolding fits
    taken_unrefused {b} e =
        let w = bolted_within b in
        bolts_alone (bolted s b) w.0 w.1 ∙ eqb-true _ _ ((and-eq-true_iff _ _).0 (taken_first s diameters areas e).passes).0
