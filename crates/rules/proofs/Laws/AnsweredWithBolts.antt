-- Laws for callers: a blind flange whose bolts are chosen is answered as with the bolts taken. Assumes nothing.
use mathlib.Core.Path.{◌≡◌, refl, sym, ◌∙◌}
use mathlib.Core.Logic.{◌≢◌}
use mathlib.Core.Bool.{Bool, true, false, not, cond}
use mathlib.Core.List.{List}
use Prim.Native.Nat.{ℕ}
use native.Mathlib.Omega.{arith}
use borrow.Author.Tests.{eqb-true}
use lib.Dec.{eqb}
use Rattle.std.specs.Prelude.{Option, Some, None, T}
use Rattle.tables.specs.TableRule.{every}
use Rattle.plates.specs.declared.Plate.{Plate}
use Rattle.limits.specs.Causes.{first_cause}
use Rattle.limits.specs.Limits.{unbolted_limits}
use Rattle.limits.specs.Laws.{not_among}
use Rattle.limits.specs.Unbolted.{bolted}
use Rattle.limits.specs.declared.unbolted.UnboltedSheet.{UnboltedSheet}
use Rattle.limits.specs.declared.unbolted.FlangeBolts.{FlangeBolts}
use Rattle.rules.specs.Answer.{cause_of, blind_flange_answer}
use Rattle.rules.specs.FlangeCauses.{blind_flange_causes}
use Rattle.rules.specs.BoltChoice.{bolts_fit, pairs, bolts_taken, First}
use Rattle.rules.specs.BoltedAnswer.{answered_with, refused, bolted_answer, bolted_cause, unbolted_order, unbolted_causes}
use Rattle.rules.proofs.Laws.FirstFitting.{taken_first}
use Rattle.rules.proofs.BoltsTaken.{taken_unrefused}
use Rattle.rules.proofs.BoltedNumbers.{bolted_numbers}

module _ (s : UnboltedSheet) (diameters areas : List ℕ) (plates : List Plate) where
  -- where a pair is taken: the figures and the plate are those of the blind flange with it, with which none of the causes
  -- 2 to 13 and 17 applies, and it is the first
  pub record Taken (b : FlangeBolts) : Type 0 where
    pub answer : (bolted_answer s diameters areas plates).answer ≡ blind_flange_answer (bolted s b) plates
    pub unrefused : first_cause (blind_flange_causes (bolted s b)) ≡ 0
    pub first : First (bolts_fit s) (pairs diameters areas) b

  pub taken : {b : FlangeBolts} → first_cause (unbolted_limits s) ≡ 0 → bolts_taken s diameters areas ≡ Some b → Taken b
  unfolding bolted_answer
  taken limits e = record {
    answer = rw (limits, e);
    unrefused = taken_unrefused s limits diameters areas e;
    first = taken_first s diameters areas e;
  }

  -- so of the bolts that are returned
  pub returned : {b : FlangeBolts} → (bolted_answer s diameters areas plates).bolts ≡ Some b → Taken b
  unfolding bolted_answer
  returned {b} e =
      by_limits (eqb (first_cause (unbolted_limits s)) 0) refl (bolts_taken s diameters areas) refl e
    where
      by_answer : (ok : Bool) (b' : FlangeBolts) → cond ok (Some b') None ≡ Some b → Some b' ≡ Some b
      by_answer true b' q = q
      by_answer false b' q = cc

      by_limits :
          (ok : Bool) →
          eqb (first_cause (unbolted_limits s)) 0 ≡ ok →
          (bolts : Option FlangeBolts) →
          bolts_taken s diameters areas ≡ bolts →
          (cond ok (answered_with s plates bolts) (refused (first_cause (unbolted_limits s)) 0)).bolts ≡ Some b →
          Taken b
      by_limits true z (Some b') t q =
          taken (eqb-true _ _ z) (t ∙ by_answer (eqb (cause_of (blind_flange_answer (bolted s b') plates)) 0) b' q)
      by_limits true z None t q = cc
      by_limits false z bolts t q = cc

  -- a cause that is not in the call's own order is not given
  only_ordered :
      (number : ℕ) →
      number ≢ 0 →
      T (every (λ n. not (eqb n number)) unbolted_order) →
      cause_of (bolted_answer s diameters areas plates).answer ≢ number
  unfolding bolted_cause
  only_ordered number h t e =
      let causes = unbolted_causes s diameters areas plates in
      not_among number unbolted_order causes h t (sym (bolted_numbers s diameters areas plates).0.0 ∙ e)

  -- 10, 12 and 13 are not
  pub record NotGiven : Type 0 where
    pub bolts : cause_of (bolted_answer s diameters areas plates).answer ≢ 10
    pub circle : cause_of (bolted_answer s diameters areas plates).answer ≢ 12
    pub overloaded : cause_of (bolted_answer s diameters areas plates).answer ≢ 13

  pub not_given : NotGiven
  not_given = record {
    bolts = only_ordered 10 (λ e. omega arith) tt;
    circle = only_ordered 12 (λ e. omega arith) tt;
    overloaded = only_ordered 13 (λ e. omega arith) tt;
  }
