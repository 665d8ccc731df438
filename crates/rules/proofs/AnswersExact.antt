-- Demand 3 of every answer, and so the promises of the calls. Assumes nothing.
use mathlib.Core.Path.{◌≡◌, refl, sym, subst}
use mathlib.Core.List.{List}
use native.Mathlib.Omega.{arith}
use Rattle.std.specs.Prelude.{Option, Some, None}
use Rattle.plates.specs.declared.Plate.{Plate}
use Rattle.limits.specs.declared.EndplateSheet.{EndplateSheet}
use Rattle.limits.specs.declared.BlindFlangeSheet.{BlindFlangeSheet}
use Rattle.rules.specs.Answer.{endplate_sizing, blind_flange_sizing, with_plate, from_plates}
use Rattle.rules.specs.Answer.{endplate_answer, blind_flange_answer}
use Rattle.rules.specs.Numbers.{endplate_cause, endplate_figure, endplate_report, blind_flange_cause}
use Rattle.rules.specs.Numbers.{blind_flange_figure, blind_flange_report}
use Rattle.rules.specs.Exact.{EndplateThicknessExact, EndplateExact, ThicknessExact, EdgeExact}
use Rattle.rules.specs.Exact.{BlindFlangeExact}
use Rattle.rules.specs.declared.EndplateFigures.{EndplateFigures}
use Rattle.rules.specs.declared.BlindFlangeFigures.{BlindFlangeFigures}
use Rattle.rules.specs.Sizing.{Endplate, BlindFlange}
use Rattle.rules.specs.Answer.{Answer}
use Rattle.rules.proofs.SizedOrRefused.{by_cause}
use Rattle.rules.proofs.AnswerInNumbers.{Told, endplate_numbers, flange_numbers}
use Rattle.rules.proofs.Exactness.{endplate_least, thickness_near, edge_near}

-- an answer that is the definition's has what the definition's has
along : (P : Answer → Type 0) {r answer : Answer} → P answer → r ≡ answer → P r
along P p e = subst P (sym e) p

module _ (s : EndplateSheet) where
  -- whatever the choice, the need is exact
  by_choice :
      (f : EndplateFigures) →
      EndplateThicknessExact s f.thickness →
      (choice : Option Plate) →
      EndplateExact s (with_plate (Endplate f) choice)
  by_choice f h (Some plate) z = h
  by_choice f h None z = absurd (omega (arith, z))

  sized_exact : (choice : Option Plate) → EndplateExact s (with_plate (endplate_sizing s) choice)
  unfolding endplate_sizing
  sized_exact choice =
      by_cause (λ z. EndplateExact s (with_plate z choice)) (λ cause h z. absurd (h z)) _ _
      (λ e. by_choice _ (endplate_least s e) choice)

  module _ (plates : List Plate) where
    pub endplate_exact : EndplateExact s (endplate_answer s plates)
    unfolding endplate_answer
    endplate_exact = sized_exact _

    -- the clauses of the contract: the answer, its numbers, demand 3
    abbrev EndplatePromised : Answer → Type 0
    EndplatePromised r =
        (r ≡ endplate_answer s plates)
        × (Told (endplate_cause s plates) (endplate_figure s plates) (endplate_report s plates) r × EndplateExact s r)

    pub endplate_promised : {r : Answer} → r ≡ from_plates (endplate_sizing s) plates → EndplatePromised r
    unfolding endplate_answer
    endplate_promised = along EndplatePromised (refl, (endplate_numbers s plates, endplate_exact))

module _ (s : BlindFlangeSheet) where
  -- whatever the choice, the need and the edge are exact
  by_flange_choice :
      (f : BlindFlangeFigures) →
      ThicknessExact s f.thickness × EdgeExact s f.edge_thickness →
      (choice : Option Plate) →
      BlindFlangeExact s (with_plate (BlindFlange f) choice)
  by_flange_choice f h (Some plate) z = h
  by_flange_choice f h None z = absurd (omega (arith, z))

  flange_sized_exact : (choice : Option Plate) → BlindFlangeExact s (with_plate (blind_flange_sizing s) choice)
  unfolding blind_flange_sizing
  flange_sized_exact choice =
      by_cause (λ z. BlindFlangeExact s (with_plate z choice)) (λ cause h z. absurd (h z)) _ _
      (λ e. by_flange_choice _ (thickness_near s e, edge_near s e) choice)

  module _ (plates : List Plate) where
    pub flange_exact : BlindFlangeExact s (blind_flange_answer s plates)
    unfolding blind_flange_answer
    flange_exact = flange_sized_exact _

    -- the clauses of the contract: the answer, its numbers, demand 3
    abbrev BlindFlangePromised : Answer → Type 0
    BlindFlangePromised r =
        (r ≡ blind_flange_answer s plates)
        × (Told (blind_flange_cause s plates) (blind_flange_figure s plates) (blind_flange_report s plates) r
        × BlindFlangeExact s r)

    pub flange_promised : {r : Answer} → r ≡ from_plates (blind_flange_sizing s) plates → BlindFlangePromised r
    unfolding blind_flange_answer
    flange_promised = along BlindFlangePromised (refl, (flange_numbers s plates, flange_exact))
