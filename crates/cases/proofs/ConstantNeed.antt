-- A constant need breaks demand 3 by itself, from the exact inequalities of two ends alone. Assumes nothing.
use Rattle.std.proofs.Common.{◌≡◌, ℕ, ◌*◌, ◌≤◌, List, [], ◌∷◌, length, sym, refl, ◌∙◌, arith}
use Rattle.text.specs.Index.{index_of, index_after}
use Rattle.tables.specs.DesignStress.{column, design_stress_of}
use Rattle.plates.specs.Plates.{toleranced}
use Rattle.root.specs.Least.{◌≥◌, Least, least_most}
use Rattle.root.proofs.Laws.{square_le}
use Rattle.limits.specs.Stress.{endplate_stress}
use Rattle.rules.specs.Answer.{Accepted}
use Rattle.limits.specs.declared.EndplateSheet.{EndplateSheet}
use Rattle.text.specs.Line.{before, after, value_of}
use Rattle.text.specs.Number.{number_of}
use Rattle.text.specs.Plates.{entry_of, plates_listed, plates_of}
use Rattle.report.specs.Printed.{printed}
use Rattle.std.specs.Prelude.{Option, Some}
use Rattle.lines.specs.Fields.{line_of}
use Rattle.lines.specs.Lines.{plates_line, lines_of}
use Rattle.sheet.specs.Sheet.{endplate, part_of, sheet_of, answer_of}
use Rattle.sheet.specs.Outcome.{length_for}
use Rattle.cases.proofs.EmptyPrograms.{Program, leaves, DemandThree, end_at, end_1080, end_1081, not_refused}

same_value : {m n : ℕ} → Some m ≡ Some n → m ≡ n
same_value e = cc

-- what the two ends say
end_sheet : ℕ → EndplateSheet
end_sheet pressure = record {
  form = 2;
  material = 1;
  shell = 1;
  temperature = 150;
  pressure = pressure;
  diameter = 5000;
  allowance = 0;
}

abbrev Says : List ℕ → ℕ → Type 0
Says text P = sheet_of text ≡ endplate (end_sheet P) (toleranced 0 3000 ∷ [])

says : Says (end_at "pressure=1080") 1080 × Says (end_at "pressure=1081") 1081
unfolding end_sheet index_of index_after before after value_of number_of entry_of plates_listed plates_of line_of plates_line lines_of part_of sheet_of
says = (refl, refl)

module _ (f : Program) (exact : DemandThree f) (space : List ℕ) (room : 43 ≤ length space) where
  -- the number that it prints as an end's need is the least of the end's own inequality
  least : (text : List ℕ) (P : ℕ) → Says text P → Accepted (answer_of text) → length_for text ≤ length space
      → (n : ℕ) × (printed "need" (leaves f text space) ≡ Some n) × Least (λ T. 40 * 108 * (T * T) ≥ P * (5000 * 5000)) n
  unfolding end_sheet endplate_stress design_stress_of column
  least text P said accepted fits = rw said at (exact text space accepted fits)

  -- a constant need: 40·108·T² ≥ P·5000² has another least T at P 1081 than at P 1080
  pub constant_need :
      (T : Option ℕ) →
      printed "need" (leaves f (end_at "pressure=1080") space) ≡ T →
      printed "need" (leaves f (end_at "pressure=1081") space) ≡ T →
      ⊥
  constant_need T e e' =
      let low = end_at "pressure=1080" in
      let high = end_at "pressure=1081" in
      let one = least low 1080 says.0 (not_refused (answer_of low) 0 (rw end_1080)).0 (rw end_1080 room) in
      let two = least high 1081 says.1 (not_refused (answer_of high) 0 (rw end_1081)).0 (rw end_1081 room) in
      let same : one.0 ≡ two.0 = same_value (sym one.1 ∙ e ∙ sym e' ∙ two.1) in
      let most : one.0 ≤ 2500 = least_most 2500 one.2 (omega arith) in
      omega (arith, two.2.holds, square_le {a = two.0} {b = 2500} (omega arith))
