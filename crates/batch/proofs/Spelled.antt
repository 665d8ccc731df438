-- The lines of a summary, one after another. Assumes nothing.
use Rattle.std.proofs.Common.{ℕ, ◌+◌, ◌≤◌, Bool, cond, leb, List, [], ◌∷◌, ◌++◌, ◌≡◌, refl, ◌∙◌, length, le-leb}
use Rattle.std.specs.Prelude.{flat_map}
use Rattle.text.specs.Ascii.{ascii}
use Rattle.report.specs.Decimal.{decimal, number_line}
use Rattle.rules.specs.Answer.{Answer}
use Rattle.batch.specs.Lines.{times_met}
use Rattle.batch.specs.Summary.{longest_summary, refused_under, refused_line}

-- a line that has room is added
pub added :
    (room : ℕ) (old line : List ℕ) {new : List ℕ} {added : Bool} →
    added ≡ leb (length old + room) longest_summary →
    new ≡ cond added (old ++ line) old →
    length old + room ≤ longest_summary →
    new ≡ old ++ line
added room old line e f h = f ∙ rw (e, le-leb (length old + room) longest_summary h) refl

-- line after line, the whole
pub joined :
    (a b c d e f g : List ℕ) {x₀ x₁ x₂ x₃ x₄ x₅ x₆ x₇ : List ℕ} →
    x₀ ≡ [] →
    x₁ ≡ x₀ ++ a →
    x₂ ≡ x₁ ++ b →
    x₃ ≡ x₂ ++ c →
    x₄ ≡ x₃ ++ d →
    x₅ ≡ x₄ ++ e →
    x₆ ≡ x₅ ++ f →
    x₇ ≡ x₆ ++ g →
    x₇ ≡ a ++ b ++ c ++ d ++ e ++ f ++ g
joined a b c d e f g h₀ h₁ h₂ h₃ h₄ h₅ h₆ h₇ = rw (h₇, h₆, h₅, h₄, h₃, h₂, h₁, h₀) refl

-- where numbers are met as often as pieces are refused under them, their lines are the summary's
pub refused_met :
    (causes : List ℕ) (answers : List Answer) →
    ((n : ℕ) → times_met causes n ≡ refused_under answers n) →
    (numbers : List ℕ) →
    flat_map (λ n. number_line (ascii "refused" ++ decimal n) (times_met causes n)) numbers
    ≡ flat_map (refused_line answers) numbers
refused_met causes answers under [] = refl
refused_met causes answers under (number ∷ numbers) =
    rw (under number, refused_met causes answers under numbers) refl
