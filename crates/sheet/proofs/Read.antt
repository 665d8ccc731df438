-- What was read of a part's lines, and the refusal of the line at fault. Assumes nothing.
use Rattle.std.specs.Prelude.{ℕ, Bool, true, false, Result, Ok, Err, MatchResult, is_ok, ◌≡◌, refl}
use Rattle.std.proofs.Common.{sym, ap, true≢false, ◌∙◌}
use Rattle.limits.specs.declared.cause.Cause.TheVariants.{Malformed as Cause-as-Malformed}
use Rattle.rules.specs.declared.Refusal.{Refusal}
use Rattle.rules.specs.Answer.{in_numbers}
use Rattle.text.specs.Plates.{plates_held}
use Rattle.lines.specs.Lines.{Lines, fault, given, lines_read}
use Rattle.lines.specs.declared.Malformed.{Malformed}
use Rattle.lines.specs.declared.SheetLines.{SheetLines}
use Rattle.sheet.specs.Sheet.{malformed, read}
use Rattle.sheet.specs.Exact.{Answered}
use Rattle.sheet.proofs.Answered.{malformed_answered, answered_as}

-- cause 1 with the line at fault
abbrev pub refusal_of : Malformed → Refusal
refusal_of m = record { cause = Cause-as-Malformed; figure = m.line }

faulty : (blind : Bool) (line : ℕ) → malformed line ≡ read blind (fault line)
faulty true line = refl
faulty false line = refl

-- the refusal that `map_err` makes of a line at fault
pub fault_answered :
    {N : ℕ} (blind : Bool) (lines : Lines) (P : SheetLines N → Type 0) (refusal : Refusal) (r : Result (SheetLines N) Malformed) →
    lines_read r ≡ lines →
    MatchResult r P (λ m. refusal ≡ refusal_of m) →
    false ≡ is_ok r →
    Answered (read blind lines) (in_numbers (Err refusal))
fault_answered blind lines P refusal (Ok s) e h v = absurd (true≢false (sym v))
fault_answered blind lines P refusal (Err m) e h v =
    answered_as
    (malformed_answered m.line (ap (λ (r : Refusal). in_numbers (Err r)) h))
    (faulty blind m.line ∙ ap (read blind) e)

-- the lines that it hands on
abbrev handed_lines : {N : ℕ} → Result (SheetLines N) Refusal → Lines
handed_lines (Ok s) = given s.values (plates_held s.plates)
handed_lines (Err refusal) = fault 0

pub lines_given :
    {N : ℕ} (blind : Bool) (lines : Lines) (s : SheetLines N) (r : Result (SheetLines N) Malformed) →
    lines_read r ≡ lines →
    MatchResult r (λ x. ◌≡◌ {A = Result (SheetLines N) Refusal} (Ok s) (Ok x)) (λ m. ⊥) →
    read blind (given s.values (plates_held s.plates)) ≡ read blind lines
lines_given blind lines s (Ok x) e h = ap (read blind) (ap handed_lines h ∙ e)
lines_given blind lines s (Err m) e h = absurd h
