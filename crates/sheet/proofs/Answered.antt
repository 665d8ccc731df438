-- What is promised of the answer to a sheet: it is the definition's, in document 01's numbers too, and demand 3 holds of
-- it. Assumes nothing.
use Prim.Native.Nat.{ℕ}
use mathlib.Core.Path.{◌≡◌, refl}
use native.Mathlib.Omega.{arith}
use Rattle.rules.specs.Answer.{Answer}
use Rattle.rules.specs.Answer.{Refused}
use Rattle.sheet.specs.Sheet.{Sheet, malformed}
use Rattle.sheet.specs.Exact.{Answered}

-- a sheet at fault: cause 1 with the line
pub malformed_answered : {r : Answer} (line : ℕ) → r ≡ Refused 1 line → Answered (malformed line) r
malformed_answered line e = rw e (refl, ((refl, refl, refl), λ z. absurd (omega (arith, z))))

-- of a sheet that is the one answered. For a sheet that is not at fault, what is promised is the rules' own promise
pub answered_as : {other sheet : Sheet} {r : Answer} → Answered other r → other ≡ sheet → Answered sheet r
answered_as p e = rw (← e) p
