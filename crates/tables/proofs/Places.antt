-- The place that a search of limits answers. Assumes nothing.
use Rattle.std.proofs.Common.{ℕ, zero, suc, ◌-◌, ◌<◌, ◌≤◌, ◌≡◌, List, length, Option, Some, None, leb, eqb, not, refl, arith}
use Rattle.std.specs.Bool.{then_some}
use Rattle.std.specs.Option.{SomeIff, unwrap_or}
use Rattle.std.specs.List.{position, position_or_len}
use Rattle.std.proofs.lemmas.List.Recursion.{is_position_or_len}
use Rattle.std.proofs.lemmas.Bool.Decides.{nat_tests}
use Rattle.tables.specs.ByLimits.{first_not_below, inside, from_zero}
use Rattle.tables.specs.DesignStress.{nonzero}
use Rattle.tables.proofs.Laws.ByLimits.{within}

-- ---- the kit's search and the definition

place : (n : ℕ) (limits : List ℕ) → first_not_below n limits ≡ position_or_len (leb n) limits
place n limits = is_position_or_len (first_not_below n) (leb n) refl (λ l ls. grind (arith, nat_tests)) limits

pub searched : (n : ℕ) (limits : List ℕ) → position (leb n) limits ≡ inside (length limits) (first_not_below n limits)
searched n limits = rw (place n limits) refl

-- with the number of limits where it finds none
pub or_past :
    (n : ℕ) (limits : List ℕ) → unwrap_or (position (leb n) limits) (length limits) ≡ first_not_below n limits
or_past n limits = grind (arith, nat_tests, place n limits, within n limits)

-- one less, as checked_sub has it
pub less_one : (p : ℕ) (r : Option ℕ) → SomeIff r (1 ≤ p) (p - 1) → r ≡ from_zero p
less_one zero r h = grind (arith, h)
less_one (suc p) r h = grind (arith, h)

-- ---- what is handed back, and the place

pub found : (lines p i : ℕ) → inside lines p ≡ Some i → (p ≡ i) × (i < lines)
found lines p i e = (grind (arith, nat_tests), grind (arith, nat_tests))

pub nowhere : (lines p : ℕ) → inside lines p ≡ None → lines ≤ p
nowhere lines p e = grind (arith, nat_tests)

pub last_found : (lines p i : ℕ) → from_zero p ≡ Some i → p ≤ lines → (p ≡ suc i) × (i < lines)
last_found lines zero i e h = grind arith
last_found lines (suc p) i e h = (grind arith, grind arith)

pub last_nowhere : (p : ℕ) → from_zero p ≡ None → p ≡ 0
last_nowhere zero e = refl
last_nowhere (suc p) e = grind arith

-- an entry that is not 0
pub some_given : (n : ℕ) → then_some (not (eqb n 0)) n ≡ nonzero n
some_given n = grind (arith, nat_tests)
