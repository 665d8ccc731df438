-- Causes of a refusal (document 01): what a cause is, and the order in which causes are checked.
use Rattle.std.specs.Prelude.{ℕ, Bool, false, ◌||◌, cond, eqb}
use mathlib.Core.List.{List, [], ◌∷◌, ◌++◌, foldl}

-- a cause applies where any of its tests holds
abbrev pub Tests : Type 0
Tests = List Bool

abbrev pub any : Tests → Bool
any tests = foldl ◌||◌ false tests

-- each cause is a number and its tests
abbrev pub Causes : Type 0
Causes = List (ℕ × Tests)

-- the tests of the cause with this number, wherever its rows stand; none where the list has no such cause
abbrev pub tests_of : Causes → ℕ → Tests
tests_of [] number = []
tests_of (c ∷ cs) number = let rest = tests_of cs number in cond (eqb c.0 number) (c.1 ++ rest) rest

-- the first of these numbers whose cause applies, 0 where none does
unfoldable pub first_of : List ℕ → Causes → ℕ
first_of [] causes = 0
first_of (number ∷ numbers) causes = cond (any (tests_of causes number)) number (first_of numbers causes)

-- checking order: of several causes that apply, the first in this order answers. It stands here in the steps in which a blind
-- flange is judged: by its numbers, by its bolting once the gasket is worked, by its loads, by the plates. A call that chooses
-- the bolts has an order of its own, in the crate rules
abbrev pub of_numbers : List ℕ
of_numbers = 2 ∷ 3 ∷ 4 ∷ 5 ∷ 6 ∷ 7 ∷ 8 ∷ 17 ∷ 9 ∷ []

abbrev pub of_bolting : List ℕ
of_bolting = 10 ∷ 11 ∷ 12 ∷ []

abbrev pub of_loads : List ℕ
of_loads = 13 ∷ []

abbrev pub of_plates : List ℕ
of_plates = 14 ∷ []

abbrev pub checking_order : List ℕ
checking_order = of_numbers ++ of_bolting ++ of_loads ++ of_plates

abbrev pub first_cause : Causes → ℕ
first_cause causes = first_of checking_order causes
