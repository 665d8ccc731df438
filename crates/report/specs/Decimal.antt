-- A number written in decimal, and a line that shows one.
use Rattle.std.specs.Prelude.{ℕ, zero, suc, ◌+◌, ◌/◌, ◌%◌, cond, List, [], ◌∷◌, ◌++◌, ltb}
use Rattle.text.specs.Ascii.{line_feed, equals}

-- the digits of n; the first argument is fuel, and n is enough
abbrev pub digits_of : ℕ → ℕ → List ℕ
digits_of zero n = (48 + n) ∷ []
digits_of (suc k) n = let more = digits_of k (n / 10) ++ (48 + n % 10) ∷ [] in cond (ltb n 10) ((48 + n) ∷ []) more

unfoldable pub decimal : ℕ → List ℕ
decimal n = digits_of n n

-- key, =, number, LF
unfoldable pub number_line : List ℕ → ℕ → List ℕ
number_line key n = key ++ equals ∷ decimal n ++ line_feed ∷ []
