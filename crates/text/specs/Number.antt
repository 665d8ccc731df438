-- A number of a sheet: 1 to 6 digits, no leading zero but in 0 itself.
use Rattle.std.specs.Prelude.{ℕ, ◌+◌, ◌-◌, ◌*◌, Bool, ◌&&◌, not, cond, List, [], ◌∷◌, leb, eqb, length, get_or, Option, Some, None}

-- 0 to 9
abbrev pub is_digit : ℕ → Bool
is_digit b = leb 48 b && leb b 57

-- the digits v after a number n; none where a byte is no digit
abbrev pub digits_after : ℕ → List ℕ → Option ℕ
digits_after n [] = Some n
digits_after n (b ∷ v) = cond (is_digit b) (digits_after (n * 10 + (b - 48)) v) None

-- 1 to 6 bytes, and no 0 before others
abbrev pub well_formed : List ℕ → Bool
well_formed v = leb 1 (length v) && (leb (length v) 6 && not (eqb (get_or v 0 0) 48 && leb 2 (length v)))

unfoldable pub number_of : List ℕ → Option ℕ
number_of v = cond (well_formed v) (digits_after 0 v) None
