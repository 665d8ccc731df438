-- Ceiling division, the least root and the root over a factor, as they are computed. That each is the least is in
-- proofs/Laws.
use Rattle.std.specs.Prelude.{cond, ℕ, zero, suc, ◌+◌, ◌-◌, ◌*◌, ◌/◌, leb, eqb}

-- the answer over a divisor or a factor of 0, where no number need be the least
abbrev pub over_zero : ℕ
over_zero = 0

-- n / d rounded up: the least q with n ≤ d * q
unfoldable pub ceil_div : ℕ → ℕ → ℕ
ceil_div n d = cond (eqb d 0) over_zero ((n + (d - 1)) / d)

-- the whole part of the root of n, a binary digit for each digit of n in base 4; digits ≥ n is enough
unfoldable pub whole_root_by : ℕ → ℕ → ℕ
whole_root_by zero n = 0
whole_root_by (suc digits) zero = 0
whole_root_by (suc digits) (suc m) =
    let r = 2 * whole_root_by digits (suc m / 4) in
    cond (leb ((r + 1) * (r + 1)) (suc m)) (r + 1) r

-- the least r with n ≤ r * r: the whole part of the root, or one more
unfoldable pub least_root : ℕ → ℕ
least_root n = let r = whole_root_by n n in cond (leb n (r * r)) r (r + 1)

-- the least t with n ≤ a * (t * t)
unfoldable pub least_root_over : ℕ → ℕ → ℕ
least_root_over n a = cond (eqb a 0) over_zero (least_root (ceil_div n a))
