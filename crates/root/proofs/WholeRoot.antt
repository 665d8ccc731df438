-- A whole root and what is left over: how they stand in one number, and the least root from them. Assumes nothing.
use mathlib.Core.Path.{◌≡◌}
use Prim.Native.Nat.{ℕ, ◌+◌, ◌*◌, ◌/◌, ◌%◌, ◌^◌, ◌≤◌, ◌<◌}
use native.Mathlib.Nat.{lt_of_not-le}
use native.Mathlib.Omega.{arith}
use Rattle.root.specs.Root.{least_root}
use Rattle.root.proofs.Laws.{least_root_unique, square_le}

-- n has the whole root r, and l is left over
abbrev pub Whole : ℕ → ℕ → ℕ → Type 0
Whole n r l = (r * r + l ≡ n) × (l ≤ 2 * r)

-- a root is below whatever has the greater square
pub below : (n r l b : ℕ) → r * r + l ≡ n → n < b * b → r < b
below n r l b e h = lt_of_not-le λ g. omega (arith, square_le g)

-- from n's quarter to n: what is left has one digit more, in base 4, and the root one in base 2
module _ (n r l x : ℕ) (quarter : Whole (n / 4) r l) where
  pub digit_one : x + (4 * r + 1) ≡ 4 * l + n % 4 → Whole n (2 * r + 1) x
  digit_one e = omega arith

  pub digit_zero : x ≡ 4 * l + n % 4 → x < 4 * r + 1 → Whole n (2 * r) x
  digit_zero e h = omega arith

-- a root raised by 32 bits
pub raised : (n h r l : ℕ) →
    h ≡ 2 ^ 32 * r →
    Whole n r l →
    (h ≡ 2 ^ 32 * (h / 2 ^ 32)) × (h / 2 ^ 32 * (h / 2 ^ 32) + l ≡ n) × (l ≤ 2 * (h / 2 ^ 32))
raised n h r l e w = let d : h / 2 ^ 32 ≡ r = omega arith in rw d (e, w.0, w.1)

-- in one number with what is left over
pub joined : (n q r l : ℕ) → q ≡ 2 ^ 32 * r + l → l < 2 ^ 32 → Whole n r l → Whole n (q / 2 ^ 32) (q % 2 ^ 32)
joined n q r l e b w =
    let d : q / 2 ^ 32 ≡ r = omega arith in
    let m : q % 2 ^ 32 ≡ l = omega arith in
    rw (d, m) w

pub none_left : (n r l : ℕ) → Whole n r l → l ≡ 0 → r ≡ least_root n
none_left n r l w e = least_root_unique n r record {
  holds = omega arith;
  fails = λ s g c. omega (arith, square_le {a = s + 1} {b = r} (omega arith));
}

pub some_left : (n r l : ℕ) → Whole n r l → 0 < l → r + 1 ≡ least_root n
some_left n r l w h = least_root_unique n (r + 1) record {
  holds = omega arith;
  fails = λ s g c. omega (arith, square_le {a = s} {b = r} (omega arith));
}
