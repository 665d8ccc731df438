-- The quotient rounded up, from the quotient and the remainder. Assumes nothing.
use mathlib.Core.Path.{◌≡◌}
use mathlib.Core.Logic.{◌≢◌}
use Rattle.std.specs.Prelude.{ℕ, zero, suc, ◌+◌, ◌/◌, ◌%◌, min, refl}
use Rattle.std.specs.Int.{div_ceil}
use native.Mathlib.Nat.{div-add-mod, mod-lt, mul-le-mul_left}
use native.Mathlib.Omega.{arith}
use Rattle.root.specs.Root.{ceil_div}
use Rattle.root.proofs.Laws.{ceil_div_unique}

module _ (n d : ℕ) (some : d ≢ 0) where
  exact : n % d ≡ 0 → n / d ≡ ceil_div n d
  exact e = ceil_div_unique n d _ (omega arith) record {
    holds = omega (arith, div-add-mod n d);
    fails = λ q l c. omega (arith, div-add-mod n d, mul-le-mul_left d l);
  }

  inexact : n % d ≢ 0 → n / d + 1 ≡ ceil_div n d
  inexact e = ceil_div_unique n d _ (omega arith) record {
    holds = omega (arith, div-add-mod n d, mod-lt n {m = d} (omega arith));
    fails = λ q l c. omega (arith, div-add-mod n d, mul-le-mul_left {m = q} {n = n / d} d (omega arith));
  }

  -- the library's quotient rounded up is the definition's
  pub rounded_up : div_ceil n d ≡ ceil_div n d
  rounded_up = by_remainder (n % d) refl
    where
      by_remainder : (r : ℕ) → n % d ≡ r → n / d + min 1 r ≡ ceil_div n d
      by_remainder zero e = omega (arith, exact e)
      by_remainder (suc r) e = omega (arith, inexact (omega (arith, e)))
