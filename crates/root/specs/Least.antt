-- "The least whole number with ..": the one definition, over what is asked of the number. Assumes nothing.
use Rattle.std.specs.Prelude.{◌≡◌, ℕ, suc, ◌*◌, ◌≤◌, ◌<◌}
use Rattle.std.proofs.Common.{lt_of_not-le, arith}

-- an inequality with its sides as document 01 has them
infix 50 ◌≥◌
abbrev pub ◌≥◌ : ℕ → ℕ → Type 0
a ≥ b = b ≤ a

-- r is the least whole number of which P holds: P holds of r, and every smaller number fails
pub record Least (P : ℕ → Type 0) (r : ℕ) : Type 0 where
  pub holds : P r
  pub fails : (s : ℕ) → s < r → ¬ P s

-- q covers n in steps of d: what ceiling division asks of q
abbrev pub Covers : ℕ → ℕ → ℕ → Type 0
Covers n d q = d * q ≥ n

-- a times the square of t reaches n: what the root over a factor asks of t
abbrev pub Reaches : ℕ → ℕ → ℕ → Type 0
Reaches n a t = a * (t * t) ≥ n

-- whatever satisfies P is not below the least
pub least_most : {P : ℕ → Type 0} {r : ℕ} (t : ℕ) → Least P r → P t → r ≤ t
least_most t p h = omega (arith, lt_of_not-le {n = suc t} (λ l. p.fails t l h))

-- there is one least number at most
pub least_unique : {P : ℕ → Type 0} (r s : ℕ) → Least P r → Least P s → r ≡ s
least_unique r s p q = omega (arith, least_most s p q.holds, least_most r q p.holds)
