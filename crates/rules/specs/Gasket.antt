-- Gasket (document 01, Blind flanges): a flat ring inside the bolt circle, and a rib across it if any. Contact width n and
-- diameters in tenths of a mm, b in hundredths.
use Rattle.std.specs.Prelude.{ℕ, ◌-◌, ◌*◌, Bool, cond, leb}
use Rattle.std.proofs.Common.{arith}
use Rattle.root.specs.Least.{◌≥◌, Least}
use Rattle.root.specs.Root.{least_root_over}
use Rattle.root.proofs.Laws.{least_root_over_least}

-- n ≤ 126: b_o, half of n, is not above 6.3 mm
abbrev pub narrow : ℕ → Bool
narrow n = leb n 126

-- k: the least whole number with 1000·k² ≥ 31752·n, which is 2.52·√b_o taken up to the tenth of a mm
unfoldable pub wide_width : ℕ → ℕ
wide_width n = least_root_over (31752 * n) 1000

pub wide_width_least : (n : ℕ) → Least (λ k. 1000 * (k * k) ≥ 31752 * n) (wide_width n)
unfolding wide_width
wide_width_least n = least_root_over_least (31752 * n) 1000 (omega arith)

-- b: 5·n, or 10·k; of the ring and of a rib alike
unfoldable pub effective_width_of : ℕ → ℕ
effective_width_of n = cond (narrow n) (5 * n) (10 * wide_width n)

-- G: od − n, or od − 2·k
unfoldable pub reaction_diameter_of : ℕ → ℕ → ℕ
reaction_diameter_of od n = od - cond (narrow n) n (2 * wide_width n)
