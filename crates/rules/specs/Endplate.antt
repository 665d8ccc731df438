-- Endplates (document 01; 004, 8.3.4 a, c and d). Stress in N/mm², P in thousandths of N/mm², d in tenths of a mm, T in
-- hundredths.
use Rattle.std.specs.Prelude.{ℕ, ◌*◌, ◌<◌, Bool, true, false, cond, ◌≢◌, eqb}
use Rattle.std.proofs.Common.{arith}
use Rattle.root.specs.Root.{least_root_over}
use Rattle.limits.specs.Stress.{form_d}

-- what stands before F·T²: 40 for forms a and c, 30 for form d
abbrev pub form_factor : ℕ → ℕ
form_factor form = cond (eqb form form_d) 30 40

-- T, the need: the least whole number with 40·F·T² ≥ P·d², or 30·F·T² ≥ P·d² for form d
unfoldable pub endplate_thickness : ℕ → ℕ → ℕ → ℕ → ℕ
endplate_thickness form F P d = least_root_over (P * (d * d)) (form_factor form * F)

-- what F stands in is not 0
pub endplate_factor : (form F : ℕ) → F ≢ 0 → 0 < form_factor form * F
endplate_factor form F h = by_form (eqb form form_d)
  where
    by_form : (b : Bool) → 0 < cond b 30 40 * F
    by_form true = omega arith
    by_form false = omega arith
