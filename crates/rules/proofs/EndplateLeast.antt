-- T is the least number that document 01 asks for, for any form and for each. Assumes nothing.
use Rattle.std.specs.Prelude.{ℕ, ◌*◌, ◌≢◌}
use Rattle.root.specs.Least.{◌≥◌, Least}
use Rattle.root.proofs.Laws.{least_root_over_least}
use Rattle.limits.specs.Stress.{form_a, form_c, form_d}
use Rattle.rules.specs.Endplate.{form_factor, endplate_factor, endplate_thickness}

pub endplate_thickness_least :
    (form F P d : ℕ) →
    F ≢ 0 →
    Least (λ T. form_factor form * F * (T * T) ≥ P * (d * d)) (endplate_thickness form F P d)
unfolding endplate_thickness
endplate_thickness_least form F P d h =
    least_root_over_least (P * (d * d)) (form_factor form * F) (endplate_factor form F h)

-- so for forms a, c and d
pub form_a_least :
    (F P d : ℕ) → F ≢ 0 → Least (λ T. 40 * F * (T * T) ≥ P * (d * d)) (endplate_thickness form_a F P d)
form_a_least = endplate_thickness_least form_a

pub form_c_least :
    (F P d : ℕ) → F ≢ 0 → Least (λ T. 40 * F * (T * T) ≥ P * (d * d)) (endplate_thickness form_c F P d)
form_c_least = endplate_thickness_least form_c

pub form_d_least :
    (F P d : ℕ) → F ≢ 0 → Least (λ T. 30 * F * (T * T) ≥ P * (d * d)) (endplate_thickness form_d F P d)
form_d_least = endplate_thickness_least form_d
