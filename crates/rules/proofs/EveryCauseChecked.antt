-- Every row of a part's causes is in checking order: where no cause is found, none applies. Assumes nothing.
use mathlib.Core.Path.{◌≡◌}
use mathlib.Core.Bool.{false}
use mathlib.Core.List.{Memᴰ}
use Prim.Native.Nat.{ℕ}
use Rattle.limits.specs.Causes.{Tests, any, first_cause}
use Rattle.limits.specs.Limits.{endplate_causes, flange_limits, unbolted_limits}
use Rattle.limits.specs.Laws.{none_passed_over}
use Rattle.limits.specs.declared.EndplateSheet.{EndplateSheet}
use Rattle.limits.specs.declared.BlindFlangeSheet.{BlindFlangeSheet}
use Rattle.limits.specs.declared.unbolted.UnboltedSheet.{UnboltedSheet}
use Rattle.rules.specs.FlangeCauses.{bolts_causes, blind_flange_causes}

pub endplate_checked :
    (s : EndplateSheet) →
    first_cause (endplate_causes s) ≡ 0 →
    (c : ℕ × Tests) →
    Memᴰ c (endplate_causes s) →
    any c.1 ≡ false
unfolding endplate_causes
endplate_checked s = none_passed_over (endplate_causes s) tt

pub flange_checked :
    (s : BlindFlangeSheet) →
    first_cause (blind_flange_causes s) ≡ 0 →
    (c : ℕ × Tests) →
    Memᴰ c (blind_flange_causes s) →
    any c.1 ≡ false
unfolding flange_limits bolts_causes blind_flange_causes
flange_checked s = none_passed_over (blind_flange_causes s) tt

pub unbolted_checked :
    (s : UnboltedSheet) →
    first_cause (unbolted_limits s) ≡ 0 →
    (c : ℕ × Tests) →
    Memᴰ c (unbolted_limits s) →
    any c.1 ≡ false
unfolding flange_limits unbolted_limits
unbolted_checked s = none_passed_over (unbolted_limits s) tt
