-- The library's digits of a number are its decimal. Assumes nothing.
use Rattle.std.proofs.Common.{ℕ, ◌^◌, ◌<◌, ◌≡◌, sym}
use Rattle.std.specs.Fmt as std
use Rattle.std.proofs.lemmas.Fmt.{decimal_by_steps}
use Rattle.report.specs.Decimal.{decimal}
use Rattle.report.specs.Laws.Spelled.{decimal-one, decimal-more}

pub same_decimal : (n : ℕ) → n < 2 ^ 64 → std.decimal n ≡ decimal n
same_decimal =
    decimal_by_steps (λ n ds. ds ≡ decimal n) (λ n h. sym (decimal-one n h))
    (λ n ds h e. rw (decimal-more n h, e))
