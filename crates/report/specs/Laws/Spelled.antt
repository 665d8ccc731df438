-- The decimal of a number, digit by digit, and that it is read back as that number. Assumes nothing.
use Rattle.std.specs.Prelude.{ℕ, zero, suc, ◌+◌, ◌-◌, ◌*◌, ◌/◌, ◌%◌, ◌≤◌, ◌<◌, Bool, true, false, List, [], ◌∷◌, ◌++◌, ◌≡◌, refl, ltb, length}
use Rattle.std.proofs.Common.{ap, ◌∙◌, arith, ltb-true, ltb-false, lt-ltb, le-ltb, ne_eqb, length-append}
use Rattle.text.specs.Index.{index_of, index_after}
use Rattle.text.specs.Ascii.{line_feed}
use Rattle.text.specs.Number.{digits_after}
use Rattle.report.specs.Decimal.{digits_of, decimal}
use Rattle.std.specs.Prelude.{Some}
use Rattle.text.specs.Laws.Joined.{Lacks, index_append}

-- fuel beyond n changes nothing
fuel : (f g n : ℕ) → n ≤ f → n ≤ g → digits_of f n ≡ digits_of g n
fuel zero zero n hf hg = refl
fuel zero (suc g) n hf hg = rw (lt-ltb n 10 (omega arith))
fuel (suc f) zero n hf hg = rw (lt-ltb n 10 (omega arith))
fuel (suc f) (suc g) zero hf hg = refl
fuel (suc f) (suc g) (suc n) hf hg = grind (arith, fuel f g (suc n / 10))

pub decimal-one : (n : ℕ) → n < 10 → decimal n ≡ (48 + n) ∷ []
unfolding decimal
decimal-one zero h = refl
decimal-one (suc n) h = rw (lt-ltb (suc n) 10 h)

pub decimal-more : (n : ℕ) → 10 ≤ n → decimal n ≡ decimal (n / 10) ++ (48 + n % 10) ∷ []
unfolding decimal
decimal-more zero h = absurd (omega arith)
decimal-more (suc n) h =
    rw (le-ltb (suc n) 10 h, fuel n (suc n / 10) (suc n / 10) (omega arith) (omega arith)) refl

-- what holds of one digit, and of one digit more, holds of every number
pub by_digits : (P : ℕ → Type 0) → ((n : ℕ) → n < 10 → P n) → ((n : ℕ) → 10 ≤ n → P (n / 10) → P n) → (n : ℕ) → P n
by_digits P one more n = go n n (omega arith)
  where
    choose : (n : ℕ) (t : Bool) → ltb n 10 ≡ t → (10 ≤ n → P (n / 10)) → P n
    choose n true e rest = one n (ltb-true n 10 e)
    choose n false e rest = more n (ltb-false n 10 e) (rest (ltb-false n 10 e))

    go : (k n : ℕ) → n ≤ k → P n
    go zero n h = one n (omega arith)
    go (suc k) n h = choose n (ltb n 10) refl (λ (b : 10 ≤ n). go k (n / 10) (omega arith))

-- one digit more
digits_snoc : (xs : List ℕ) (a m d : ℕ) → d < 10 → digits_after a xs ≡ Some m
    → digits_after a (xs ++ (48 + d) ∷ []) ≡ Some (m * 10 + d)
digits_snoc [] a m d h e = grind arith
digits_snoc (b ∷ bs) a m d h e = grind (arith, digits_snoc bs (a * 10 + (b - 48)) m d h)

pub decimal_reads : (n : ℕ) → digits_after 0 (decimal n) ≡ Some n
decimal_reads =
    by_digits (λ n. digits_after 0 (decimal n) ≡ Some n)
    (λ n h. rw (decimal-one n h) (grind arith))
    (λ n h p. rw (decimal-more n h) (digits_snoc (decimal (n / 10)) 0 (n / 10) (n % 10) (omega arith) p ∙ ap Some (omega arith)))

pub decimal-some : (n : ℕ) → 1 ≤ length (decimal n)
decimal-some =
    by_digits (λ n. 1 ≤ length (decimal n)) (λ n h. rw (decimal-one n h) (omega arith))
    (λ n h p. rw (decimal-more n h) (grind (arith, length-append)))

-- no LF is among the digits
pub decimal_line : (n : ℕ) → Lacks line_feed (decimal n)
unfolding index_of index_after
decimal_line =
    by_digits (λ n. Lacks line_feed (decimal n))
    (λ n h. rw (decimal-one n h, ne_eqb (48 + n) 10 (λ e. omega arith)))
    (λ n h p.
    rw (
      decimal-more n h,
      length-append,
      index_append line_feed (decimal (n / 10)) ((48 + n % 10) ∷ []) p,
      ne_eqb (48 + n % 10) 10 (λ e. omega arith),
    ))
