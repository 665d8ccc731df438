-- The numbers that a call answers, and what holds where no piece is worked. Assumes nothing.
use Rattle.std.proofs.Common.{ℕ, zero, suc, ◌≤◌, ◌<◌, true, false, eqb, List, ◌≡◌, refl, length, arith, lt-ltb, le-ltb, le-leb, ◌⊎◌, inl, inr}
use Rattle.std.proofs.lemmas.Bool.{lt-leb}
use Rattle.std.proofs.Math.Bool.{or-true}
use Rattle.std.proofs.Math.Dec.{eqb-suc-zero}
use Rattle.std.proofs.lemmas.List.Elements.{All-nil}
use Rattle.sheet.specs.Exact.{SheetExact}
use Rattle.batch.specs.declared.Outcome.TheVariants.{Reports, ShortSpace, BadLimit}
use Rattle.batch.specs.Book.{most_pieces, longest_batch, bad_limit, worked, reports_for, numbers_of, numbers_for}
use Rattle.batch.specs.Exact.{BookExact}

pub limit_bad : (limit : ℕ) → (limit ≡ 0) ⊎ ((limit ≡ 0 → ⊥) × (most_pieces < limit)) → bad_limit limit ≡ true
limit_bad limit (inl e) = rw e refl
limit_bad limit (inr h) = rw (lt-ltb most_pieces limit h.1) (or-true (eqb limit 0))

pub limit_good : (limit : ℕ) → (limit ≡ 0 → ⊥) → limit ≤ most_pieces → bad_limit limit ≡ false
limit_good zero z h = absurd (z refl)
limit_good (suc n) z h = rw (eqb-suc-zero n, le-ltb most_pieces (suc n) h) refl

module _ (book space : List ℕ) (limit : ℕ) where
  module _ (bad : bad_limit limit ≡ true) where
    pub bad_numbers : numbers_of BadLimit ≡ numbers_for book limit space
    unfolding numbers_for
    bad_numbers = rw bad refl

    pub bad_exact : BookExact book limit
    unfolding worked
    bad_exact = rw bad (All-nil SheetExact)

    pub bad_short : length (reports_for book limit) ≤ longest_batch
    unfolding reports_for worked
    bad_short = rw bad (omega arith)

  module _ (good : bad_limit limit ≡ false) {n : ℕ} (size : n ≡ length (reports_for book limit)) where
    pub short_numbers : length space < n → numbers_of (ShortSpace n) ≡ numbers_for book limit space
    unfolding numbers_for
    short_numbers h = rw (good, ← size, lt-leb n (length space) h) refl

    pub written_numbers : {count : ℕ} → count ≡ length (worked book limit) → n ≤ length space
        → numbers_of (Reports count n) ≡ numbers_for book limit space
    unfolding numbers_for
    written_numbers e h = rw (good, ← size, le-leb n (length space) h, e) refl
