-- Where a book is cut, by place, and the first piece. Assumes nothing.
use Rattle.std.proofs.Common.{ℕ, zero, suc, ◌+◌, ◌-◌, ◌≤◌, ◌<◌, Bool, true, false, ◌&&◌, eqb, List, [], ◌∷◌, ◌≡◌, refl, ap, ◌∙◌, length, take, drop, get_or, ◌⊎◌, inl, inr, arith}
use Rattle.std.proofs.Math.Bool.{and-false}
use Rattle.std.proofs.lemmas.Bool.{false≢true, false_from_ne_true, cases_lt}
use Rattle.std.proofs.lemmas.List.{get_or-drop}
use Rattle.std.specs.List.{starts_with, ends_with}
use Rattle.memchr.specs.Find.{Nowhere, Passes, is_byte}
use Rattle.text.specs.Ascii.{line_feed}
use Rattle.text.specs.Line.{begins}
use Rattle.batch.specs.Pieces.{mark, cut_after, byte_before, pieces_of}

-- the book is cut before its n-th byte, counted from 0
abbrev pub cut_at : List ℕ → ℕ → Bool
cut_at t zero = false
cut_at [] (suc n) = false
cut_at (x ∷ t) (suc zero) = cut_after x t
cut_at (x ∷ t) (suc (suc n)) = cut_at t (suc n)

-- at no place before n
abbrev pub Uncut : List ℕ → ℕ → Type 0
Uncut t n = (j : ℕ) → j < n → cut_at t j ≡ false

-- ---- the first piece

rest_uncut : (x : ℕ) (t : List ℕ) (n : ℕ) → Uncut (x ∷ t) (suc n) → Uncut t n
rest_uncut x t n u zero h = refl
rest_uncut x t n u (suc j) h = u (suc (suc j)) (omega (arith, h))

pub first_cut : (t : List ℕ) (n : ℕ) → cut_at t n ≡ true → Uncut t n → pieces_of t ≡ take n t ∷ pieces_of (drop n t)
unfolding pieces_of
first_cut t zero e u = absurd (false≢true e)
first_cut [] (suc n) e u = absurd (false≢true e)
first_cut (x ∷ t) (suc zero) e u = rw e refl
first_cut (x ∷ t) (suc (suc n)) e u =
    rw (u 1 (omega arith)) (ap (byte_before false x) (first_cut t (suc n) e (rest_uncut x t (suc n) u)))

pub last_piece : (t : List ℕ) → Uncut t (length t) → pieces_of t ≡ t ∷ []
unfolding pieces_of
last_piece [] u = refl
last_piece (x ∷ []) u = rw (and-false (eqb x line_feed)) refl
last_piece (x ∷ y ∷ t) u =
    rw (u 1 (omega arith)) (ap (byte_before false x) (last_piece (y ∷ t) (rest_uncut x (y ∷ t) (length (y ∷ t)) u)))

-- ---- what the code asks of the two parts around a place

-- what `starts_with` compares is what a text begins with
begins_is : (s t : List ℕ) → begins s t ≡ starts_with eqb t s
begins_is [] t = refl
begins_is (b ∷ s) [] = refl
begins_is (b ∷ s) (x ∷ t) = grind (arith, begins_is s t)

ends_more : (b x y : ℕ) (s : List ℕ) → ends_with eqb (x ∷ y ∷ s) (b ∷ []) ≡ ends_with eqb (y ∷ s) (b ∷ [])
ends_more b x y s = grind arith

pub cut_is :
    (t : List ℕ) (n : ℕ) →
    n ≤ length t →
    cut_at t n ≡ (ends_with eqb (take n t) (line_feed ∷ []) && starts_with eqb (drop n t) mark)
cut_is t zero h = refl
cut_is [] (suc n) h = absurd (omega arith)
cut_is (x ∷ t) (suc zero) h = grind (arith, begins_is mark t)
cut_is (x ∷ []) (suc (suc n)) h = absurd (omega arith)
cut_is (x ∷ y ∷ t) (suc (suc n)) h = cut_is (y ∷ t) (suc n) (omega arith) ∙ rw (ends_more line_feed x y (take n t)) refl

-- ---- the search

-- the mark's first letter
abbrev pub letter : ℕ
letter = get_or mark 0 0

-- where it is not, there is no cut
pub no_letter : (t : List ℕ) (n : ℕ) → eqb (get_or t n 0) letter ≡ false → cut_at t n ≡ false
no_letter t zero e = refl
no_letter [] (suc n) e = refl
no_letter (x ∷ []) (suc zero) e = and-false (eqb x line_feed)
no_letter (x ∷ y ∷ t) (suc zero) e = rw e (and-false (eqb x line_feed))
no_letter (x ∷ t) (suc (suc n)) e = no_letter t (suc n) e

-- past places without it
pub skipped :
    (t : List ℕ) (from next : ℕ) →
    Uncut t from →
    Nowhere (Passes (is_byte letter) (drop from t)) 0 next →
    Uncut t (from + next)
skipped t from next u none j h = by_place (cases_lt j from)
  where
    later : (k : ℕ) → j ≡ from + k → cut_at t j ≡ false
    later k e =
        let passed = none k (omega arith) (omega (arith, e)) in
        let other = false_from_ne_true (is_byte letter (get_or (drop from t) k 0)) passed in
        rw e (no_letter t (from + k) (rw (← get_or-drop from t k 0) other))

    by_place : (j < from) ⊎ (from ≤ j) → cut_at t j ≡ false
    by_place (inl b) = u j b
    by_place (inr b) = later (j - from) (omega (arith, b))

-- past a place without a cut
pub one_more : (t : List ℕ) (n : ℕ) → Uncut t n → cut_at t n ≡ false → Uncut t (n + 1)
one_more t n u e j h = by_place (cases_lt j n)
  where
    by_place : (j < n) ⊎ (n ≤ j) → cut_at t j ≡ false
    by_place (inl b) = u j b
    by_place (inr b) = let here : j ≡ n = omega (arith, b, h) in rw here e
