-- What a text begins with, as a test and as an equation. Assumes nothing.
use Rattle.std.specs.Prelude.{ℕ, Bool, true, false, ◌&&◌, List, [], ◌∷◌, ◌≡◌, refl, eqb, length, take}
use Rattle.std.proofs.lemmas.Bool.{false≢true}
use Rattle.std.proofs.Common.{sym, ◌∙◌, arith, eqb-true, take_all}
use Rattle.std.specs.Cmp.Lexicographic.{pointwise}
use Rattle.std.proofs.Math.Dec.{eqb-suc-zero, eqb-zero-suc, eqb-suc-suc}
use Rattle.text.specs.Line.{begins, same}

pub begins-take : (s t : List ℕ) → begins s t ≡ true → take (length s) t ≡ s
begins-take [] t e = refl
begins-take (b ∷ s) [] e = absurd (false≢true e)
begins-take (b ∷ s) (x ∷ t) e = go (eqb x b) refl e (begins-take s t)
  where
    go : (same : Bool) → eqb x b ≡ same → (same && begins s t) ≡ true
        → (begins s t ≡ true → take (length s) t ≡ s) → x ∷ take (length s) t ≡ b ∷ s
    go true h q rest = rw (eqb-true x b h, rest q)
    go false h q rest = absurd (false≢true q)

-- the same bytes, and no more
pub same_equal : (s t : List ℕ) → same s t ≡ true → t ≡ s
same_equal s t e = by_length (eqb (length t) (length s)) refl e
  where
    by_length : (sized : Bool) → eqb (length t) (length s) ≡ sized → (sized && begins s t) ≡ true → t ≡ s
    by_length true n e =
        let size = eqb-true (length t) (length s) n in
        sym (take_all (length s) t (omega (arith, size))) ∙ begins-take s t e
    by_length false n e = absurd (false≢true e)

-- a text and a word, by what `==` compares
pub same_is : {r : Bool} {s : List ℕ} (word t : List ℕ) → s ≡ word → r ≡ pointwise eqb t s → same word t ≡ r
same_is word t e h = rw (h, e) (by_bytes word t)
  where
    swapped : (sized here rest : Bool) → (sized && (here && rest)) ≡ (here && (sized && rest))
    swapped true here rest = refl
    swapped false true rest = refl
    swapped false false rest = refl

    by_bytes : (s t : List ℕ) → same s t ≡ pointwise eqb t s
    by_bytes [] [] = refl
    by_bytes [] (x ∷ t) = rw (eqb-suc-zero (length t))
    by_bytes (b ∷ s) [] = rw (eqb-zero-suc (length s))
    by_bytes (b ∷ s) (x ∷ t) =
        rw (eqb-suc-suc (length t) (length s), ← by_bytes s t)
        (swapped (eqb (length t) (length s)) (eqb x b) (begins s t))
