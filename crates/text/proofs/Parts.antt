-- Parts of a text: what it begins with, and what stands around a byte. Assumes nothing.
use Rattle.std.proofs.Common.{ℕ, ◌+◌, Bool, true, false, cond, eqb, List, [], ◌∷◌, ◌&&◌, ◌≡◌, refl, ap, sym, length, take, drop, get_or, arith}
use mathlib.Core.Bool.{and-true}
use Rattle.std.specs.Cmp.Lexicographic.{pointwise}
use Rattle.std.specs.List.{position_or_len}
use Rattle.std.proofs.lemmas.List.Recursion.{is_position_or_len}
use Rattle.text.specs.Ascii.{equals}
use Rattle.text.specs.Index.{index_of, index_after}
use Rattle.text.specs.Line.{begins}

-- the library's word for the index of a byte
pub index_is : (b : ℕ) (t : List ℕ) → index_of b t ≡ position_or_len (λ x. eqb x b) t
unfolding index_of index_after
index_is b t = is_position_or_len (index_of b) (λ x. eqb x b) refl (λ x xs. step (eqb x b) (index_of b xs)) t
  where
    step : (same : Bool) (i : ℕ) → index_after same i ≡ cond same 0 (1 + i)
    step true i = refl
    step false i = omega arith

-- what `strip_prefix` compares is what a text begins with
pub begins_is : (s t : List ℕ) → begins s t ≡ pointwise eqb (take (length s) t) s
begins_is [] t = refl
begins_is (b ∷ s) [] = refl
begins_is (b ∷ s) (x ∷ t) = ap (λ rest. eqb x b && rest) (begins_is s t)

-- the same of the byte after it, for a text that is long enough or not
pub equals_is : (key t : List ℕ) → eqb (get_or t (length key) 0) equals ≡ pointwise eqb (take 1 (drop (length key) t)) (equals ∷ [])
equals_is [] [] = refl
equals_is [] (x ∷ t) = sym (and-true (eqb x equals))
equals_is (b ∷ key) [] = refl
equals_is (b ∷ key) (x ∷ t) = equals_is key t
