-- Texts joined: what the whole begins with, and where a byte is in it. Assumes nothing.
use Rattle.std.specs.Prelude.{ℕ, suc, ◌+◌, Bool, true, false, List, [], ◌∷◌, ◌++◌, ◌≡◌, refl, eqb, length}
use Rattle.std.proofs.Common.{arith, eq-eqb}
use Rattle.text.specs.Index.{index_of, index_after}
use Rattle.text.specs.Line.{begins}

pub begins-append : (s t : List ℕ) → begins s (s ++ t) ≡ true
begins-append [] t = refl
begins-append (b ∷ s) t = rw (eq-eqb b b refl) (begins-append s t)

-- b is not among the bytes of xs
abbrev pub Lacks : ℕ → List ℕ → Type 0
Lacks b xs = index_of b xs ≡ length xs

-- nor is it the first of them, nor among the others
pub lacks_cons : (b x : ℕ) (xs : List ℕ) → Lacks b (x ∷ xs) → (eqb x b ≡ false) × Lacks b xs
unfolding index_of index_after
lacks_cons b x xs e = go (eqb x b) refl e
  where
    go : (t : Bool) → eqb x b ≡ t → index_after t (index_of b xs) ≡ suc (length xs) → (eqb x b ≡ false) × Lacks b xs
    go true q e = absurd (omega arith)
    go false q e = (q, omega arith)

pub index_append : (b : ℕ) (xs ys : List ℕ) → Lacks b xs → index_of b (xs ++ ys) ≡ length xs + index_of b ys
unfolding index_of index_after
index_append b [] ys e = omega arith
index_append b (x ∷ xs) ys e =
    let l = lacks_cons b x xs e in
    rw l.0 (omega (arith, index_append b xs ys l.1))
