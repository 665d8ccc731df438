-- Where a byte is among others.
use Rattle.std.specs.Prelude.{ℕ, suc, Bool, true, false, List, [], ◌∷◌, eqb}

-- the index of a list whose first byte is the one sought, or else one more than that of the rest
unfoldable pub index_after : Bool → ℕ → ℕ
index_after true i = 0
index_after false i = suc i

-- the index of the first byte b of t, or t's length where it has none
unfoldable pub index_of : ℕ → List ℕ → ℕ
index_of b [] = 0
index_of b (x ∷ t) = index_after (eqb x b) (index_of b t)
