-- A line: key, =, value, one LF.
use Rattle.std.specs.Prelude.{ℕ, ◌+◌, ◌-◌, Bool, true, false, ◌&&◌, List, [], ◌∷◌, eqb, ltb, cond, length, take, drop, get_or, Option, Some, None}
use Rattle.text.specs.Index.{index_of}
use Rattle.text.specs.Ascii.{line_feed, equals}

-- s is what t begins with, byte for byte
abbrev pub begins : List ℕ → List ℕ → Bool
begins [] t = true
begins (b ∷ s) [] = false
begins (b ∷ s) (x ∷ t) = eqb x b && begins s t

-- a byte is among those of t
abbrev pub contains : ℕ → List ℕ → Bool
contains b t = ltb (index_of b t) (length t)

-- where the first byte b of t is, if it has one
abbrev pub first : ℕ → List ℕ → Option ℕ
first b t = cond (contains b t) (Some (index_of b t)) None

-- what stands before the first byte b of t: all of t where it has none; and after it: nothing where it has none
unfoldable pub before : ℕ → List ℕ → List ℕ
before b t = take (index_of b t) t

unfoldable pub after : ℕ → List ℕ → List ℕ
after b t = drop (index_of b t + 1) t

-- the same bytes, and no more
abbrev pub same : List ℕ → List ℕ → Bool
same s t = eqb (length t) (length s) && begins s t

-- t begins with a line of this key: the key, = right after it, and an LF to end it
abbrev pub is_line : List ℕ → List ℕ → Bool
is_line key t = begins key t && eqb (get_or t (length key) 0) equals && contains line_feed t

-- the value of the line that t begins with: what stands between the = after the key and the LF
unfoldable pub value_of : List ℕ → List ℕ → List ℕ
value_of key t = let start = length key + 1 in take (index_of line_feed t - start) (drop start t)

-- the same where such a line stands there, and else none
abbrev pub line_value : List ℕ → List ℕ → Option (List ℕ)
line_value key t = cond (is_line key t) (Some (value_of key t)) None
