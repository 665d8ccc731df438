-- Bytes that these texts are made of.
use Rattle.std.specs.Prelude.{ℕ, List, [], ◌∷◌}
use Prim.Native.Char.{code}
use Prim.Native.String.{String, [] as empty, ◌∷◌ as ◌then◌}

-- the bytes of an ASCII text
abbrev pub ascii : String → List ℕ
ascii empty = []
ascii (c then s) = code c ∷ ascii s

-- LF
abbrev pub line_feed : ℕ
line_feed = 10

-- =
abbrev pub equals : ℕ
equals = 61

-- ,
abbrev pub comma : ℕ
comma = 44

-- :
abbrev pub colon : ℕ
colon = 58
