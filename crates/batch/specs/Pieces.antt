-- A book cut into its pieces: before every line that begins with part=, the first line excepted (document 02, R-1). Each piece
-- is a sheet on its own.
use Rattle.std.specs.Prelude.{ℕ, Bool, true, false, ◌&&◌, List, [], ◌∷◌, eqb, Option, Some, None}
use Rattle.std.specs.Borrow.{Bor}
use Rattle.text.specs.Ascii.{ascii, line_feed}
use Rattle.text.specs.Line.{begins}
use Rattle.batch.specs.declared.pieces.Pieces.{Pieces}

-- what a line begins with that the book is cut before
abbrev pub mark : List ℕ
mark = ascii "part="

-- the byte x ends a line, and the next line begins with the mark
abbrev pub cut_after : ℕ → List ℕ → Bool
cut_after x rest = eqb x line_feed && begins mark rest

-- a byte before the pieces of what follows it: cut off from them, or the first byte of the first
abbrev pub byte_before : Bool → ℕ → List (List ℕ) → List (List ℕ)
byte_before true x ps = (x ∷ []) ∷ ps
byte_before false x [] = (x ∷ []) ∷ []
byte_before false x (p ∷ ps) = (x ∷ p) ∷ ps

-- the pieces in book order; an empty book is one empty piece
unfoldable pub pieces_of : List ℕ → List (List ℕ)
pieces_of [] = [] ∷ []
pieces_of (x ∷ rest) = byte_before (cut_after x rest) x (pieces_of rest)

-- those of what is left of a book, if anything is
abbrev pub pieces_in : Option (Bor (List ℕ)) → List (List ℕ)
pieces_in None = []
pieces_in (Some rest) = pieces_of rest.now

abbrev pub pieces_left : Pieces → List (List ℕ)
pieces_left s = pieces_in s.rest
