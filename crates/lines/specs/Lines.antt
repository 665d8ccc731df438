-- The lines of a sheet after the first, each what must stand there, or the number of the first that is not.
use Rattle.std.specs.Prelude.{ℕ, ◌+◌, cond, List, [], ◌∷◌, eqb, length, Option, Some, None, Result, Ok, Err}
use Rattle.plates.specs.declared.Plate.{Plate}
use Rattle.text.specs.Ascii.{ascii, line_feed}
use Rattle.text.specs.Line.{is_line, value_of, after}
use Rattle.text.specs.Plates.{plates_of, plates_held}
use Rattle.lines.specs.Fields.{Field, field_of}
use Rattle.lines.specs.declared.SheetLines.{SheetLines}
use Rattle.lines.specs.declared.Malformed.{Malformed}

pub data Lines : Type 0 where
  -- the number of the first line that is absent, has a wrong key or value text or no LF, or follows the last
  fault : ℕ → Lines
  -- the numbers of the lines, and the plates
  given : List ℕ → List Plate → Lines

-- a line's number before those of the lines after it
abbrev pub ahead : ℕ → Option ℕ → Lines → Lines
ahead line (Some x) (given xs plates) = given (x ∷ xs) plates
ahead line (Some x) (fault k) = fault k
ahead line None rest = fault line

-- the plates that the line which t begins with lists
unfoldable pub plates_line : List ℕ → Option (List Plate)
plates_line t = let key = ascii "plates" in cond (is_line key t) (plates_of (value_of key t)) None

-- plates, and no byte after their line
abbrev pub last_line : ℕ → Option (List Plate) → List ℕ → Lines
last_line line None rest = fault line
last_line line (Some plates) rest = cond (eqb (length rest) 0) (given [] plates) (fault (line + 1))

-- t is the lines of the fields and that of the plates; the first of them has the number `line`
unfoldable pub lines_of : ℕ → List Field → List ℕ → Lines
lines_of line [] t = last_line line (plates_line t) (after line_feed t)
lines_of line (field ∷ fields) t =
    let rest = lines_of (line + 1) fields (after line_feed t) in
    ahead line (field_of field t) rest

-- those that were read
abbrev pub lines_read : {N : ℕ} → Result (SheetLines N) Malformed → Lines
lines_read (Ok lines) = given lines.values (plates_held lines.plates)
lines_read (Err malformed) = fault malformed.line
