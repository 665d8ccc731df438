-- The number that a line of a report shows, read out of the report's bytes.
use Rattle.std.specs.Prelude.{ℕ, Bool, true, false, cond, List, [], ◌∷◌, eqb, length}
use Prim.Native.String.{String}
use Rattle.text.specs.Ascii.{ascii, line_feed}
use Rattle.text.specs.Line.{is_line, value_of}
use Rattle.text.specs.Number.{digits_after}
use Rattle.std.specs.Prelude.{Option, None}

-- a number of one digit or more
abbrev pub whole_number : List ℕ → Option ℕ
whole_number v = cond (eqb (length v) 0) None (digits_after 0 v)

-- the number of the first line of this key; malformed where there is none. t begins with a line, or else within one; the
-- next line begins after an LF
unfoldable pub printed_from : Bool → List ℕ → List ℕ → Option ℕ
printed_from line key [] = None
printed_from false key (b ∷ t) = printed_from (eqb b line_feed) key t
printed_from true key (b ∷ t) =
    let later = printed_from (eqb b line_feed) key t in
    cond (is_line key (b ∷ t)) (whole_number (value_of key (b ∷ t))) later

abbrev pub printed : String → List ℕ → Option ℕ
printed key report = printed_from true (ascii key) report
