-- The lines of a sheet, one by one. Assumes nothing.
use Rattle.std.proofs.Common.{Bool, true, false, cond, ℕ, ◌+◌, ◌≤◌, ◌<◌, List, [], ◌∷◌, ◌++◌, ◌≡◌, refl, sym, ap, map, length, take, drop, set, get_or, arith, add-one, append_assoc, append-nil, drop-cons, drop_of_length-le, take_all, eq-eqb, take-suc-set}
use Rattle.std.specs.Prelude.{Option, Some, None}
use Rattle.plates.specs.declared.Plate.{Plate}
use Rattle.text.specs.Ascii.{line_feed}
use Rattle.std.specs.Option.{option_and_then}
use Rattle.text.specs.Line.{after, is_line, value_of, line_value}
use Rattle.lines.specs.Fields.{key_of, reader_of, line_of, field_of, field_meant}
use Rattle.lines.specs.Lines.{Lines, fault, given, ahead, plates_line, last_line, lines_of}
use Rattle.lines.specs.declared.field.Field.{Field}

-- a field's number is read from its line's value, where there is one
pub field_of_is : (field : Field) (t : List ℕ)
    → field_of (field_meant field) t ≡ option_and_then (reader_of field) (line_value (key_of field) t)
unfolding line_of
field_of_is field t = go (is_line (key_of field) t)
  where
    go : (line : Bool) → let v = value_of (key_of field) t in
        cond line (reader_of field v) None ≡ option_and_then (reader_of field) (cond line (Some v) None)
    go true = refl
    go false = refl

-- the numbers read so far, before what the rest is read as
abbrev pub prepend : List ℕ → Lines → Lines
prepend xs (fault k) = fault k
prepend xs (given ys plates) = given (xs ++ ys) plates

prepend-ahead : (xs : List ℕ) (line x : ℕ) (rest : Lines)
    → prepend xs (ahead line (Some x) rest) ≡ prepend (xs ++ x ∷ []) rest
prepend-ahead xs line x (fault k) = refl
prepend-ahead xs line x (given ys plates) = ap (λ l. given l plates) (sym (append_assoc xs (x ∷ []) ys))

pub prepend_nothing : (l : Lines) → l ≡ prepend [] l
prepend_nothing (fault k) = refl
prepend_nothing (given ys plates) = refl

-- what the fields from the i-th on read
abbrev pub lines_from : ℕ → List Field → List ℕ → Lines
lines_from i fields t = lines_of (i + 2) (map field_meant (drop i fields)) t

module _ (fields : List Field) (t : List ℕ) (i : ℕ) (d : Field) (h : i < length fields) where
  pub line_fault : None ≡ field_of (field_meant (get_or fields i d)) t → lines_from i fields t ≡ fault (i + 2)
  unfolding lines_of
  line_fault e = rw (drop-cons fields i d h, ← e)

  -- a number more, and the rest of the lines
  pub line_more : (values : List ℕ) (x : ℕ) {o : Option ℕ} → i < length values
      → o ≡ field_of (field_meant (get_or fields i d)) t → o ≡ Some x
      → prepend (take i values) (lines_from i fields t)
      ≡ prepend (take (i + 1) (set values i x)) (lines_from (i + 1) fields (after line_feed t))
  unfolding lines_of
  line_more values x g e s =
      let next : i + 2 + 1 ≡ i + 1 + 2 = omega arith in
      rw (drop-cons fields i d h, ← e, s, next, add-one i, take-suc-set values i x g)
      (prepend-ahead (take i values) (i + 2) x _)

-- past the fields the last line is left
pub lines_last : (fields : List Field) (t : List ℕ) (i : ℕ) → length fields ≤ i
    → lines_from i fields t ≡ last_line (i + 2) (plates_line t) (after line_feed t)
unfolding lines_of
lines_last fields t i h = rw (drop_of_length-le fields h)

-- and with it the sheet, if nothing follows it
pub lines_end : (fields : List Field) (t : List ℕ) (i : ℕ) (values : List ℕ) (plates : List Plate) → length fields ≤ i → length values ≤ i
    → Some plates ≡ plates_line t → length (after line_feed t) ≡ 0
    → prepend (take i values) (lines_from i fields t) ≡ given values plates
lines_end fields t i values plates h k e n =
    rw (lines_last fields t i h, ← e, eq-eqb (length (after line_feed t)) 0 n, take_all i values k, append-nil values)
