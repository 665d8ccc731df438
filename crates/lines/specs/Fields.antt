-- The lines of the two sheets between the part and the plates: keys in order, and how each value is read.
use Rattle.std.specs.Prelude.{ℕ, suc, Bool, cond, List, [], ◌∷◌, get_or, Option, Some, None}
use Prim.Native.String.{String}
use Rattle.text.specs.Ascii.{ascii}
use Rattle.text.specs.Line.{same, is_line, value_of}
use Rattle.text.specs.Number.{number_of}
use Rattle.lines.specs.declared.field.Field.{Field as LineField}
use Rattle.lines.specs.declared.field.Field.TheVariants.{Form, Material, Shell, Temperature, Pressure, Diameter, Allowance, Od, Width, Rib, RibWidth, M, Y, Circle, Bolt, Root, Count, Sa, Sb}

-- form: a, c or d, as 1, 2, 3; none for another text
abbrev pub form_of : List ℕ → Option ℕ
form_of v =
    cond (same (ascii "a") v) (Some 1)
    (cond (same (ascii "c") v) (Some 2) (cond (same (ascii "d") v) (Some 3) None))

-- a line's key, and how its value is read
abbrev pub Field : Type 0
Field = List ℕ × (List ℕ → Option ℕ)

-- the number of the line that t begins with; none where the key or the value is wrong, or there is no LF
unfoldable pub line_of : List ℕ → (List ℕ → Option ℕ) → List ℕ → Option ℕ
line_of key reader t = cond (is_line key t) (reader (value_of key t)) None

abbrev pub field_of : Field → List ℕ → Option ℕ
field_of field t = line_of field.0 field.1 t

-- what the fields of the code stand for: a key
abbrev pub key_of : LineField → List ℕ
key_of Form = ascii "form"
key_of Material = ascii "material"
key_of Shell = ascii "shell"
key_of Temperature = ascii "temp"
key_of Pressure = ascii "pressure"
key_of Diameter = ascii "dia"
key_of Allowance = ascii "allow"
key_of Od = ascii "od"
key_of Width = ascii "width"
key_of Rib = ascii "rib"
key_of RibWidth = ascii "ribw"
key_of M = ascii "m"
key_of Y = ascii "y"
key_of Circle = ascii "circle"
key_of Bolt = ascii "bolt"
key_of Root = ascii "root"
key_of Count = ascii "count"
key_of Sa = ascii "sa"
key_of Sb = ascii "sb"

-- and how its value is read
abbrev pub reader_of : LineField → List ℕ → Option ℕ
reader_of Form = form_of
reader_of field = number_of

abbrev pub field_meant : LineField → Field
field_meant field = (key_of field, reader_of field)

abbrev pub endplate_fields : List Field
endplate_fields =
    (ascii "form", form_of)
    ∷ (ascii "material", number_of)
    ∷ (ascii "shell", number_of)
    ∷ (ascii "temp", number_of)
    ∷ (ascii "pressure", number_of)
    ∷ (ascii "dia", number_of)
    ∷ (ascii "allow", number_of)
    ∷ []

abbrev pub blind_flange_fields : List Field
blind_flange_fields =
    (ascii "material", number_of)
    ∷ (ascii "temp", number_of)
    ∷ (ascii "pressure", number_of)
    ∷ (ascii "allow", number_of)
    ∷ (ascii "od", number_of)
    ∷ (ascii "width", number_of)
    ∷ (ascii "rib", number_of)
    ∷ (ascii "ribw", number_of)
    ∷ (ascii "m", number_of)
    ∷ (ascii "y", number_of)
    ∷ (ascii "circle", number_of)
    ∷ (ascii "bolt", number_of)
    ∷ (ascii "root", number_of)
    ∷ (ascii "count", number_of)
    ∷ (ascii "sa", number_of)
    ∷ (ascii "sb", number_of)
    ∷ []

-- those of a blind flange, or else of an endplate
abbrev pub fields_of : Bool → List Field
fields_of blind = cond blind blind_flange_fields endplate_fields

-- where a key stands among them
abbrev pub place_of : String → List Field → ℕ
place_of key [] = 0
place_of key (field ∷ fields) = let later = place_of key fields in cond (same (ascii key) field.0) 0 (suc later)

-- the number of the field of this key, of numbers in the order of the fields
abbrev pub number_named : List Field → List ℕ → String → ℕ
number_named fields numbers key = get_or numbers (place_of key fields) 0
