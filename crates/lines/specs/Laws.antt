-- The tables of fields say what the two sheets' fields are. Assumes nothing.
use Rattle.std.specs.Prelude.{◌≡◌, refl, map}
use Rattle.lines.specs.Fields.{field_meant, endplate_fields, blind_flange_fields}
use Rattle.lines.specs.declared.endplate.TheConstants as endplate
use Rattle.lines.specs.declared.blind_flange.TheConstants as blind_flange

pub endplate_fields_meant : map field_meant endplate.FIELDS ≡ endplate_fields
endplate_fields_meant = refl

pub blind_flange_fields_meant : map field_meant blind_flange.FIELDS ≡ blind_flange_fields
blind_flange_fields_meant = refl
