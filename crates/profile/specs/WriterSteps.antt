-- What the private steps of the writer name. Nothing here is a rule: no public contract cites it.
-- Assumes nothing.
use Rattle.profile.specs.Fields.{FieldSet, field_set}
use Rattle.profile.specs.declared.byte_strings.ByteStrings.{ByteStrings}
use Rattle.profile.specs.declared.fields.NumberFields.{NumberFields}

-- the number fields, and the byte strings that are lent
abbrev pub fields_with : NumberFields → ByteStrings → FieldSet
fields_with n b = field_set n b.keyid.now b.«data».now b.salt.now b.output.now
