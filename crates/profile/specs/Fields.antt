-- 'The fields are: id, version, m, t, p, and four byte strings (keyid, data, salt, output).' How one number, one byte string and the version are
-- read and written.
-- Assumes nothing.
use Rattle.std.specs.Prelude.{ℕ, Result, Bool, true, false, cond, ◌&&◌, List, [], ◌∷◌, ◌++◌, eqb, length}
use Rattle.std.proofs.Math.Option.{none, some}
use Rattle.text.specs.Text.{text}
use Rattle.b64.specs.B64.{canonical, decode, encode}
use Rattle.decimal.specs.Decimal.{digits}
use Rattle.decimal.specs.Numerals.{limited_reading, limited_number, limited_value}
use Rattle.decimal.specs.declared.error.DecimalError.{DecimalError}
use Rattle.grammar.specs.Pieces.{OptionalText}
use Rattle.grammar.specs.Rules.{version_reading}
use Rattle.table.specs.Limits.{lowest, highest, default_of, is_omitted, is_size}
use Rattle.table.specs.declared.limits.NumberRule.{NumberRule}
use Rattle.table.specs.declared.limits.BytesRule.{BytesRule}
use Rattle.table.specs.declared.limits.BytesRule.TheVariants.{Sized, Forbidden}
use Rattle.table.specs.declared.version.Version.{Version}
use Rattle.table.specs.declared.version.Version.TheVariants.{Absent, Number}
use Rattle.profile.specs.declared.fields.NumberFields.{NumberFields}
use Rattle.profile.specs.declared.fields.ByteString.{ByteString}
use Rattle.profile.specs.declared.fields.ByteString.TheVariants.{Keyid, Data, Salt, Output}

-- 01's fields: the number fields (id, version, m, t, p), and the four byte strings beside them. 'Two sets of fields are the same when all nine
-- agree': that is `≡` of this record
pub record FieldSet : Type 0 where
  pub numbers : NumberFields
  pub keyid : List ℕ
  pub «data» : List ℕ
  pub salt : List ℕ
  pub output : List ℕ

abbrev pub field_set : NumberFields → List ℕ → List ℕ → List ℕ → List ℕ → FieldSet
field_set numbers keyid «data» salt output = record { numbers = numbers; keyid = keyid; «data» = «data»; salt = salt; output = output }

abbrev pub chosen : ByteString → FieldSet → List ℕ
chosen Keyid f = f.keyid
chosen Data f = f.«data»
chosen Salt f = f.salt
chosen Output f = f.output

-- ---- one number, by its value's text, where there is one

abbrev pub number_reading : NumberRule → List ℕ → Result ℕ DecimalError
number_reading r t = limited_reading (lowest r) (highest r) t

-- a permitted decimal, in range
abbrev pub is_number : NumberRule → List ℕ → Bool
is_number r t = eqb (limited_number (number_reading r t)) 0

-- as written or, where it is left out, what stands for it. Free answer: 0 for a text that is no decimal in range; a number that is no parameter
-- has itself as its range, so itself or 0. Rows 10 and 11 come before
abbrev pub read_number : NumberRule → OptionalText → ℕ
read_number r none = default_of r
read_number r (some t) = limited_value (number_reading r t)

-- written out, though it is to be left out
abbrev pub written_out : NumberRule → OptionalText → Bool
written_out r none = false
written_out r (some t) = is_omitted r (read_number r (some t))

abbrev pub write_number : NumberRule → ℕ → OptionalText
write_number r n = cond (is_omitted r n) none (some (digits n))

-- ---- one byte string

abbrev pub unknown_bytes : BytesRule → OptionalText → Bool
unknown_bytes (Sized low high) s = false
unknown_bytes Forbidden none = false
unknown_bytes Forbidden (some t) = true

-- of a permitted length, in bytes
abbrev pub is_decoded_size : BytesRule → List ℕ → Bool
is_decoded_size r t = is_size r (length (decode t))

abbrev pub is_bytes : BytesRule → List ℕ → Bool
is_bytes r t = canonical t && is_decoded_size r t

-- decoded; empty where it isn't there
abbrev pub read_bytes : OptionalText → List ℕ
read_bytes none = []
read_bytes (some t) = decode t

-- 'An empty salt or output stands for one that isn't there'; keyid and data are 'omitted when empty'
abbrev pub write_bytes : List ℕ → OptionalText
write_bytes [] = none
write_bytes (b ∷ bs) = some (encode (b ∷ bs))

-- ---- the version

abbrev pub read_version : OptionalText → Version
read_version none = Absent
read_version (some s) = Number (limited_value (version_reading s))

abbrev pub write_version : Version → OptionalText
write_version Absent = none
write_version (Number n) = some (text "v=" ++ digits n)
