-- The numbers of the examples, computed.
-- Assumes nothing.
use Prim.Native.Nat.{ℕ}
use Prim.Native.String.{String}
use mathlib.Core.List.{map}
use mathlib.Core.Path.{◌≡◌, refl}
use Rattle.text.specs.Text.{text}
use Rattle.b64.specs.B64.{sextet, low_bits_zero, canonical, decode}
use Rattle.decimal.specs.Decimal.{is_digit, is_unsigned, value_from, value, is_decimal, decimal_value, digits, digits_within}
use Rattle.decimal.specs.Numerals.{numeral, limited_reading}
use Rattle.grammar.specs.Bytes.{is_name_byte, is_value_byte, is_text}
use Rattle.grammar.specs.Pieces.{pieces}
use Rattle.grammar.specs.Rules.{is_item, is_params, version_reading, is_version, is_output, bad_string}
use Rattle.table.specs.Limits.{edition_two}
use Rattle.profile.specs.Fields.{FieldSet}
use Rattle.profile.specs.Reader.{reader_number}
use Rattle.profile.specs.Writer.{field_pieces, formatted}
use Rattle.directory.specs.Braced.{dollar_string}
use Rattle.directory.specs.Entries.{directory_number, directory_writer_number}
use Rattle.directory.specs.Examples.{braced_texts, field_examples}

pub text_numbers : map (λ (x : String × ℕ). directory_number edition_two (text x.0)) braced_texts ≡ map (λ (x : String × ℕ). x.1) braced_texts
unfolding directory_number dollar_string reader_number edition_two bad_string pieces is_item is_params is_version version_reading is_output is_text is_name_byte is_value_byte is_digit limited_reading numeral is_decimal decimal_value is_unsigned value value_from canonical low_bits_zero sextet decode
text_numbers = refl

pub field_numbers : map (λ (x : FieldSet × ℕ). directory_writer_number edition_two x.0) field_examples ≡ map (λ (x : FieldSet × ℕ). x.1) field_examples
unfolding directory_writer_number edition_two formatted field_pieces digits digits_within
field_numbers = refl
