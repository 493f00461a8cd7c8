-- The strings of specs/Strings.antt: their statement is computed.
-- Assumes nothing.
use mathlib.Core.Path.{refl}
use Rattle.b64.specs.B64.{sextet, low_bits_zero, canonical, decode}
use Rattle.decimal.specs.Decimal.{is_digit, is_unsigned, value_from, value, is_decimal, decimal_value}
use Rattle.decimal.specs.Numerals.{numeral, limited_reading}
use Rattle.grammar.specs.Bytes.{is_name_byte, is_value_byte, is_text}
use Rattle.grammar.specs.Pieces.{pieces}
use Rattle.grammar.specs.Rules.{is_item, is_params, version_reading, is_version, is_output, bad_string}
use Rattle.table.specs.Limits.{edition_two}
use Rattle.profile.specs.Reader.{reader_number, fields_of}
use Rattle.profile.specs.Entries.{reading}
use Rattle.profile.specs.Claims.{Examples}

pub examples : Examples
unfolding reading fields_of reader_number edition_two bad_string pieces is_item is_params is_version version_reading is_output is_text is_name_byte is_value_byte is_digit limited_reading numeral is_decimal decimal_value is_unsigned value value_from canonical low_bits_zero sextet decode
examples = record { numbers = refl; reached = refl }
