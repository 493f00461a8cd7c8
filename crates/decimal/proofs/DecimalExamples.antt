-- Texts on either side of the rules of decimals, read by the definitions.
-- Assumes nothing.
use Prim.Native.Nat.{ℕ}
use Prim.Native.String.{String}
use mathlib.Core.Path.{◌≡◌, refl}
use mathlib.Core.List.{List, [], ◌∷◌, map}
use Rattle.text.specs.Text.{text}
use Rattle.decimal.specs.Decimal.{is_digit, is_unsigned, value_from, value, is_decimal, decimal_value}
use Rattle.decimal.specs.Numerals.{numeral, decimal_reading, limited_reading}
use Rattle.decimal.specs.declared.error.DecimalError.{DecimalError}
use Rattle.decimal.specs.declared.error.DecimalError.TheVariants.{Malformed, Outside}
use Rattle.std.specs.Prelude.{Result, Ok, Err}

-- each text with its number
vectors : List (String × ℕ)
vectors =
    ("", 11)
    ∷ ("-", 11)
    ∷ ("-0", 11)
    ∷ ("+1", 11)
    ∷ ("00", 11)
    ∷ ("01", 11)
    ∷ ("--1", 11)
    ∷ ("-01", 11)
    ∷ ("1a", 11)
    ∷ (" 1", 11)
    ∷ ("0", 0)
    ∷ ("-1", 0)
    ∷ ("9223372036854775807", 0)
    ∷ ("9223372036854775808", 11)
    ∷ ("-9223372036854775808", 0)
    ∷ ("-9223372036854775809", 11)
    ∷ ("123456789012345678901234567890", 11)
    ∷ []

numbers : map (λ (v : String × ℕ). (decimal_reading (text v.0)).number) vectors ≡ map (λ (v : String × ℕ). v.1) vectors
unfolding vectors numeral is_decimal decimal_value is_unsigned is_digit value value_from
numbers = refl

-- each text as a number of 0 to 4294967295
limits : List (String × Result ℕ DecimalError)
limits =
    ("-", Err Malformed)
    ∷ ("-0", Err Malformed)
    ∷ ("05", Err Malformed)
    ∷ ("-5", Err Outside)
    ∷ ("0", Ok 0)
    ∷ ("4294967295", Ok 4294967295)
    ∷ ("4294967296", Err Outside)
    ∷ ("1234567890123456789012345678901234567890123456789012345678901234567890123456789012345678901234567890", Err Outside)
    ∷ []

readings : map (λ (v : String × Result ℕ DecimalError). limited_reading 0 4294967295 (text v.0)) limits ≡ map (λ (v : String × Result ℕ DecimalError). v.1) limits
unfolding limits limited_reading numeral is_decimal decimal_value is_unsigned is_digit value value_from
readings = refl
