-- 'A public entry reads any text as a signed decimal; anything else gets number 11 and the number 0.' What the readers and the writer of decimals
-- give: inside there are three outcomes, over any range.
-- Assumes nothing.
use Rattle.std.specs.Prelude.{ℕ, Bool, cond, ◌&&◌, List, ℤ, pos, neg_ℤ, nat_abs, Result, Ok, Err}
use Rattle.std.specs.Int.Signed.{le_z}
use Rattle.text.specs.Place.{Outcome, put}
use Rattle.decimal.specs.Decimal.{is_decimal, decimal_value, decimal_text}
use Rattle.decimal.specs.declared.error.DecimalError.{DecimalError}
use Rattle.decimal.specs.declared.error.DecimalError.TheVariants.{Malformed, Outside}

-- no decimal; a decimal outside the range; or its number
pub data Numeral : Type 0 where
  malformed : Numeral
  outside : Numeral
  number : ℤ → Numeral

abbrev pub between : ℤ → ℤ → ℤ → Bool
between low high z = le_z low z && le_z z high

-- a text read as a decimal from low to high
unfoldable pub numeral : ℤ → ℤ → List ℕ → Numeral
numeral low high s =
    cond (is_decimal s) (cond (between low high (decimal_value s)) (number (decimal_value s)) outside) malformed

-- ---- the public reader

-- −9,223,372,036,854,775,808 and 9,223,372,036,854,775,807
abbrev pub least : ℤ
least = neg_ℤ (pos 9223372036854775808)

abbrev pub greatest : ℤ
greatest = pos 9223372036854775807

abbrev pub signed : Numeral → Result ℤ DecimalError
signed malformed = Err Malformed
signed outside = Err Outside
signed (number z) = Ok z

abbrev pub signed_reading : List ℕ → Result ℤ DecimalError
signed_reading s = signed (numeral least greatest s)

-- document 01's number for each outcome, and the number read
pub record Decimal : Type 0 where
  pub number : ℕ
  pub value : ℤ

abbrev pub decimal_answer : Result ℤ DecimalError → Decimal
decimal_answer (Err Malformed) = record { number = 11; value = pos 0 }
decimal_answer (Err Outside) = record { number = 11; value = pos 0 }
decimal_answer (Ok z) = record { number = 0; value = z }

abbrev pub decimal_reading : List ℕ → Decimal
decimal_reading s = decimal_answer (signed_reading s)

-- ---- the reader over a range of natural numbers; a negative decimal is outside it

-- z is not negative here: the range begins at `pos low`
abbrev pub limited : Numeral → Result ℕ DecimalError
limited malformed = Err Malformed
limited outside = Err Outside
limited (number z) = Ok (nat_abs z)

-- Free answer: in a range whose low end is past its high end nothing lies, and every decimal is outside
unfoldable pub limited_reading : ℕ → ℕ → List ℕ → Result ℕ DecimalError
limited_reading low high s = limited (numeral (pos low) (pos high) s)

-- document 01's number for each outcome
abbrev pub limited_number : Result ℕ DecimalError → ℕ
limited_number (Err Malformed) = 11
limited_number (Err Outside) = 11
limited_number (Ok n) = 0

-- and the value read, 0 where none was
abbrev pub limited_value : Result ℕ DecimalError → ℕ
limited_value (Err Malformed) = 0
limited_value (Err Outside) = 0
limited_value (Ok n) = n

-- ---- the writer: 17, or the text of the number from the place on

abbrev pub decimal_writing : ℤ → List ℕ → ℕ → Outcome
decimal_writing z buffer at = put buffer at (decimal_text z)
