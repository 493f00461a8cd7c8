-- What is proved of the definitions, over every text: proofs/Claims.antt has a value of the record.
-- Assumes nothing.
use Rattle.std.specs.Prelude.{ℕ, ◌≤◌, ◌≡◌, true, List, ℤ, Ok}
use Rattle.decimal.specs.Decimal.{digits, decimal_text}
use Rattle.decimal.specs.Numerals.{number, between, numeral, least, greatest, decimal_reading, limited_reading, limited_number, limited_value}

pub record DecimalClaims : Type 0 where
  -- reader and writer undo each other over the whole signed range
  pub decimal_back : (z : ℤ) → between least greatest z ≡ true → decimal_reading (decimal_text z) ≡ record { number = 0; value = z }
  pub back_decimal : (s : List ℕ) → (decimal_reading s).number ≡ 0 → decimal_text (decimal_reading s).value ≡ s
  -- over any range: a number of it is read from its text, and from no other
  pub numeral_text : (low high z : ℤ) → between low high z ≡ true → numeral low high (decimal_text z) ≡ number z
  pub text_numeral : (low high : ℤ) (s : List ℕ) (z : ℤ) → numeral low high s ≡ number z → (s ≡ decimal_text z) × (between low high z ≡ true)
  -- and so over a range of natural numbers
  pub limited_digits : (low high n : ℕ) → low ≤ n → n ≤ high → limited_reading low high (digits n) ≡ Ok n
  pub digits_limited : (low high : ℕ) (s : List ℕ) (n : ℕ) → limited_reading low high s ≡ Ok n → (s ≡ digits n) × (low ≤ n) × (n ≤ high)
  -- where the number is 0, the text is that of the value
  pub limited_zero : (low high : ℕ) (s : List ℕ) → limited_number (limited_reading low high s) ≡ 0 → s ≡ digits (limited_value (limited_reading low high s))
