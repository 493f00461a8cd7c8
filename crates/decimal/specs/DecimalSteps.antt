-- What the private steps of the decimal readers promise each other. Nothing here is a rule: no public contract cites it.
-- Assumes nothing.
use Rattle.std.specs.Prelude.{ℕ, cond, List, leb, eqb, ℤ, pos, negsuc, neg_ℤ, Option, Some, None, Result, Ok, Err}
use Rattle.std.specs.Option.{ok_or}
use Rattle.decimal.specs.Decimal.{is_unsigned, value}
use Rattle.decimal.specs.declared.error.DecimalError.{DecimalError}
use Rattle.decimal.specs.declared.error.DecimalError.TheVariants.{Malformed, Outside}

-- n where it is at most the limit
unfoldable pub up_to : ℕ → ℕ → Option ℕ
up_to limit n = cond (leb n limit) (Some n) None

-- a text without a sign read as a decimal of at most the limit
unfoldable pub unsigned_reading : ℕ → List ℕ → Result ℕ DecimalError
unsigned_reading limit s = cond (is_unsigned s) (ok_or (up_to limit (value s)) Outside) (Err Malformed)

-- what a reader of the digits found, as a signed number: without a sign, and after a minus sign
abbrev pub plain : Result ℕ DecimalError → Result ℤ DecimalError
plain (Err e) = Err e
plain (Ok n) = Ok (pos n)

abbrev pub minus : Result ℕ DecimalError → Result ℤ DecimalError
minus (Err e) = Err e
minus (Ok n) = cond (eqb n 0) (Err Malformed) (Ok (neg_ℤ (pos n)))

-- -1 - z
abbrev pub complement_of : ℤ → ℤ
complement_of (pos n) = negsuc n
complement_of (negsuc n) = pos n
