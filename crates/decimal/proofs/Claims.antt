-- The claims of specs/Claims.antt, proved.
-- Assumes nothing.
use Rattle.decimal.specs.Claims.{DecimalClaims}
use Rattle.decimal.proofs.NumeralLaws.{decimal_back, back_decimal, numeral_text, text_numeral, limited_digits, digits_limited, limited_zero}

pub decimal_claims : DecimalClaims
decimal_claims =
    record {
      decimal_back = decimal_back;
      back_decimal = back_decimal;
      numeral_text = numeral_text;
      text_numeral = text_numeral;
      limited_digits = limited_digits;
      digits_limited = digits_limited;
      limited_zero = limited_zero;
    }
