-- `decimal::reader::read_decimal` meets its contract: three ways out, by the first byte. Assumes nothing.
use Rattle.std.proofs.Common.{◌≡◌, sym, ap, ◌∙◌, arith, drop, get_or}
use Rattle.text.proofs.Writing.{tail_part}
use Rattle.decimal.specs.Numerals.{least, greatest, signed}
use Rattle.decimal.specs.DecimalSteps.{unsigned_reading, minus}
use Rattle.decimal.proofs.SignSteps.{numeral-none, numeral-minus, numeral-plain, signed-minus, signed-plain, down_least}
use Rattle.decimal.proofs.reader.read_decimal.Goals as goal

pub returns-in-empty : goal.returns-in-empty
returns-in-empty c = ap signed (sym (numeral-none least greatest _ (omega arith)))

pub returns-in-45 : goal.returns-in-45
returns-in-45 c =
    let s = c.args.text.now in
    let z : get_or s 0 0 ≡ 45 = omega arith in
    c.read_minus.ensures
    ∙ ap (λ l. minus (unsigned_reading 9223372036854775808 l)) (tail_part s 1)
    ∙ signed-minus (unsigned_reading 9223372036854775808 (drop 1 s))
    ∙ ap signed (numeral-minus least 9223372036854775808 down_least 9223372036854775807 s (λ e. omega arith) z)

pub returns-in_default : goal.returns-in_default
returns-in_default c =
    let s = c.args.text.now in
    c.read_plain.ensures
    ∙ signed-plain (unsigned_reading 9223372036854775807 s)
    ∙ ap signed (numeral-plain least 9223372036854775807 s (λ e. omega arith) (λ e. omega arith))
