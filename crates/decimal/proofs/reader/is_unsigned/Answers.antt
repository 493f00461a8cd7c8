-- `decimal::reader::is_unsigned` meets its contract: three ways out, by the first byte. Assumes nothing.
use Rattle.std.proofs.Common.{◌≡◌, ◌∙◌, get_or, arith, length, eqb}
use Rattle.std.proofs.lemmas.Grind.{common_steps}
use Rattle.text.proofs.Library.{all-list_all}
use Rattle.decimal.specs.Decimal.{is_digit}
use Rattle.decimal.proofs.DigitSteps.{unsigned_none, unsigned_zero, unsigned_other}
use Rattle.decimal.proofs.reader.is_unsigned.Goals as goal

pub returns-in-empty : goal.returns-in-empty
returns-in-empty c = unsigned_none _ (omega arith)

pub returns-in-48 : goal.returns-in-48
returns-in-48 c =
    let s = c.args.text.now in
    let z : get_or s 0 0 ≡ 48 = omega arith in
    let one : c.is_empty.result ≡ eqb (length s) 1 = grind (arith, common_steps) in
    one ∙ unsigned_zero s (λ e. omega arith) z

pub returns-in_default : goal.returns-in_default
returns-in_default c =
    let s = c.args.text.now in
    let z : get_or s 0 0 ≡ 48 → ⊥ = λ e. omega arith in
    c.all_digits.ensures ∙ all-list_all is_digit s ∙ unsigned_other s (λ e. omega arith) z
