-- `decimal::reader::read_within` meets its contract: by the first byte, and by what the unsigned reader answered. Assumes nothing.
use Rattle.std.proofs.Common.{rules, ◌≡◌, sym, ap, ◌∙◌, arith, ℕ, List, length, get_or, drop, pos, Result, Ok, Err, refl}
use borrow.Author.Tests.{le-leb, lt-leb}
use Rattle.text.proofs.Writing.{tail_part}
use Rattle.decimal.specs.Numerals.{limited, limited_reading}
use Rattle.decimal.specs.DecimalSteps.{unsigned_reading}
use Rattle.decimal.specs.declared.error.DecimalError.{DecimalError}
use Rattle.decimal.specs.declared.error.DecimalError.TheVariants.{Malformed, Outside}
use Rattle.decimal.proofs.SignSteps.{from_minus, from_plain, numeral-none, numeral-minus, numeral-plain, minus-none, down_none}
use Rattle.decimal.proofs.reader.read_within.Goals as goal

-- after a minus sign, and without one
after_minus : (low high : ℕ) (s : List ℕ) → (length s ≡ 0 → ⊥) → get_or s 0 0 ≡ 45
    → (r : Result ℕ DecimalError) → r ≡ unsigned_reading 0 (drop 1 s) → limited (from_minus r) ≡ limited_reading low high s
unfolding limited_reading
after_minus low high s h m r e = ap (λ q. limited (from_minus q)) e ∙ ap limited (numeral-minus (pos low) 0 (down_none low) high s h m)

without : (low high : ℕ) (s : List ℕ) → (length s ≡ 0 → ⊥) → (get_or s 0 0 ≡ 45 → ⊥)
    → (r : Result ℕ DecimalError) → r ≡ unsigned_reading high s → limited (from_plain (pos low) r) ≡ limited_reading low high s
unfolding limited_reading
without low high s h m r e = ap (λ q. limited (from_plain (pos low) q)) e ∙ ap limited (numeral-plain (pos low) high s h m)

-- a refusal is handed on
minus-err : (e : DecimalError) → limited (from_minus (Err e)) ≡ Err e
minus-err Malformed = refl
minus-err Outside = refl

plain-err : (low : ℕ) (e : DecimalError) → limited (from_plain (pos low) (Err e)) ≡ Err e
plain-err low Malformed = refl
plain-err low Outside = refl

pub returns-in-empty : goal.returns-in-empty
unfolding limited_reading
returns-in-empty c = ap limited (sym (numeral-none _ _ _ (omega arith)))

pub returns-in_err-read_unsigned-in-45 : goal.returns-in_err-read_unsigned-in-45
returns-in_err-read_unsigned-in-45 c =
    let a = c.args in
    let z : get_or a.text.now 0 0 ≡ 45 = omega arith in
    let r = c.in_err-read_unsigned-in-45 in
    let e : Err r.field-0.0 ≡ unsigned_reading 0 (drop 1 a.text.now) = r.ensures ∙ ap (unsigned_reading 0) (tail_part a.text.now 1) in
    let q : c.from_residual.result ≡ Err r.field-0.0 = search rules in
    q ∙ sym (minus-err r.field-0.0) ∙ after_minus a.low a.high a.text.now (λ e. omega arith) z (Err r.field-0.0) e

pub returns-in_ok-read_unsigned-in-45 : goal.returns-in_ok-read_unsigned-in-45
returns-in_ok-read_unsigned-in-45 c =
    let a = c.args in
    let z : get_or a.text.now 0 0 ≡ 45 = omega arith in
    let e : Ok c.in_ok-read_unsigned-in-45.field-0 ≡ unsigned_reading 0 (drop 1 a.text.now) = c.in_ok-read_unsigned-in-45.ensures ∙ ap (unsigned_reading 0) (tail_part a.text.now 1) in
    sym (ap limited (minus-none (drop 1 a.text.now) c.in_ok-read_unsigned-in-45.field-0 (sym e)))
    ∙ after_minus a.low a.high a.text.now (λ e. omega arith) z (Ok c.in_ok-read_unsigned-in-45.field-0) e

pub returns-in_err-n-in_default : goal.returns-in_err-n-in_default
returns-in_err-n-in_default c =
    let a = c.args in
    let q : c.from_residual-in_err-n-in_default.result ≡ Err c.in_err-n-in_default.field-0.0 = search rules in
    q
    ∙ sym (plain-err a.low c.in_err-n-in_default.field-0.0)
    ∙ without a.low a.high a.text.now (λ e. omega arith) (λ e. omega arith) (Err c.in_err-n-in_default.field-0.0) c.in_err-n-in_default.ensures

pub returns-then-n-low : goal.returns-then-n-low
returns-then-n-low c =
    let a = c.args in
    rw (lt-leb _ _ c.if-n-low.true) at (without a.low a.high a.text.now (λ e. omega arith) (λ e. omega arith) (Ok c.in_ok-n-in_default.n) c.in_ok-n-in_default.ensures)

pub returns-else-n-low : goal.returns-else-n-low
returns-else-n-low c =
    let a = c.args in
    rw (le-leb _ _ c.if-n-low.false) at (without a.low a.high a.text.now (λ e. omega arith) (λ e. omega arith) (Ok c.in_ok-n-in_default.n) c.in_ok-n-in_default.ensures)
