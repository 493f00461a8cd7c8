-- `decimal::reader::value_up_to` meets its contract, digit by digit. Assumes nothing.
use Rattle.std.proofs.Common.{◌≡◌, ◌∙◌, get_or, arith, sym, refl, ◌+◌, ◌*◌, ◌-◌}
use Rattle.decimal.specs.Decimal.{value}
use Rattle.decimal.proofs.DigitSteps.{value-next, value-past, is_outside, is_value_lem}
use Rattle.decimal.proofs.reader.value_up_to.Goals as goal

pub loop-c-init : goal.loop-c-init
unfolding value
loop-c-init c = record { within = omega arith; left = refl }

pub returns-in_err-checked_mul : goal.returns-in_err-checked_mul
returns-in_err-checked_mul c =
    let a = c.args in
    let l = c.loop-c in
    rw c.from_residual.ensures (is_outside a.text.now l.c-index l.n a.limit c.loop-c-test.true l.invariant.left (omega arith))

pub returns-in_err-n : goal.returns-in_err-n
returns-in_err-n c =
    let a = c.args in
    let l = c.loop-c in
    rw c.from_residual-in_err-n.ensures (is_outside a.text.now l.c-index l.n a.limit c.loop-c-test.true l.invariant.left (omega arith))

pub returns-then-limit-n : goal.returns-then-limit-n
returns-then-limit-n c =
    let a = c.args in
    let l = c.loop-c in
    is_outside a.text.now l.c-index l.n a.limit c.loop-c-test.true l.invariant.left (omega arith)

pub loop-c-preserved : goal.loop-c-preserved
loop-c-preserved c =
    let a = c.args in
    let l = c.loop-c in
    let n : c.in_ok-n.n ≡ l.n * 10 + (get_or a.text.now l.c-index 0 - 48) = omega arith in
    record { within = omega arith; left = rw n (sym (value-next a.text.now l.c-index l.n c.loop-c-test.true) ∙ l.invariant.left) }

pub returns : goal.returns
returns c =
    let a = c.args in
    let l = c.loop-c in
    is_value_lem a.limit l.n (value a.text.now) l.invariant.within (sym (value-past a.text.now l.c-index l.n (omega arith)) ∙ l.invariant.left)
