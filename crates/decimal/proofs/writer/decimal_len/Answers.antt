-- `decimal::writer::decimal_len` meets its contract, by the sign. Assumes nothing.
use native.Mathlib.Omega.{arith}
use Rattle.decimal.proofs.DecimalLaws.{length_digits}
use Rattle.decimal.proofs.SignSteps.{text_below, text_other}
use Rattle.decimal.proofs.writer.decimal_len.Goals as goal

pub overflow_add-result : goal.overflow_add-result
overflow_add-result c =
    let m = c.magnitude-size in
    omega (arith, length_digits 19 m.result (omega (arith, m.type_inv)))

pub returns-then-value-lt0 : goal.returns-then-value-lt0
returns-then-value-lt0 c = rw (text_below c.args.value c.ranges.value.sfits _ c.magnitude-size.ensures c.if-value-lt0.true) (omega arith)

pub returns-else-value-lt0 : goal.returns-else-value-lt0
returns-else-value-lt0 c = rw (text_other c.args.value c.ranges.value.sfits _ c.magnitude-size.ensures c.if-value-lt0.false) c.count_digits-else-value-lt0.ensures
