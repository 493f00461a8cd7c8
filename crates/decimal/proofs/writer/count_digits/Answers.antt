-- `decimal::writer::count_digits` meets its contract: by the power of ten. Assumes nothing.
use Rattle.std.proofs.Common.{sym, arith}
use Rattle.decimal.proofs.DecimalLaws.{length_small, length-power}
use Rattle.decimal.proofs.writer.count_digits.Goals as goal

pub returns-then-value-lt10 : goal.returns-then-value-lt10
returns-then-value-lt10 c = sym (length_small c.args.value c.if-value-lt10.true)

pub returns : goal.returns
returns c =
    let k = c.ilog10.result in
    omega (arith, length-power k c.args.value c.ilog10.ensures.power_le c.ilog10.ensures.next_power_gt)
