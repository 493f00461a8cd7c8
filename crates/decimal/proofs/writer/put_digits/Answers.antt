-- `decimal::writer::put_digits` meets its contract. Assumes nothing.
use Rattle.std.proofs.Common.{arith, ◌++◌, length, drop, length-set}
use Rattle.decimal.specs.Decimal.{digits}
use Rattle.decimal.proofs.DigitSteps.{put_next}
use Rattle.decimal.proofs.writer.put_digits.Goals as goal

pub loop-i-preserved : goal.loop-i-preserved
loop-i-preserved c =
    let l = c.loop-i in
    let p = put_next l.buf l.i l.rest (digits c.args.value ++ drop (length (digits c.args.value)) c.args.buf.now) (omega arith) (omega arith) (l.invariant.begun (omega arith)) in
    record { inside = (omega arith, simp length-set (omega arith)); begun = p.0; done = p.1 }
