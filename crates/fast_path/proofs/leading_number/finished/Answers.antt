-- `fast_path::leading_number::finished` meets its contract. Assumes nothing.
use Rattle.std.proofs.Common.{arith}
use Rattle.fast_path.proofs.LeadingNumbers.{numeral-none, numeral_zeros, numeral-zero, numeral_is}
use Rattle.fast_path.proofs.leading_number.finished.Goals as goal
use Rattle.fast_path.proofs.leading_number.finished.Goals.{else-s-at-eq48-via-then-s-at-eq48+else-next-at-2, else-s-at-eq48-via-else-s-at-eq48}

pub returns-then-next-at : goal.returns-then-next-at
returns-then-next-at c = numeral-none c.args.s.now c.args.at _ _ c.requires.0 c.requires.1 c.if-next-at.true

pub returns-then-next-at-2 : goal.returns-then-next-at-2
returns-then-next-at-2 c = numeral_zeros c.args.s.now c.args.at _ _ c.requires.0 c.requires.1 c.if-next-at.false c.if-s-at-eq48.true c.if-next-at-2.true

pub returns : goal.returns
returns c =
    let a = c.args in
    elim c.else-s-at-eq48.branch [
      | else-s-at-eq48-via-then-s-at-eq48+else-next-at-2 w ↦ numeral-zero a.s.now a.at _ _ c.requires.0 c.requires.1 c.if-next-at.false w.if-s-at-eq48.true w.if-next-at-2.false
      | else-s-at-eq48-via-else-s-at-eq48 w ↦ numeral_is a.s.now a.at _ _ c.requires.0 c.requires.1 c.if-next-at.false w.if-s-at-eq48.false (omega arith)
    ]
