-- `profile::tagged::decimal_len` meets its contract. Assumes nothing.
use native.Mathlib.Omega.{arith}
use Rattle.decimal.proofs.DecimalLaws.{length_digits}
use Rattle.profile.proofs.tagged.decimal_len.Goals as goal

pub returns : goal.returns
returns c = omega (arith, c.plus.ensures, rw c.from.ensures at c.unsigned_len.ensures, length_digits 9 c.args.n (omega (arith, c.ranges.n.fits)), c.requires)
