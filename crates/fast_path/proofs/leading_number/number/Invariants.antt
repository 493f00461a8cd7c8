-- `fast_path::leading_number::number` meets its contract. Assumes nothing.
use Rattle.std.proofs.Common.{◌+◌}
use Rattle.fast_path.proofs.LeadingNumbers.{Counting}
use Rattle.fast_path.proofs.leading_number.number.Given as goal

abbrev pub invariant-loop-i : goal.invariant-loop-i
invariant-loop-i l = Counting l.s l.at l.n (l.at + l.i)
