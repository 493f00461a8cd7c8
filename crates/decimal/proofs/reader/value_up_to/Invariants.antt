-- `decimal::reader::value_up_to` meets its contract: the number read so far is within the limit, and what is left makes of it the whole.
use Rattle.std.proofs.Common.{◌≡◌, ◌≤◌, drop}
use Rattle.decimal.specs.Decimal.{value, value_from}
use Rattle.decimal.proofs.reader.value_up_to.Given as goal

abbrev pub invariant-loop-c : goal.invariant-loop-c
invariant-loop-c l = record { within : l.n ≤ l.limit; left : value_from l.n (drop l.c-index l.text) ≡ value l.text }
