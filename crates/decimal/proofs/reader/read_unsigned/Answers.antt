-- `decimal::reader::read_unsigned` meets its contract, by the two callees'. Assumes nothing.
use Rattle.std.proofs.Common.{sym, ◌∙◌}
use Rattle.decimal.specs.DecimalSteps.{unsigned_reading}
use Rattle.decimal.proofs.reader.read_unsigned.Goals as goal

pub returns-then-not-is_unsigned : goal.returns-then-not-is_unsigned
unfolding unsigned_reading
returns-then-not-is_unsigned c = rw (sym c.is_unsigned.ensures ∙ c.if-not-is_unsigned.true)

pub returns : goal.returns
unfolding unsigned_reading
returns c = rw (sym c.is_unsigned.ensures ∙ c.if-not-is_unsigned.false, c.ok_or.ensures.value, c.value_up_to.ensures)
