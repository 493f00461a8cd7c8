-- `decimal::reader::read_minus` meets its contract. Assumes nothing.
use Rattle.std.proofs.Common.{sym, arith}
use Rattle.decimal.proofs.SignSteps.{read_most}
use Rattle.decimal.proofs.reader.read_minus.Goals as goal

pub negated-requires : goal.negated-requires
negated-requires c = (omega arith, read_most 9223372036854775808 c.args.text.now c.in_ok-n.n (sym c.in_ok-n.ensures))
