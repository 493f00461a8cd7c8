-- `decimal::reader::read_plain` meets its contract. Assumes nothing.
use Rattle.std.proofs.Common.{sym, ap, ◌∙◌, arith, ◌<◌, ◌^◌, Ok}
use mir.Syntax.{w64}
use mir.ValLaws.{to_z_pos}
use Rattle.decimal.specs.DecimalSteps.{plain}
use Rattle.decimal.proofs.SignSteps.{read_most}
use Rattle.decimal.proofs.reader.read_plain.Goals as goal

small : (c : goal.In_ok-n) → c.in_ok-n.n < 2 ^ 63
small c = omega (arith, read_most 9223372036854775807 c.args.text.now c.in_ok-n.n (sym c.in_ok-n.ensures))

pub overflow_cast-result : goal.overflow_cast-result
overflow_cast-result c = record { sfits = small c }

pub returns : goal.returns
returns c = ap Ok (to_z_pos w64 c.in_ok-n.n (small c)) ∙ ap plain c.in_ok-n.ensures
