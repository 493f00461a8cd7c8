-- `profile::writer_text::put_costs` meets its contract: each number is put into what is left after the one before it. Assumes nothing.
use native.Mathlib.Omega.{arith}
use Rattle.profile.proofs.WriterLaws.{three_wrote}
use Rattle.profile.proofs.writer_text.put_costs.Goals as goal

pub returns : goal.returns
returns c = three_wrote (omega arith) c.requires c.put_number-after_m.ensures c.put_number.ensures c.put_number-2.ensures
