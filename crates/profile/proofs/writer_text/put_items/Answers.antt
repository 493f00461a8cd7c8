-- `profile::writer_text::put_items` meets its contract: keyid and data are put after the numbers. Assumes nothing.
use native.Mathlib.Omega.{arith}
use Rattle.profile.proofs.WriterLaws.{three_wrote}
use Rattle.profile.proofs.writer_text.put_items.Goals as goal

pub returns : goal.returns
returns c = three_wrote (omega arith) c.requires c.put_costs-after_costs.ensures c.put_bytes.ensures c.put_bytes-2.ensures
