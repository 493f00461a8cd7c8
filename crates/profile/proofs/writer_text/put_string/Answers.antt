-- `profile::writer_text::put_string` meets its contract: salt and output are put after the pieces before them. Assumes nothing.
use native.Mathlib.Omega.{arith}
use Rattle.profile.proofs.WriterLaws.{three_wrote}
use Rattle.profile.proofs.writer_text.put_string.Goals as goal

pub returns : goal.returns
returns c = three_wrote (omega arith) c.requires c.put_head-after_head.ensures c.put_bytes.ensures c.put_bytes-2.ensures
