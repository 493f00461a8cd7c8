-- `profile::writer_text::put_head` meets its contract: the version and the parameters are put after the id. Assumes nothing.
use native.Mathlib.Omega.{arith}
use Rattle.profile.proofs.WriterLaws.{three_wrote}
use Rattle.profile.proofs.writer_text.put_head.Goals as goal

pub returns : goal.returns
returns c = three_wrote (omega arith) c.requires c.put_name-after_id.ensures c.put_version.ensures c.put_params.ensures
