-- `b64::decoder::sextet_at` meets its contract. Assumes nothing.
use Rattle.b64.proofs.RunLaws.{sextet-past}
use Rattle.b64.proofs.decoder.sextet_at.Goals as goal

pub returns-in-None : goal.returns-in-None
returns-in-None c = sextet-past c.args.s.now c.args.i c.in-None.ensures.lookup.3
