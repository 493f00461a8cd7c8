-- `profile::reader::values_at` meets its contract. Assumes nothing.
use Rattle.profile.proofs.reader.values_at.Goals as goal

pub returns-else-there : goal.returns-else-there
returns-else-there c = rw c.if-there.false (c.no_values.ensures c.args.params.now)
