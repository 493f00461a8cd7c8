-- `profile::name_field::name_len` meets its contract. Assumes nothing.
use mathlib.Core.Path.{ap}
use lib.ListN.{length}
use Rattle.table.specs.Limits.{edition_two}
use Rattle.profile.proofs.name_field.name_len.Goals as goal

pub returns : goal.returns
unfolding edition_two
returns c = ap length c.name_at.ensures
