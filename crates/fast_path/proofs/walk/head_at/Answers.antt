-- `fast_path::walk::head_at` meets its contract. Assumes nothing.
use Rattle.table.specs.Columns.{profile_in}
use Rattle.fast_path.proofs.Chains.{head_none, head_some}
use Rattle.fast_path.proofs.walk.head_at.Goals as goal

pub returns-in_err-item : goal.returns-in_err-item
returns-in_err-item c = rw c.from_residual.ensures (head_none (profile_in c.args.column) c.args.id _ c.in_err-item.ensures)

pub returns : goal.returns
returns c = rw (head_some (profile_in c.args.column) c.args.id _ _ _ _ c.in_ok-item.ensures.0) c.numbers.ensures
