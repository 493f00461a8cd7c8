-- `accounts::room::skip_lines` meets its contract: past each line the place after the lines left is the one after all. Assumes nothing.
use Rattle.std.proofs.Common.{◌≡◌, ◌-◌}
use Rattle.accounts.specs.Batches.{place_after}
use Rattle.accounts.proofs.room.skip_lines.Given as goal

abbrev pub invariant-loop : goal.invariant-loop
invariant-loop l = place_after l.text l.place (l.limit - l.counter) ≡ place_after l.text l.from l.limit
