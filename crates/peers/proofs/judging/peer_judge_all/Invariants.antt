-- `peers::judging::peer_judge_all` meets its contract: those counted and those of the lines left are all. Assumes nothing.
use Prim.Native.Nat.{◌+◌, ◌-◌, ◌≤◌}
use mathlib.Core.Path.{◌≡◌}
use lib.ListN.{length}
use Rattle.accounts.specs.Lines.{lines, lines_left}
use Rattle.accounts.specs.Batches.{numbers_of}
use Rattle.peers.specs.Judging.{accepted}
use Rattle.peers.proofs.judging.peer_judge_all.Given as goal

abbrev pub invariant-loop-place : goal.invariant-loop-place
invariant-loop-place l = (l.count ≤ l.place) × (l.count + accepted (numbers_of (lines_left l.text l.place)) ≡ accepted (numbers_of (lines l.text)))

abbrev pub decreases-loop-place : goal.decreases-loop-place
decreases-loop-place l = length l.text - l.place
