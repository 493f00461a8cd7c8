-- `peers::plain::decode_all` meets its contract.
use Prim.Native.Nat.{◌%◌, ◌<◌}
use lib.ListN.{drop}
use Rattle.text.proofs.Groups.{Partly}
use Rattle.b64.specs.B64.{decode}
use Rattle.peers.proofs.PlainLaws.{completed_from}
use Rattle.peers.proofs.plain.decode_all.Given as goal

abbrev pub invariant-loop-i : goal.invariant-loop-i
invariant-loop-i l = (l.prior < 64) × Partly (decode l.text) l.initial.out l.out l.o (completed_from (l.i % 4) l.prior (drop l.i l.text))
