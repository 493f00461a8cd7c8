-- `b64::encoder::encode_all` meets its contract.
use Rattle.std.proofs.Common.{length}
use Rattle.text.proofs.Groups.{Partly}
use Rattle.b64.specs.B64.{encode}
use Rattle.b64.proofs.encoder.encode_all.Given as goal

abbrev pub invariant-loop-group : goal.invariant-loop-group
invariant-loop-group l = Partly (encode l.bytes) l.initial.out l.out l.o (encode l.rest)

abbrev pub decreases-loop-group : goal.decreases-loop-group
decreases-loop-group l = length l.rest
