-- `b64::decoder::decode_pairs` meets its contract. Assumes nothing.
use Prim.Native.Nat.{◌*◌}
use Rattle.b64.specs.RunSteps.{Reached}
use Rattle.b64.proofs.decoder.decode_pairs.Given as goal

abbrev pub invariant-loop-k : goal.invariant-loop-k
invariant-loop-k l = Reached l.text 0 l.initial.out 0 l.out (l.k * 8) (l.k * 6)
