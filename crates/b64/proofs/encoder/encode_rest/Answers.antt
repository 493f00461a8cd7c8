-- `b64::encoder::encode_rest` meets its contract.
use native.Mathlib.Omega.{arith}
use lib.ListN.{length-set}
use Rattle.b64.proofs.B64Laws.{length_encode}
use Rattle.b64.proofs.B64Code.{encode-none, one_stored, two_stored}
use Rattle.b64.proofs.encoder.encode_rest.Goals as goal

pub returns-in_default : goal.returns-in_default
returns-in_default c = rw (encode-none c.args.bytes.now (omega arith))

pub bounds-out-0 : goal.bounds-out-0
bounds-out-0 c = omega (arith, length_encode c.args.bytes.now)

pub bounds-out-1 : goal.bounds-out-1
bounds-out-1 c = simp length-set (omega (arith, length_encode c.args.bytes.now))

pub bounds-out-1-in-len2-up : goal.bounds-out-1-in-len2-up
bounds-out-1-in-len2-up c = simp length-set (omega (arith, length_encode c.args.bytes.now))

pub bounds-out-2 : goal.bounds-out-2
bounds-out-2 c = simp length-set (omega (arith, length_encode c.args.bytes.now))

pub returns-in_default-bytes : goal.returns-in_default-bytes
returns-in_default-bytes c =
    one_stored c.args.bytes.now c.args.out.now _ _ 0 0 c.letter_of.ensures c.letter_of-in_default-bytes.ensures (omega arith) c.requires.bytes_in_bounds

pub returns-in-len2-up : goal.returns-in-len2-up
returns-in-len2-up c = two_stored c.args.bytes.now c.args.out.now _ _ _ 0 c.letter_of.ensures c.letter_of-in-len2-up.ensures c.letter_of-in-len2-up-2.ensures
    (omega arith) c.requires.bytes_in_bounds
