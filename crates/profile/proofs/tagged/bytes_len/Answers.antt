-- `profile::tagged::bytes_len` meets its contract. Assumes nothing.
use native.Mathlib.Omega.{arith}
use Rattle.b64.proofs.B64Laws.{length_encode}
use Rattle.profile.proofs.WriterLaws.{some_bytes}
use Rattle.profile.proofs.tagged.bytes_len.Goals as goal

pub returns : goal.returns
returns c =
    let there = some_bytes c.args.bytes.now c.if-is_empty.ensures in
    rw there (omega (arith, rw there at c.requires, c.plus.ensures, c.encoded_len.ensures, length_encode c.args.bytes.now))
