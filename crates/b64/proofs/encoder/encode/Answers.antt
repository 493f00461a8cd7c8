-- `b64::encoder::encode` meets its contract.
use native.Mathlib.Omega.{arith}
use Rattle.text.proofs.Writers.{Asked, writer_full, writer_room, writer_done}
use Rattle.b64.specs.B64.{encode}
use Rattle.b64.proofs.B64Laws.{length_encode}
use Rattle.b64.proofs.encoder.encode.Goals as goal

pub encode_all-requires : goal.encode_all-requires
encode_all-requires c =
    let asked : let a = c.args in Asked a.buf.now a.at (encode a.bytes.now) c.encoded_len-count.result.0 c.has_room.result = record {
      counted = omega (arith, length_encode c.args.bytes.now, c.encoded_len-count.ensures, c.well_formed.0.1);
      answered = c.has_room.ensures;
    } in
    writer_room asked c.if-not-has_room.false

pub returns : goal.returns
returns c =
    let asked : let a = c.args in Asked a.buf.now a.at (encode a.bytes.now) c.encoded_len-count.result.0 c.has_room.result = record {
      counted = omega (arith, length_encode c.args.bytes.now, c.encoded_len-count.ensures, c.well_formed.0.1);
      answered = c.has_room.ensures;
    } in
    writer_done asked c.if-not-has_room.false _ c.encode_all.ensures

pub returns-then-not-has_room : goal.returns-then-not-has_room
returns-then-not-has_room c =
    let asked : let a = c.args in Asked a.buf.now a.at (encode a.bytes.now) c.encoded_len-count.result.0 c.has_room.result = record {
      counted = omega (arith, length_encode c.args.bytes.now, c.encoded_len-count.ensures, c.well_formed.0.1);
      answered = c.has_room.ensures;
    } in
    writer_full asked c.if-not-has_room.true
