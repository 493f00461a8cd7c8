-- `decimal::writer::write_unsigned` meets its contract, by the room: the digits go into the part from the place on. Assumes nothing.
use Rattle.text.proofs.Writers.{Asked, writer_full, writer_done}
use Rattle.decimal.specs.Decimal.{digits}
use Rattle.decimal.proofs.writer.write_unsigned.Goals as goal

pub returns-then-not-has_room : goal.returns-then-not-has_room
returns-then-not-has_room c =
    let asked : let a = c.args in Asked a.buf.now a.at (digits a.value) c.unsigned_len-count.result.0 c.has_room.result = record { counted = c.unsigned_len-count.ensures; answered = c.has_room.ensures } in
    writer_full asked c.if-not-has_room.true

pub returns : goal.returns
returns c =
    let asked : let a = c.args in Asked a.buf.now a.at (digits a.value) c.unsigned_len-count.result.0 c.has_room.result = record { counted = c.unsigned_len-count.ensures; answered = c.has_room.ensures } in
    writer_done asked c.if-not-has_room.false _ c.put_digits.ensures.1
