-- `text::place::write_text` meets its contract, by the room: the text goes into the part from the place on. Assumes nothing.
use mathlib.Core.Path.{refl}
use lib.ListN.{length}
use Rattle.text.proofs.Writers.{Asked, writer_full, writer_over}
use Rattle.text.proofs.place.write_text.Goals as goal

pub returns-then-not-has_room : goal.returns-then-not-has_room
returns-then-not-has_room c =
    let asked : let a = c.args in Asked a.buf.now a.at a.text.now (length a.text.now) c.has_room.result = record { counted = refl; answered = c.has_room.ensures } in
    writer_full asked c.if-not-has_room.true

pub returns : goal.returns
returns c =
    let asked : let a = c.args in Asked a.buf.now a.at a.text.now (length a.text.now) c.has_room.result = record { counted = refl; answered = c.has_room.ensures } in
    writer_over asked c.if-not-has_room.false _ c.copy_text.ensures
