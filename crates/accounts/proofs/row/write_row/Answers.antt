-- `accounts::row::write_row` meets its contract, by the room. Assumes nothing.
use Rattle.text.proofs.Writers.{writer_full, writer_over}
use Rattle.accounts.proofs.row.write_row.Goals as goal

pub returns-then-not-has_room : goal.returns-then-not-has_room
returns-then-not-has_room c =
    writer_full (record { counted = c.row_len-count.ensures; answered = c.has_room.ensures }) c.if-not-has_room.true

pub returns : goal.returns
returns c = writer_over (record { counted = c.row_len-count.ensures; answered = c.has_room.ensures }) c.if-not-has_room.false _ c.put_row.ensures.left
