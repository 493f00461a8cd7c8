-- `decimal::writer::write_decimal` meets its contract, by the room: the text goes into the part from the place on. Assumes nothing.
use mathlib.Core.Path.{ap, ◌∙◌}
use lib.ListN.{length}
use Rattle.text.proofs.Writers.{Asked, writer_full, writer_done}
use Rattle.decimal.specs.Decimal.{decimal_text}
use Rattle.decimal.proofs.SignSteps.{read_back}
use Rattle.decimal.proofs.writer.write_decimal.Goals as goal

pub returns-then-not-has_room : goal.returns-then-not-has_room
returns-then-not-has_room c =
    let asked : let a = c.args in Asked a.buf.now a.at (decimal_text a.value) c.decimal_len-count.result.0 c.has_room.result = record {
      counted = c.decimal_len-count.ensures ∙ ap (λ z. length (decimal_text z)) (read_back c.args.value c.ranges.value.sfits);
      answered = c.has_room.ensures;
    } in
    writer_full asked c.if-not-has_room.true

pub returns : goal.returns
returns c =
    let asked : let a = c.args in Asked a.buf.now a.at (decimal_text a.value) c.decimal_len-count.result.0 c.has_room.result = record {
      counted = c.decimal_len-count.ensures ∙ ap (λ z. length (decimal_text z)) (read_back c.args.value c.ranges.value.sfits);
      answered = c.has_room.ensures;
    } in
    writer_done asked c.if-not-has_room.false _
    (rw (read_back c.args.value c.ranges.value.sfits) at c.put_decimal.ensures.1)
