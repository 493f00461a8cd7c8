-- `profile::writer::write` meets its contract: a row, no room, or the string in the part from the place on. Assumes nothing.
use Rattle.std.proofs.lemmas.Result.{err_from_is_err_and}
use Rattle.profile.specs.Fields.{field_set}
use Rattle.profile.proofs.WriterLaws.{write_refused, fits_room, write_full, write_room, write_done}
use Rattle.profile.proofs.writer.write.Goals as goal

pub returns-in_err-permitted : goal.returns-in_err-permitted
returns-in_err-permitted c =
    let p = err_from_is_err_and c.from_residual.result c.from_residual.ensures.1 in
    rw (p.1, p.2) (write_refused (let a = c.args in field_set a.n a.keyid.now a.«data».now a.salt.now a.output.now) _ c.column_of-column.ensures.0 _ c.in_err-permitted.ensures c.args.buf.now c.args.at)

pub string_len-count-requires : goal.string_len-count-requires
string_len-count-requires c = fits_room (let a = c.args in field_set a.n a.keyid.now a.«data».now a.salt.now a.output.now) _ c.column_of-column.ensures.0 c.in_ok-permitted.ensures

pub returns-then-not-has_room : goal.returns-then-not-has_room
returns-then-not-has_room c =
    write_full (let a = c.args in field_set a.n a.keyid.now a.«data».now a.salt.now a.output.now) _ c.column_of-column.ensures.0 c.in_ok-permitted.ensures c.args.buf.now c.args.at _ c.string_len-count.ensures _ c.has_room.ensures c.if-not-has_room.true

pub put_string-requires : goal.put_string-requires
put_string-requires c =
    write_room (let a = c.args in field_set a.n a.keyid.now a.«data».now a.salt.now a.output.now) _ c.column_of-column.ensures.0 c.in_ok-permitted.ensures c.args.buf.now c.args.at _ c.string_len-count.ensures _ c.has_room.ensures c.if-not-has_room.false

pub returns : goal.returns
returns c =
    write_done (let a = c.args in field_set a.n a.keyid.now a.«data».now a.salt.now a.output.now) _ c.column_of-column.ensures.0 c.in_ok-permitted.ensures c.args.buf.now c.args.at _ c.string_len-count.ensures _ c.has_room.ensures c.if-not-has_room.false _ _ c.put_string.ensures
