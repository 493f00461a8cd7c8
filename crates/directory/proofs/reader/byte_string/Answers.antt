-- `directory::reader::byte_string` meets its contract. Assumes nothing.
use Rattle.std.proofs.Common.{◌∙◌}
use Rattle.std.proofs.lemmas.Result.{err_from_is_err_and}
use Rattle.directory.proofs.ReaderLaws.{decoded_string, decoded-refused}
use Rattle.directory.proofs.reader.byte_string.Goals as goal

pub returns-in_err-s : goal.returns-in_err-s
returns-in_err-s c =
    let a = c.args in
    let p = err_from_is_err_and c.from_residual.result c.from_residual.ensures.1 in
    rw (p.1, p.2) (decoded-refused a.t.now _ c.in_err-s.ensures.refused a.buf.now a.at a.choice)

pub returns : goal.returns
returns c =
    let a = c.args in
    c.byte_string.ensures ∙ decoded_string a.t.now c.in_ok-s.s.now c.in_ok-s.ensures.string a.buf.now a.at a.choice
