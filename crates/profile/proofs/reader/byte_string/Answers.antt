-- `profile::reader::byte_string` meets its contract. Assumes nothing.
use Rattle.std.proofs.lemmas.Result.{err_from_is_err_and}
use mathlib.Core.Path.{◌∙◌}
use Rattle.profile.proofs.ReadLaws.{bytes-refused, bytes-decoded}
use Rattle.profile.proofs.reader.byte_string.Goals as goal

pub returns-in_err-accepted : goal.returns-in_err-accepted
returns-in_err-accepted c =
    let a = c.args in
    let p = err_from_is_err_and c.from_residual.result c.from_residual.ensures.1 in
    rw (p.1, p.2) (bytes-refused a.s.now a.choice a.buf.now a.at _ c.in_err-accepted.ensures)

pub returns : goal.returns
returns c =
    let a = c.args in
    c.decode.ensures ∙ bytes-decoded a.s.now a.choice a.buf.now a.at c.in_ok-accepted.accepted c.in_ok-accepted.ensures c.text_of.result.now c.text_of.ensures
