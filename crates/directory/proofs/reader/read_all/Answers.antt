-- `directory::reader::read_all` meets its contract. Assumes nothing.
use Rattle.std.proofs.Common.{ap, ◌∙◌}
use Rattle.std.proofs.lemmas.Result.{err_from_is_err_and}
use Rattle.text.specs.Place.{Outcome}
use Rattle.directory.proofs.ReaderLaws.{all_decoded_string, contents_string, all-decoded-refused, contents-refused}
use Rattle.directory.proofs.reader.read_all.Goals as goal

pub returns-in_err-s : goal.returns-in_err-s
returns-in_err-s c =
    let a = c.args in
    let r = c.in_err-s.ensures.refused in
    let p = err_from_is_err_and c.from_residual.result c.from_residual.ensures.1 in (
      rw (p.1, p.2) (contents-refused a.t.now _ r a.buf.now a.at),
      ap (λ (o : Outcome). o.buffer) (all-decoded-refused a.t.now _ r a.buf.now a.at),
    )

pub returns : goal.returns
returns c =
    let a = c.args in
    let s = c.in_ok-s.s.now in
    let d = c.in_ok-s.ensures.string in (
      c.read_all.ensures.0 ∙ contents_string a.t.now s d a.buf.now a.at,
      c.read_all.ensures.1 ∙ ap (λ (o : Outcome). o.buffer) (all_decoded_string a.t.now s d a.buf.now a.at),
    )
