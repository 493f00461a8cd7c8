-- `directory::reader::read` meets its contract. Assumes nothing.
use Rattle.std.proofs.Common.{◌∙◌}
use Rattle.std.proofs.lemmas.Result.{err_from_is_err_and}
use Rattle.directory.proofs.ReaderLaws.{read_string, read_refused}
use Rattle.directory.proofs.reader.read.Goals as goal

pub returns-in_err-s : goal.returns-in_err-s
returns-in_err-s c =
    let p = err_from_is_err_and c.from_residual.result c.from_residual.ensures.1 in
    rw (p.1, p.2) (read_refused c.args.t.now _ c.in_err-s.ensures.refused)

pub returns : goal.returns
returns c = c.read.ensures ∙ read_string c.args.t.now c.in_ok-s.s.now c.in_ok-s.ensures.string
