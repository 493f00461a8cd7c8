-- `profile::reader::read` meets its contract. Assumes nothing.
use Rattle.std.proofs.lemmas.Result.{err_from_is_err_and}
use mathlib.Core.Path.{sym}
use Rattle.table.specs.Limits.{edition_two}
use Rattle.profile.proofs.JudgeLaws.{never_zero}
use Rattle.profile.proofs.ReadLaws.{reading-refused}
use Rattle.profile.proofs.reader.read.Goals as goal

pub returns-in_err-parsed : goal.returns-in_err-parsed
returns-in_err-parsed c =
    let p = err_from_is_err_and c.from_residual.result c.from_residual.ensures.1 in
    rw (p.1, p.2) (reading-refused edition_two c.args.s.now _ (sym c.in_err-parsed.ensures.number_is) (never_zero c.in_err-parsed.field-0.0))

pub returns : goal.returns
returns c = c.in_ok-parsed.ensures.accepted.reading_is
