-- `profile::reader::algorithm_version` meets its contract. Assumes nothing.
use Rattle.std.proofs.lemmas.Result.{err_from_is_err_and}
use mathlib.Core.Path.{◌∙◌, ap}
use Rattle.table.specs.Limits.{edition_two}
use Rattle.profile.specs.Entries.{kind_number, algorithm_version_of, algorithm_version}
use Rattle.profile.proofs.reader.algorithm_version.Goals as goal

pub returns-in_err-found : goal.returns-in_err-found
unfolding algorithm_version
returns-in_err-found c =
    let p = err_from_is_err_and c.from_residual.result c.from_residual.ensures.1 in
    rw (p.1, p.2) (ap (algorithm_version_of edition_two) c.in_err-found.ensures)

pub returns : goal.returns
unfolding algorithm_version
returns c =
    c.algorithm_version_of.ensures 0 (kind_number c.in_ok-found.found.kind)
    ∙ ap (algorithm_version_of edition_two) c.in_ok-found.ensures
