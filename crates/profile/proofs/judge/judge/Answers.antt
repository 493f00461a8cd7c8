-- `profile::judge::judge` meets its contract. Assumes nothing.
use Rattle.std.proofs.lemmas.Result.{err_from_is_err_and}
use Rattle.profile.proofs.JudgeLaws.{at_defaults, at_salt, at_output}
use Rattle.profile.proofs.judge.judge.Goals as goal

pub returns-in_err-bytes_and_defaults : goal.returns-in_err-bytes_and_defaults
returns-in_err-bytes_and_defaults c =
    let p = err_from_is_err_and c.from_residual-in_err-bytes_and_defaults.result c.from_residual-in_err-bytes_and_defaults.ensures.1 in
    rw (p.1, p.2) (search (at_defaults, c.if-not-version_allowed.ensures, c.if-missing_or_unknown_names.ensures, c.in_ok-costs.ensures.number_is, c.in_err-bytes_and_defaults.ensures))

pub returns-then-bad_bytes : goal.returns-then-bad_bytes
returns-then-bad_bytes c =
    search (at_salt, c.if-not-version_allowed.ensures, c.if-missing_or_unknown_names.ensures, c.in_ok-costs.ensures.number_is, c.in_ok-bytes_and_defaults.ensures, c.if-bad_bytes.ensures)

pub returns-then-bad_size : goal.returns-then-bad_size
returns-then-bad_size c =
    search (at_output, c.if-not-version_allowed.ensures, c.if-missing_or_unknown_names.ensures, c.in_ok-costs.ensures.number_is, c.in_ok-bytes_and_defaults.ensures, c.if-bad_bytes.ensures, c.if-bad_size.ensures)
