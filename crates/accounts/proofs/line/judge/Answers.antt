-- `accounts::line::judge` meets its contract. Assumes nothing.
use Rattle.std.proofs.lemmas.Result.{err_from_is_err_and}
use Rattle.accounts.proofs.LineLaws.{answer_string, answer_refused}
use Rattle.accounts.proofs.line.judge.Goals as goal

pub returns-in_err-string : goal.returns-in_err-string
returns-in_err-string c =
    let p = err_from_is_err_and c.from_residual.result c.from_residual.ensures.1 in
    rw (p.1, p.2) (answer_refused c.args.line.now _ c.in_err-string.ensures.refusal)

pub returns-in_err-record : goal.returns-in_err-record
returns-in_err-record c =
    let p = err_from_is_err_and c.from_residual-in_err-record.result c.from_residual-in_err-record.ensures.1 in
    let s = c.in_ok-string in
    rw (p.1, p.2) (answer_string c.args.line.now s.ensures.refusal _ s.ensures.string _ c.in_err-record.ensures)

pub returns : goal.returns
returns c = let s = c.in_ok-string in answer_string c.args.line.now s.ensures.refusal _ s.ensures.string _ c.in_ok-record.ensures
