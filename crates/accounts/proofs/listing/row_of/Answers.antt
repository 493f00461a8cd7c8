-- `accounts::listing::row_of` meets its contract, by the room. Assumes nothing.
use Rattle.std.proofs.lemmas.Result.{err_from_is_err_and}
use Rattle.accounts.specs.Listing.{row_text}
use Rattle.accounts.proofs.FeedLaws.{row_full, row_done}
use Rattle.accounts.proofs.listing.row_of.Goals as goal

pub returns-in_err-count : goal.returns-in_err-count
returns-in_err-count c =
    let a = c.args in
    let p = err_from_is_err_and c.from_residual.result c.from_residual.ensures.1 in
    λ d. rw (p.1, p.2) (row_full d a.buf.now _ (row_text a.line a.answer) a.line a.place a.at _ c.in_err-count.ensures)

pub returns : goal.returns
returns c =
    let a = c.args in
    λ d. row_done d a.buf.now _ (row_text a.line a.answer) a.line a.place a.at _ c.in_ok-count.ensures c.next_line.result c.next_line.ensures
