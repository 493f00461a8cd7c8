-- `accounts::listing::end` meets its contract. Assumes nothing.
use Rattle.std.proofs.Common.{sym, ap, ◌∙◌}
use Rattle.text.specs.Place.{put}
use Rattle.accounts.specs.Feeding.{end_put}
use Rattle.accounts.proofs.FeedLaws.{end_nothing, end_row}
use Rattle.accounts.proofs.listing.end.Goals as goal

pub returns-then-held-eq0 : goal.returns-then-held-eq0
unfolding end_put
returns-then-held-eq0 c =
    let a = c.args in
    c.write_text.ensures
    ∙ ap (put a.buf.now a.at) (sym (end_nothing a.array.now a.kept c.held_len-held.result a.line c.held_len-held.ensures c.if-held-eq0.true))

pub returns : goal.returns
unfolding end_put
returns c =
    let a = c.args in
    c.write_row.ensures
    ∙ ap (put a.buf.now a.at) (sym (end_row a.array.now a.kept c.held_len-held.result a.line c.held_len-held.ensures c.if-held-eq0.false c.from.result (c.from.ensures ∙ c.judge.ensures)))
