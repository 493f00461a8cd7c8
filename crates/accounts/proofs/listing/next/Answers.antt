-- `accounts::listing::next` meets its contract: a line that ends in the part, or a part that is used up. Assumes nothing.
use Rattle.std.proofs.Common.{◌≡◌, ◌∙◌, drop, arith}
use Rattle.std.proofs.lemmas.Grind.{common_steps}
use Rattle.accounts.proofs.FeedLaws.{next_row, next_used, next_past}
use Rattle.accounts.proofs.listing.next.Goals as goal

pub returns-then-end-part : goal.returns-then-end-part
returns-then-end-part c =
    let a = c.args in
    next_row a.array.now a.kept c.held_len-held.result a.line a.part.now a.from c.next_at-end.result a.buf.now _ a.at c.row_of.result c.from.result
    c.held_len-held.ensures c.next_at-end.ensures c.if-end-part.true (c.from.ensures ∙ c.judge_joined-answer.ensures) (c.row_of.ensures a.array.now)

pub returns-then-buf-at : goal.returns-then-buf-at
returns-then-buf-at c =
    let a = c.args in
    next_past a.array.now a.kept c.held_len-held.result a.line a.part.now a.from c.next_at-end.result a.buf.now a.at c.next_at-end.ensures c.if-end-part.false c.if-buf-at.true

pub returns : goal.returns
returns c =
    let a = c.args in
    let rest : c.unwrap_or.result.now ≡ drop a.from a.part.now = grind (arith, common_steps, c.get.ensures.lookup, c.unwrap_or.ensures) in
    next_used a.array.now a.kept c.held_len-held.result a.line a.part.now a.from c.next_at-end.result a.buf.now c.keep.new.array a.at c.keep.result c.unwrap_or.result.now
    c.if-buf-at.false c.told-array c.held_len-held.ensures c.next_at-end.ensures c.if-end-part.false rest c.keep.ensures.0 c.keep.ensures.1
