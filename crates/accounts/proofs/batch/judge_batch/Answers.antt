-- `accounts::batch::judge_batch` meets its contract, by the room. Assumes nothing.
use Rattle.std.proofs.Common.{sym, ap, ◌∙◌, length}
use borrow.Author.Tests.{leb-true, leb-false}
use Rattle.accounts.specs.Batches.{batch_count}
use Rattle.accounts.proofs.BatchLaws.{batch_full, batch_part}
use Rattle.accounts.proofs.batch.judge_batch.Goals as goal

pub returns-then-not-answers_fit : goal.returns-then-not-answers_fit
returns-then-not-answers_fit c =
    let a = c.args in
    batch_full a.text.now a.from a.limit a.answers.now (leb-false (batch_count a.text.now a.from a.limit) (length a.answers.now) (sym c.answers_fit.ensures ∙ c.if-not-answers_fit.true))

pub returns : goal.returns
returns c =
    let a = c.args in
    batch_part a.text.now a.from a.limit a.answers.now c.min-most.result c.min-most.ensures
    (leb-true (batch_count a.text.now a.from a.limit) (length a.answers.now) (sym c.answers_fit.ensures ∙ c.if-not-answers_fit.false)) _ c.judge_lines.new.answers c.judge_lines.ensures
