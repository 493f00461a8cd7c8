-- `phc::batch::phc_judge` meets its contract. Assumes nothing.
use Rattle.std.proofs.Common.{ap, ◌∙◌}
use Rattle.accounts.specs.Batches.{batch_answer}
use Rattle.phc.specs.Batches.{judge_outcome}
use Rattle.phc.proofs.JudgeLaws.{judge_short, judge_given}
use Rattle.phc.proofs.batch.phc_judge.Goals as goal

pub returns-then-res-lt-BATCH_LEN : goal.returns-then-res-lt-BATCH_LEN
returns-then-res-lt-BATCH_LEN c =
    let a = c.args in
    ap (λ n. judge_outcome n a.answers.now a.res.now) c.refused.ensures
    ∙ judge_short a.text.now a.from a.limit a.answers.now a.res.now c.if-res-lt-BATCH_LEN.true

pub returns : goal.returns
returns c =
    let a = c.args in
    judge_given a.text.now a.from a.limit a.answers.now a.res.now c.if-res-lt-BATCH_LEN.false (batch_answer c.judge_batch.result) _ c.judge_batch.ensures
    c.give_batch.result _ c.give_batch.ensures
