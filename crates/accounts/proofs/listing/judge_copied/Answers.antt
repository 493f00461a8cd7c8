-- `accounts::listing::judge_copied` meets its contract: the two parts stand one after the other. Assumes nothing.
use Rattle.std.proofs.Common.{ap, ◌∙◌}
use Rattle.accounts.specs.Lines.{line_answer}
use Rattle.accounts.proofs.FeedLaws.{joined}
use Rattle.accounts.proofs.listing.judge_copied.Goals as goal

pub returns : goal.returns
returns c =
    let a = c.args in
    c.judge.ensures ∙ ap line_answer (joined a.out.now a.begun.now a.more.now _ _ c.copy_from_slice.ensures.after c.copy_from_slice-2.ensures.after c.requires)
