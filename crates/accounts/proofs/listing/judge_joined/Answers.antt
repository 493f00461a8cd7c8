-- `accounts::listing::judge_joined` meets its contract. Assumes nothing.
use Rattle.std.proofs.Common.{◌++◌, arith}
use lib.ListN.{length-append}
use Rattle.accounts.proofs.LineLaws.{answer_long}
use Rattle.accounts.proofs.listing.judge_joined.Goals as goal

pub returns-then-saturating_add-gt-LONGEST_LINE : goal.returns-then-saturating_add-gt-LONGEST_LINE
returns-then-saturating_add-gt-LONGEST_LINE c =
    let a = c.args in
    answer_long (a.begun.now ++ a.more.now) (omega (arith, length-append a.begun.now a.more.now, c.if-saturating_add-gt-LONGEST_LINE.true, c.saturating_add.ensures))
