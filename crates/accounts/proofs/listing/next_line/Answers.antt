-- `accounts::listing::next_line` meets its contract. Assumes nothing.
use Rattle.std.proofs.Common.{◌∙◌, arith}
use Rattle.accounts.proofs.RowLaws.{next-min}
use Rattle.accounts.proofs.listing.next_line.Goals as goal

pub returns : goal.returns
returns c = c.saturating_add.ensures ∙ next-min c.args.line (omega (arith, c.ranges.line.fits))
