-- `accounts::listing::held_len` meets its contract. Assumes nothing.
use Rattle.accounts.proofs.FeedLaws.{held_by}
use Rattle.accounts.proofs.listing.held_len.Goals as goal

pub returns : goal.returns
returns c = held_by c.args.array.now c.args.kept c.min.result c.next_at.result c.min.ensures c.next_at.ensures
