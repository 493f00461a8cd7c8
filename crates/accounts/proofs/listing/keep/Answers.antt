-- `accounts::listing::keep` meets its contract. Assumes nothing.
use Rattle.accounts.proofs.FeedLaws.{kept_copied}
use Rattle.accounts.proofs.listing.keep.Goals as goal

pub returns : goal.returns
returns c =
    let a = c.args in
    kept_copied a.array.now c.copy_from_slice.new.self a.more.now a.held c.min-count.result c.requires.0 c.requires.1 c.min-count.ensures c.copy_from_slice.ensures.after
