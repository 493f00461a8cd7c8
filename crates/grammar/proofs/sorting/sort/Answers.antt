-- `grammar::sorting::sort` meets its contract. Assumes nothing.
use Rattle.grammar.proofs.SortLaws.{sorts}
use Rattle.grammar.proofs.sorting.sort.Goals as goal

pub returns : goal.returns
returns c = sorts c.args.s.now c.requires _ _ _ _ _ _ _ _ _ _
    c.take_piece-a.ensures c.take_piece-b.ensures c.take_piece-c.ensures c.take_piece-d.ensures c.take_piece-e.ensures
