-- `grammar::sorting::take_piece` meets its contract. Assumes nothing.
use mathlib.Core.Path.{◌∙◌, sym}
use Rattle.grammar.proofs.SortLaws.{stepped_past, stepped_not}
use Rattle.grammar.proofs.sorting.take_piece.Goals as goal

pub returns-else-at-s : goal.returns-else-at-s
returns-else-at-s c = stepped_past c.args.s.now c.args.which c.args.at c.if-at-s.false

pub returns-else-is_next : goal.returns-else-is_next
returns-else-is_next c =
    let e = c.next_at-end in
    stepped_not c.args.s.now c.args.which c.args.at c.if-at-s.true e.result e.ensures (sym c.is_next.ensures ∙ c.if-is_next.false)
