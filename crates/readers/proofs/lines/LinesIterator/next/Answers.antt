-- `readers::lines::Lines::next` gives the first line and leaves the others. Assumes nothing.
use Rattle.std.proofs.Common.{rules}
use Rattle.readers.proofs.LinesLaws.{lines_none, lines_at, lines_last}
use Rattle.readers.proofs.lines.LinesIterator.next.Goals as goal

pub returns-then-is_empty-clause-steps : goal.returns-then-is_empty-clause-steps
returns-then-is_empty-clause-steps c = search (rules, lines_none)

pub returns-in_default-clause-steps : goal.returns-in_default-clause-steps
returns-in_default-clause-steps c = search (rules, lines_last, lines_none)

pub returns-in_default-clause-goes : goal.returns-in_default-clause-goes
returns-in_default-clause-goes c = search (rules, lines_last, lines_none)

pub returns-clause-steps : goal.returns-clause-steps
returns-clause-steps c = lines_at _ _ c.in-Some.ensures

pub returns-clause-goes : goal.returns-clause-goes
returns-clause-goes c =
    let e = lines_at c.args.self.now.0.now c.in-Some.end c.in-Some.ensures in
    search rules
