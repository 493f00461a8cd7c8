-- `fast_path::items::number_item` meets its contract. Assumes nothing.
use Rattle.std.proofs.Common.{sym, ◌∙◌}
use Rattle.fast_path.proofs.Chains.{number_there, number_absent}
use Rattle.fast_path.proofs.items.number_item.Goals as goal

pub returns-then-begins : goal.returns-then-begins
returns-then-begins c =
    let a = c.args in
    rw (number_there a.rule a.name.now a.separator a.s.now a.at (sym c.begins.ensures ∙ c.if-begins.true)) c.written_number.ensures

pub returns : goal.returns
returns c =
    let a = c.args in
    rw (number_absent a.rule a.name.now a.separator a.s.now a.at (sym c.begins.ensures ∙ c.if-begins.false)) (c.omitted_number.ensures a.s.now c.requires)
