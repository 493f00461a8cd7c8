-- `grammar::parts::item_name` meets its contract. Assumes nothing.
use mathlib.Core.Path.{◌∙◌, ap}
use Rattle.grammar.specs.Items.{Item}
use Rattle.grammar.proofs.Reading.{item_is}
use Rattle.grammar.proofs.parts.item_name.Goals as goal

pub returns : goal.returns
returns c =
    let a = c.args in
    c.name_and_value.ensures.name
    ∙ ap (λ (i : Item). i.0) (item_is a.s.now a.index c.piece.result.now c.nth_part.result.now c.piece.ensures c.nth_part.ensures)
