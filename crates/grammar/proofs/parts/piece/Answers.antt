-- `grammar::parts::piece` meets its contract. Assumes nothing.
use Rattle.std.proofs.Common.{sym, ◌∙◌, ap}
use Rattle.grammar.specs.Layout.{span_of, LayoutAnswer}
use Rattle.grammar.specs.Parts.{part_at}
use Rattle.grammar.proofs.Reading.{layout_part, no_span}
use Rattle.grammar.proofs.Spans.{part_empty}
use Rattle.grammar.proofs.parts.piece.Goals as goal

pub returns-in-Ok : goal.returns-in-Ok
returns-in-Ok c =
    let a = c.args in
    c.part.ensures
    ∙ ap (part_at a.s.now) (c.span_of.ensures ∙ ap (λ (l : LayoutAnswer). span_of l.places a.which) c.in-Ok.ensures)
    ∙ layout_part a.s.now a.which

pub returns-in-Err : goal.returns-in-Err
returns-in-Err c =
    let a = c.args in
    sym (part_empty a.s.now)
    ∙ ap (part_at a.s.now) (sym (no_span a.which) ∙ ap (λ (l : LayoutAnswer). span_of l.places a.which) c.in-Err.ensures)
    ∙ layout_part a.s.now a.which
