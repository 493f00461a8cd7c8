-- `grammar::pieces::read` meets its contract. Assumes nothing.
use Rattle.std.proofs.Common.{◌≡◌, sym, ◌∙◌, ap, arith, rules, Err}
use Rattle.refusals.specs.Numbers.{number_of}
use Rattle.refusals.proofs.Numbers.{number_pos}
use Rattle.grammar.specs.Pieces.{pieces}
use Rattle.grammar.specs.Rules.{grammar_number}
use Rattle.grammar.specs.Layout.{places_of, accepted_layout, layout_answer}
use Rattle.grammar.specs.declared.sorting.Sorted.{Sorted}
use Rattle.grammar.proofs.Reading.{number_bad_string, number_pieces, layout-refused, layout-accepted}
use Rattle.grammar.proofs.pieces.read.Goals as goal

pub returns-then-bad_string : goal.returns-then-bad_string
returns-then-bad_string c =
    let s = c.args.s.now in
    sym (layout-refused s 1 (number_bad_string s (sym c.bad_string.ensures ∙ c.if-bad_string.true)) (λ e. omega arith))

pub returns-in_err-judge : goal.returns-in_err-judge
returns-in_err-judge c =
    let s = c.args.s.now in
    let e = c.in_err-judge.field-0.0 in
    let read : grammar_number s ≡ number_of e = number_pieces s (sym c.bad_string.ensures ∙ c.if-bad_string.false) ∙ sym c.in_err-judge.ensures in
    let q : c.from_residual.result ≡ Err e = search rules in
    ap layout_answer q ∙ sym (layout-refused s (number_of e) read (λ z. omega (arith, number_pos e)))

pub returns : goal.returns
returns c =
    let s = c.args.s.now in
    let read : grammar_number s ≡ 0 = number_pieces s (sym c.bad_string.ensures ∙ c.if-bad_string.false) ∙ sym c.in_ok-judge.ensures in
    let placed : c.sort-sorted.result.places ≡ places_of (pieces s) = ap (λ (x : Sorted). x.places) c.sort-sorted.ensures in
    ◌∙◌ {b = accepted_layout (pieces s)} (λ i. record { number = 0; places = placed i; items = c.items_of.ensures i }) (sym (layout-accepted s read))
