-- `grammar::items::name_and_value` meets its contract. Assumes nothing.
use Prim.Native.Nat.{ℕ, ◌+◌, ◌≤◌}
use mathlib.Core.Path.{◌≡◌, sym, ◌∙◌}
use native.Mathlib.Omega.{arith}
use lib.Dec.{eqb}
use lib.ListN.{length, drop_of_length-le}
use Rattle.std.proofs.Common.{rules, tests, take_all}
use Rattle.std.proofs.lemmas.Iterator.{YieldsList-from_slice}
use Rattle.std.proofs.lemmas.Iterator.Search.{position_from_yields_List}
use Rattle.std.specs.List.{position}
use Rattle.text.specs.Text.{find}
use Rattle.text.proofs.Splitting.{cut_before, cut_after}
use Rattle.text.proofs.Writing.{tail_part}
use Rattle.grammar.proofs.Chains.{position_some, position_none}
use Rattle.grammar.proofs.items.name_and_value.Goals as goal

pub returns-in-Some : goal.returns-in-Some
returns-in-Some c =
    let s = c.args.item.now in
    let first : c.position.result ≡ position (λ (b : ℕ). eqb b 61) s
    = position_from_yields_List (λ (b : ℕ). eqb b 61) _ _ c.position.result c.position.ensures.ran (YieldsList-from_slice s c.iter.ensures.rest) (λ x b q k. search (rules, tests)) in
    let at : c.in-Some.at ≡ find 61 s = position_some 61 s c.in-Some.at (sym first ∙ c.in-Some.is) in
    record { name = rw at (sym (cut_before 61 s)); value = tail_part s (c.in-Some.at + 1) ∙ rw at (sym (cut_after 61 s)) }

pub returns-in-None : goal.returns-in-None
returns-in-None c =
    let s = c.args.item.now in
    let first : c.position.result ≡ position (λ (b : ℕ). eqb b 61) s
    = position_from_yields_List (λ (b : ℕ). eqb b 61) _ _ c.position.result c.position.ensures.ran (YieldsList-from_slice s c.iter.ensures.rest) (λ x b q k. search (rules, tests)) in
    let none : length s ≤ find 61 s = position_none 61 s (sym first ∙ c.in-None.is) in
    record {
      name = sym (cut_before 61 s ∙ take_all (find 61 s) s none);
      value = sym (cut_after 61 s ∙ drop_of_length-le s {i = find 61 s + 1} (omega arith));
    }
