-- `grammar::names::is_name` meets its contract. Assumes nothing.
use mathlib.Core.Bool.{true}
use mathlib.Core.Path.{◌≡◌, ◌∙◌}
use lib.ListN.{length}
use Rattle.std.proofs.Common.{rules, tests}
use Rattle.std.proofs.lemmas.Iterator.{YieldsList-from_slice}
use Rattle.std.proofs.lemmas.Iterator.Search.{all_from_yields_List}
use Rattle.text.specs.Text.{within}
use Rattle.grammar.specs.Bytes.{is_name_byte, is_text}
use Rattle.grammar.proofs.Chains.{list_all_is}
use Rattle.grammar.proofs.names.is_name.Goals as goal

pub returns-then-contains : goal.returns-then-contains
unfolding is_text
returns-then-contains c =
    let s = c.args.text.now in
    let sized : within 1 32 (length s) ≡ true = search rules in
    rw sized (all_from_yields_List is_name_byte _ _ _ c.all.ensures.ran (YieldsList-from_slice s c.iter.ensures.rest) (λ x b q k. search (rules, tests)) ∙ list_all_is is_name_byte s)
