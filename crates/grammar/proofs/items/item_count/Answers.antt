-- `grammar::items::item_count` meets its contract. Assumes nothing.
use Prim.Native.Nat.{ℕ, ◌+◌}
use mathlib.Core.Path.{◌≡◌, sym, ◌∙◌, ap}
use lib.Dec.{eqb}
use Rattle.std.proofs.Common.{rules}
use Rattle.std.proofs.lemmas.List.{length-map}
use Rattle.std.specs.List.{count_by}
use Rattle.text.specs.Text.{cut, parts}
use Rattle.grammar.proofs.Chains.{count-parts}
use Rattle.grammar.proofs.items.item_count.Goals as goal

pub returns : goal.returns
returns c =
    let s = c.args.params.now in
    let n : c.count.result ≡ count_by (λ (b : ℕ). eqb b 44) s = search rules in
    ap (λ (k : ℕ). k + 1) n ∙ count-parts 44 s ∙ sym (length-map (parts 44 s) (cut 61))
