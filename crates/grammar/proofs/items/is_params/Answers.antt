-- `grammar::items::is_params` meets its contract. Assumes nothing.
use Prim.Native.Nat.{ℕ, ◌+◌}
use mathlib.Core.Bool.{Bool, ◌&&◌}
use mathlib.Core.List.{List}
use mathlib.Core.Path.{◌≡◌, ◌∙◌, ap}
use native.Mathlib.Omega.{arith}
use lib.Dec.{leb, eqb}
use lib.ListN.{length}
use Rattle.std.proofs.Common.{rules, tests}
use Rattle.std.proofs.lemmas.Iterator.Consumers.{YieldsList-from_enumerate}
use Rattle.std.proofs.lemmas.Iterator.Search.{all_from_yields_List}
use Rattle.std.proofs.lemmas.Iterator.Splits.{YieldsList-from_slice_split}
use Rattle.std.proofs.lemmas.List.{length-map}
use Rattle.std.specs.List.{list_all, enumerate_from}
use Rattle.text.specs.Text.{all, cut, parts}
use Rattle.grammar.specs.Items.{items}
use Rattle.grammar.specs.Rules.{is_item, is_params}
use Rattle.grammar.proofs.Chains.{all-map, among, among-first, split-parts}
use Rattle.grammar.proofs.items.is_params.Goals as goal

keeps : List ℕ → Bool
keeps t = is_item (cut 61 t)

few_and_kept : (s : List ℕ) → (leb (0 + length (parts 44 s)) 16 && all keeps (parts 44 s)) ≡ is_params s
unfolding is_params keeps
few_and_kept s =
    let n : 0 + length (parts 44 s) ≡ length (items s) = omega (arith, length-map (parts 44 s) (cut 61)) in
    rw (n, all-map is_item (cut 61) (parts 44 s))

pub returns : goal.returns
unfolding keeps
returns c =
    let s = c.args.params.now in
    all_from_yields_List (among keeps 16) _ _ _ c.all.ensures.ran
    (YieldsList-from_enumerate {s = c.enumerate.result}
    (YieldsList-from_slice_split _ (λ (b : ℕ). eqb b 44) s (cc) (cc) (cc) (λ x b q k. search (rules, tests)))
    c.enumerate.ensures.count)
    (λ x b q k. search (rules, tests))
    ∙ ap (λ (l : List (List ℕ)). list_all (among keeps 16) (enumerate_from 0 l)) (split-parts 44 s)
    ∙ among-first keeps 16 0 (parts 44 s) (omega arith)
    ∙ few_and_kept s
