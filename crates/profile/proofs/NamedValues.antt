-- The items and the values of the names, in order: each is had back from the other.
-- Assumes nothing.
use Prim.Native.Nat.{ℕ}
use mathlib.Core.Bool.{Bool, true, false, not, cond, ◌&&◌}
use mathlib.Core.List.{List, [], ◌∷◌, ◌++◌}
use mathlib.Core.Option.{Option, none, some}
use mathlib.Core.Path.{◌≡◌, refl, sym, ◌∙◌, ap, ap₂}
use Rattle.text.specs.Text.{same, head_if, tail_if, list_of, Fails}
use Rattle.text.proofs.Tests.{both, is_false}
use Rattle.text.proofs.Lists.{same_eq, same_refl, head_tail, head_of, tail_of}
use Rattle.grammar.specs.Pieces.{OptionalText}
use Rattle.grammar.specs.Items.{Item}
use Rattle.profile.specs.Reader.{named, item_value, named_values, unmatched_items}
use Rattle.profile.specs.Writer.{item, item_list}

-- ---- from the items to the values and back

only_named : (n : List ℕ) (is : List Item) → item n (item_value (head_if (named n) is)) ≡ list_of (head_if (named n) is)
only_named n [] = refl
only_named n (i ∷ is) = go (named n i) refl
  where
    go : (b : Bool) → named n i ≡ b → item n (item_value (cond b (some i) none)) ≡ list_of (cond b (some i) none)
    go true e = ap {B = List Item} (λ (m : List ℕ). (m, i.1) ∷ []) (sym (same_eq i.0 n e))
    go false e = refl

pub list_values : (ns : List (List ℕ)) (is : List Item) → unmatched_items ns is ≡ [] → item_list ns (named_values ns is) ≡ is
list_values [] is e = sym e
list_values (n ∷ ns) is e =
    ap₂ ◌++◌ (only_named n is) (list_values ns (tail_if (named n) is) e) ∙ head_tail (named n) is

-- ---- from the values to the items and back

-- the name n is not among ns
abbrev fresh : List ℕ → List (List ℕ) → Bool
fresh n [] = true
fresh n (x ∷ ns) = not (same x n) && fresh n ns

-- no name stands twice
abbrev pub distinct : List (List ℕ) → Bool
distinct [] = true
distinct (n ∷ ns) = fresh n ns && distinct ns

-- a value for each name
abbrev pub Aligned : List (List ℕ) → List OptionalText → Type 0
Aligned [] [] = Unit {0}
Aligned [] (v ∷ vs) = ⊥
Aligned (n ∷ ns) [] = ⊥
Aligned (n ∷ ns) (v ∷ vs) = Aligned ns vs

others_fail : (n : List ℕ) (ns : List (List ℕ)) (vs : List OptionalText) → fresh n ns ≡ true → Fails (named n) (item_list ns vs)
others_fail n [] vs e = tt
others_fail n (x ∷ ns) [] e = tt
others_fail n (x ∷ ns) (none ∷ vs) e = others_fail n ns vs (both (not (same x n)) (fresh n ns) e).1
others_fail n (x ∷ ns) (some v ∷ vs) e = is_false (same x n) (both (not (same x n)) (fresh n ns) e).0

item_of : List ℕ → OptionalText → Option Item
item_of n none = none
item_of n (some v) = some (n, v)

item-fits : (n : List ℕ) (v : OptionalText) (is : List Item) → Fails (named n) is → (head_if (named n) (item n v ++ is) ≡ item_of n v) × (tail_if (named n) (item n v ++ is) ≡ is)
unfolding item_of
item-fits n none is h = (head_of (named n) none is h, tail_of (named n) none is h)
item-fits n (some v) is h = (head_of (named n) (some (n, v)) is (same_refl n), tail_of (named n) (some (n, v)) is (same_refl n))

value-item : (n : List ℕ) (v : OptionalText) → item_value (item_of n v) ≡ v
unfolding item_of
value-item n none = refl
value-item n (some v) = refl

pub values_list : (ns : List (List ℕ)) (vs : List OptionalText) → distinct ns ≡ true → Aligned ns vs → (named_values ns (item_list ns vs) ≡ vs) × (unmatched_items ns (item_list ns vs) ≡ [])
values_list [] [] e a = (refl, refl)
values_list [] (v ∷ vs) e a = absurd a
values_list (n ∷ ns) [] e a = absurd a
values_list (n ∷ ns) (v ∷ vs) e a =
    let q = both (fresh n ns) (distinct ns) e in
    let r = item-fits n v (item_list ns vs) (others_fail n ns vs q.0) in
    let h = values_list ns vs q.1 a in
    (ap₂ {C = List OptionalText} ◌∷◌ (ap item_value r.0 ∙ value-item n v) (ap (named_values ns) r.1 ∙ h.0), ap (unmatched_items ns) r.1 ∙ h.1)
