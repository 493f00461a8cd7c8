-- The items of a parameter piece, walked from a place on; their rule; and the way back from items to the piece.
-- Assumes nothing.
use Prim.Native.Nat.{ℕ, zero, suc}
use mathlib.Core.Bool.{true, false, not, ◌&&◌, false≢true}
use mathlib.Core.List.{List, [], ◌∷◌, map}
use mathlib.Core.Option.{some}
use mathlib.Core.Path.{◌≡◌, refl, sym, ◌∙◌, ap, ap₂}
use lib.Dec.{eqb}
use lib.ListN.{length, get_or}
use Rattle.text.specs.Text.{text, within, all, has, same, empty, Parts, split, join, cut, NoneHas}
use Rattle.text.proofs.Tests.{both}
use Rattle.text.proofs.Lists.{not_in, has-append, join-split, split_join, cut-join, join-cut}
use Rattle.text.proofs.Splitting.{from_zero}
use Rattle.grammar.specs.Bytes.{comma, equals, is_name_byte, is_value_byte, is_text}
use Rattle.grammar.specs.Pieces.{OptionalText}
use Rattle.grammar.specs.Items.{Item, item_text, items, items_from, items_of, params_text}
use Rattle.grammar.specs.Rules.{is_name, is_value, is_item}

-- ---- from a place on

pub items_start : (s : List ℕ) → items s ≡ items_from s 0
items_start s = ap (map (cut equals)) (sym (from_zero comma s))

-- ---- an item at an index

pub item_at_lem : (l : List (List ℕ)) (k : ℕ) → get_or (map (cut equals) l) k ([], []) ≡ cut equals (get_or l k [])
item_at_lem [] k = refl
item_at_lem (p ∷ l) zero = refl
item_at_lem (p ∷ l) (suc k) = item_at_lem l k

-- ---- what the rule of an item says

pub item-name : (i : Item) → is_item i ≡ true → is_name i.0 ≡ true
unfolding is_item
item-name i e = (both (is_name i.0) (not (same i.0 (text "v"))) (both (is_name i.0 && not (same i.0 (text "v"))) (is_value i.1) e).0).0

pub item-value : (i : Item) → is_item i ≡ true → is_value i.1 ≡ true
unfolding is_item
item-value i e = (both (is_name i.0 && not (same i.0 (text "v"))) (is_value i.1) e).1

pub name-bytes : (s : List ℕ) → is_name s ≡ true → all is_name_byte s ≡ true
unfolding is_text
name-bytes s e = (both (within 1 32 (length s)) (all is_name_byte s) e).1

pub value-bytes : (s : List ℕ) → is_value s ≡ true → all is_value_byte s ≡ true
unfolding is_text
value-bytes s e = (both (within 1 128 (length s)) (all is_value_byte s) e).1

pub nonempty : (s : List ℕ) → is_value s ≡ true → empty s ≡ false
unfolding is_text
nonempty [] e = absurd (false≢true e)
nonempty (c ∷ s) e = refl

-- ---- from the piece to its items and back

uncut : (p : List ℕ) → is_item (cut equals p) ≡ true → item_text (cut equals p) ≡ p
uncut p e = join-cut equals p (nonempty (cut equals p).1 (item-value (cut equals p) e))

uncut_all : (ps : List (List ℕ)) → all is_item (map (cut equals) ps) ≡ true → map item_text (map (cut equals) ps) ≡ ps
uncut_all [] e = refl
uncut_all (p ∷ ps) e =
    let q = both (is_item (cut equals p)) (all is_item (map (cut equals) ps)) e in
    ap₂ {C = List (List ℕ)} ◌∷◌ (uncut p q.0) (uncut_all ps q.1)

-- the text of items, a comma between two
abbrev pub joined : Item → List Item → List ℕ
joined i is = join comma (item_text i) (map item_text is)

pub join-items : (s : List ℕ) → all is_item (items s) ≡ true → joined (cut equals (split comma s).0) (map (cut equals) (split comma s).1) ≡ s
join-items s e =
    let p = split comma s in
    let q = both (is_item (cut equals p.0)) (all is_item (map (cut equals) p.1)) e in
    ap₂ (join comma) (uncut p.0 q.0) (uncut_all p.1 q.1) ∙ join-split comma s

pub params_items : (s : List ℕ) → all is_item (items s) ≡ true → params_text (items s) ≡ some s
params_items s e = ap {B = OptionalText} some (join-items s e)

-- a byte that no name and no value has stands in no text of an item, but for the equals sign
module _ (d : ℕ) (n : is_name_byte d ≡ false) (v : is_value_byte d ≡ false) where
  pub name_free : (s : List ℕ) → is_name s ≡ true → has d s ≡ false
  name_free s e = not_in is_name_byte d n s (name-bytes s e)

  pub value_free : (s : List ℕ) → is_value s ≡ true → has d s ≡ false
  value_free s e = not_in is_value_byte d v s (value-bytes s e)

  module _ (q : eqb equals d ≡ false) where
    pub item_free : (i : Item) → is_item i ≡ true → has d (item_text i) ≡ false
    item_free i e =
        has-append d i.0 (equals ∷ i.1) (name_free i.0 (item-name i e)) (rw q (value_free i.1 (item-value i e)))

    pub items_free : (is : List Item) → all is_item is ≡ true → NoneHas d (map item_text is)
    items_free [] e = tt
    items_free (i ∷ is) e =
        let k = both (is_item i) (all is_item is) e in
        (item_free i k.0, items_free is k.1)

recut : (i : Item) → is_item i ≡ true → cut equals (item_text i) ≡ i
unfolding is_name_byte is_value_byte
recut i e = cut-join equals i.0 i.1 (name_free equals refl refl i.0 (item-name i e))

recut_all : (is : List Item) → all is_item is ≡ true → map (cut equals) (map item_text is) ≡ is
recut_all [] e = refl
recut_all (i ∷ is) e =
    let q = both (is_item i) (all is_item is) e in
    ap₂ {C = List Item} ◌∷◌ (recut i q.0) (recut_all is q.1)

pub items_params : (is : List Item) → all is_item is ≡ true → items_of (params_text is) ≡ is
unfolding is_name_byte is_value_byte
items_params [] e = refl
items_params (i ∷ is) e =
    let q = both (is_item i) (all is_item is) e in
    let s = split_join comma (item_text i) (map item_text is) (item_free comma refl refl refl i q.0) (items_free comma refl refl refl is q.1) in
    ap {B = List Item} (λ (p : Parts). cut equals p.0 ∷ map (cut equals) p.1) s ∙ recut_all (i ∷ is) e
