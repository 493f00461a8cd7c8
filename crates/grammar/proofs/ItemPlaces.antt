-- Where an item stands: the parts at its spans are the first of the items from its place on, and the others begin at its next place.
-- Assumes nothing.
use Prim.Native.Nat.{ℕ, ◌+◌, ◌-◌, ◌≤◌, ◌<◌}
use mathlib.Core.Bool.{Bool, true, false, true≢false}
use mathlib.Core.List.{List, [], ◌∷◌, map}
use mathlib.Core.Path.{◌≡◌, refl, sym, ◌∙◌, ap}
use native.Mathlib.Omega.{arith}
use borrow.Author.Tests.{le-leb, lt-leb, ltb-false}
use lib.ListN.{length, take, drop, length-drop, drop_of_length-le}
use lib.Seq.{length-take-le, take-take, drop-drop}
use Rattle.text.specs.Text.{all, has, empty, find, cut}
use Rattle.text.proofs.Tests.{both}
use Rattle.text.proofs.Scanning.{find-le, find_from_le}
use Rattle.text.proofs.Splitting.{from_step, from_past, cut_before, cut_after, has-find, found, unfound, find_inside}
use Rattle.text.proofs.Prefixes.{drop-take}
use Rattle.grammar.specs.Bytes.{comma, equals}
use Rattle.grammar.specs.Items.{Item, items_from}
use Rattle.grammar.specs.Rules.{is_item}
use Rattle.grammar.specs.Layout.{span}
use Rattle.grammar.specs.ItemPlaces.{item_at_place, place_of, item_place}
use Rattle.grammar.specs.Parts.{part_at}
use Rattle.grammar.specs.declared.item_places.ItemPlace.{ItemPlace}
use Rattle.grammar.proofs.Spans.{part_inside, part_empty}
use Rattle.grammar.proofs.ItemLaws.{item-value, nonempty}

-- ---- past the end

module _ (s : List ℕ) (at : ℕ) (h : length s < at) where
  pub items-past : items_from s at ≡ []
  items-past = ap (map (cut equals)) (from_past comma s at h)

  pub place-past : ◌≡◌ {A = ItemPlace} (record { name = span 0 0; value = span 0 0; next = at }) (item_place s at)
  unfolding item_place
  place-past = rw (lt-leb at (length s) h)

-- ---- the item at a place

module _ (s : List ℕ) (at : ℕ) (h : at ≤ length s) where
  abbrev item : List ℕ
  item = item_at_place s at

  place_is : item_place s at ≡ place_of at item
  unfolding item_place
  place_is = rw (le-leb at (length s) h)

  -- lengths
  size : length item ≡ find comma (drop at s)
  size = length-take-le (find comma (drop at s)) (drop at s) (find-le comma (drop at s))

  inside : at + length item ≤ length s
  inside = omega (arith, size, find_from_le comma s at h)

  name_size : length (cut equals item).0 ≡ find equals item
  name_size = ap length (cut_before equals item) ∙ length-take-le (find equals item) item (find-le equals item)

  value_size : length (cut equals item).1 ≡ length item - (find equals item + 1)
  value_size = ap length (cut_after equals item) ∙ length-drop (find equals item + 1) item

  -- the next place
  next_is : (item_place s at).next ≡ at + length item + 1
  next_is = rw place_is

  -- the parts
  name_part : part_at s (item_place s at).name ≡ (cut equals item).0
  name_part =
      let n = find equals item in
      let b : at + n ≤ length s = omega (arith, inside, find-le equals item) in
      rw (place_is, name_size) (part_inside s (span at n) (le-leb (at + n) (length s) b))
      ∙ sym (take-take n (find comma (drop at s)) (drop at s) (omega (arith, size, find-le equals item)))
      ∙ sym (cut_before equals item)

  value_part : part_at s (item_place s at).value ≡ (cut equals item).1
  value_part = go (has equals item) refl
    where
      go : (b : Bool) → has equals item ≡ b → part_at s (item_place s at).value ≡ (cut equals item).1
      go true b =
          let n = find equals item in
          let k = length item - (n + 1) in
          let l = find_inside equals item b in
          let m : find comma (drop at s) ≡ n + 1 + k = omega (arith, size) in
          let f : at + (n + 1) ≡ at + n + 1 = omega arith in
          rw (place_is, b, name_size, value_size) (part_inside s (span (at + n + 1) k) (le-leb (at + n + 1 + k) (length s) (omega (arith, inside))))
          ∙ ap (take k) (sym (drop-drop (n + 1) at s ∙ ap (λ (j : ℕ). drop j s) f))
          ∙ sym (drop-take (n + 1) k (drop at s) (omega (arith, length-drop at s, inside)))
          ∙ ap (λ (j : ℕ). drop (n + 1) (take j (drop at s))) (sym m)
          ∙ sym (cut_after equals item)
      go false b =
          let l = ltb-false (find equals item) (length item) (sym (has-find equals item) ∙ b) in
          rw (place_is, b) (part_empty s) ∙ sym (cut_after equals item ∙ drop_of_length-le item {i = find equals item + 1} (omega arith))

  -- the first item and those after it
  pub items_at : items_from s at ≡ (part_at s (item_place s at).name, part_at s (item_place s at).value) ∷ items_from s (item_place s at).next
  items_at =
      let n : at + find comma (drop at s) + 1 ≡ (item_place s at).next = omega (arith, next_is, size) in
      ap (map (cut equals)) (from_step comma s at h)
      ∙ (λ i. (sym name_part i, sym value_part i) ∷ items_from s (n i))

  -- the value of an item with an `=` does not stand at 0, as one that is not there would
  pub value_at_lem : has equals (item_at_place s at) ≡ true → (item_place s at).value.at ≡ 0 → ⊥
  value_at_lem b z =
      let k : (item_place s at).value.at ≡ at + length (cut equals item).0 + 1 = rw (place_is, b) in
      omega arith

  -- so where the items keep their rule
  pub kept_value_at : all is_item (items_from s at) ≡ true → (item_place s at).value.at ≡ 0 → ⊥
  kept_value_at e z = go (has equals item) refl
    where
      value : List ℕ
      value = part_at s (item_place s at).value

      there : empty value ≡ false
      there =
          let i : Item = (part_at s (item_place s at).name, value) in
          nonempty value (item-value i (both (is_item i) (all is_item (items_from s (item_place s at).next)) (sym (ap (all is_item) items_at) ∙ e)).0)

      go : (b : Bool) → has equals item ≡ b → ⊥
      go true b = value_at_lem b z
      go false b = let n : value ≡ [] = rw (place_is, b) (part_empty s) in true≢false (sym (ap empty n) ∙ there)

  -- ---- as the code finds it: the item ends at `end`, and its name has the length `len`

  module _ (end : ℕ) (p : end ≡ at + find comma (drop at s)) (len : ℕ) (q : len ≡ 0 + find equals (take (end - at) (drop at s))) where
    abbrev part : List ℕ
    part = take (end - at) (drop at s)

    part_is : part ≡ item
    part_is =
        let e : end - at ≡ find comma (drop at s) = omega arith in
        ap (λ (n : ℕ). take n (drop at s)) e

    len_is : len ≡ find equals item
    len_is =
        let z : len ≡ find equals part = omega arith in
        z ∙ ap (find equals) part_is

    part_length : length part ≡ length item
    part_length = ap length part_is

    pub place_bare : length part ≤ len → ◌≡◌ {A = ItemPlace} (record { name = span at len; value = span 0 0; next = end + 1 }) (item_place s at)
    place_bare b =
        let u = unfound equals item (omega (arith, len_is, part_length)) in
        let n = len_is ∙ sym name_size in
        let e : end + 1 ≡ at + length item + 1 = omega (arith, size) in
        rw (place_is, u) (λ i. record { name = span at (n i); value = span 0 0; next = e i })

    pub place_valued : len < length part
        → ◌≡◌ {A = ItemPlace} (record { name = span at len; value = span (at + len + 1) (end - (at + len + 1)); next = end + 1 }) (item_place s at)
    place_valued b =
        let f = found equals item (omega (arith, len_is, part_length)) in
        let n = len_is ∙ sym name_size in
        let k : end - (at + len + 1) ≡ length (cut equals item).1 = omega (arith, value_size, len_is, size) in
        let e : end + 1 ≡ at + length item + 1 = omega (arith, size) in
        rw (place_is, f) (λ i. record { name = span at (n i); value = span (at + n i + 1) (k i); next = e i })

-- ---- an item that was found at its place

module _ (s : List ℕ) (at : ℕ) (h : at ≤ length s) (w : ItemPlace) (q : w ≡ item_place s at) where
  abbrev first : Item
  first = (part_at s w.name, part_at s w.value)

  abbrev others : List Item
  others = items_from s w.next

  pub items_found : items_from s at ≡ first ∷ others
  items_found = rw q (items_at s at h)
