-- The walk over the items of a parameter piece: a step of the walk, and five of them.
-- Assumes nothing.
use Prim.Native.Nat.{ℕ, ◌≤◌, ◌<◌}
use mathlib.Core.Path.{◌≡◌, refl, sym, ap, ap₂, ◌∙◌}
use mathlib.Core.List.{List, [], ◌∷◌, map}
use mathlib.Core.Bool.{Bool, true, false, not, cond}
use lib.Dec.{leb}
use lib.ListN.{length, drop}
use Rattle.text.specs.Text.{text, all, same, empty, cut, tail_if, parts_from}
use Rattle.text.proofs.Tests.{both}
use Rattle.text.proofs.Splitting.{some_from}
use Rattle.grammar.specs.Bytes.{comma, equals}
use Rattle.grammar.specs.Pieces.{OptionalText}
use Rattle.grammar.specs.Items.{Item, items, items_from}
use Rattle.grammar.specs.Rules.{is_item}
use Rattle.grammar.specs.Layout.{span}
use Rattle.grammar.specs.ItemPlaces.{item_place}
use Rattle.grammar.specs.Parts.{part_at}
use Rattle.grammar.specs.declared.places.Span.{Span}
use Rattle.grammar.specs.declared.item_places.ItemPlace.{ItemPlace}
use Rattle.grammar.proofs.ItemLaws.{items_start}
use Rattle.grammar.proofs.ItemPlaces.{items-past, items_found, kept_value_at}
use Rattle.profile.specs.Reader.{parameter_names, named, named_values, unmatched_items}
use Rattle.profile.specs.ReaderSteps.{span_text, ValueStep, span_texts, ValuesAre}
use Rattle.profile.specs.declared.values.Values.{Values}
use Rattle.profile.proofs.OptionalTextLaws.{optional_some}

-- ---- a step over the item found at a place

module _ (s name : List ℕ) (at : ℕ) (h : at ≤ length s) (ok : all is_item (items_from s at) ≡ true) (w : ItemPlace) (q : w ≡ item_place s at)
    (t : List ℕ) (e : t ≡ part_at s w.name) where
  named_as : (b : Bool) → b ≡ same t name → same (part_at s w.name) name ≡ b
  named_as b h = sym (h ∙ ap (λ (n : List ℕ). same n name) e)

  pub step_to : true ≡ same t name → ValueStep s name at w.value w.next
  step_to n =
      let i = items_found s at h w q in
      let b = named_as true n in
      record { found = optional_some s w.value (λ z. kept_value_at s at h ok (sym (ap (λ (v : ItemPlace). v.value.at) q) ∙ z)) ∙ rw (i, b); left = rw (i, b) }

  pub step_not : false ≡ same t name → ValueStep s name at (span 0 0) at
  step_not n = let i = items_found s at h w q in let b = named_as false n in record { found = rw (i, b); left = rw (i, b) }

pub step_past : (s name : List ℕ) (at : ℕ) → length s < at → ValueStep s name at (span 0 0) at
step_past s name at h =
    let e = items-past s at h in
    record { found = rw e; left = rw e }

-- ---- steps one after another

-- the items left keep their rule
all_tail : (f g : Item → Bool) (is : List Item) → all f is ≡ true → all f (tail_if g is) ≡ true
all_tail f g [] e = refl
all_tail f g (i ∷ is) e = go (g i)
  where
    go : (b : Bool) → all f (cond b is (i ∷ is)) ≡ true
    go true = (both (f i) (all f is) e).1
    go false = e

empty-map : (f : List ℕ → Item) (l : List (List ℕ)) → empty (map f l) ≡ empty l
empty-map f [] = refl
empty-map f (x ∷ l) = refl

pub at_start : (s : List ℕ) → all is_item (items s) ≡ true → all is_item (items_from s 0) ≡ true
at_start s e = ap (all is_item) (sym (items_start s)) ∙ e

module _ {s name : List ℕ} {at : ℕ} {w : Span} {next : ℕ} (step : ValueStep s name at w next) where
  pub on : all is_item (items_from s at) ≡ true → all is_item (items_from s next) ≡ true
  on e = ap (all is_item) step.left ∙ all_tail is_item (named name) (items_from s at) e

  values_on : (ns : List (List ℕ)) (l : List OptionalText) → named_values ns (items_from s next) ≡ l → named_values (name ∷ ns) (items_from s at) ≡ span_text s w ∷ l
  values_on ns l e = ap₂ {C = List OptionalText} ◌∷◌ (sym step.found) (ap (named_values ns) (sym step.left) ∙ e)

  unmatched_on : (ns : List (List ℕ)) (l : List Item) → unmatched_items ns (items_from s next) ≡ l → unmatched_items (name ∷ ns) (items_from s at) ≡ l
  unmatched_on ns l e = ap (unmatched_items ns) (sym step.left) ∙ e

-- five steps from the first item on find the values
module _ (s : List ℕ) (m t p keyid «data» : Span) (n₁ n₂ n₃ n₄ n₅ : ℕ)
    (a : ValueStep s (text "m") 0 m n₁) (b : ValueStep s (text "t") n₁ t n₂) (c : ValueStep s (text "p") n₂ p n₃)
    (d : ValueStep s (text "keyid") n₃ keyid n₄) (e : ValueStep s (text "data") n₄ «data» n₅) where
  abbrev values : Values
  values = record { m = m; t = t; p = p; keyid = keyid; «data» = «data»; unmatched = leb n₅ (length s) }

  found_all : named_values parameter_names (items s) ≡ span_texts s values
  found_all =
      ap (named_values parameter_names) (items_start s)
      ∙ values_on a (drop 1 parameter_names) _ (values_on b (drop 2 parameter_names) _ (values_on c (drop 3 parameter_names) _ (values_on d (drop 4 parameter_names) _ (values_on e [] [] refl))))

  left_all : unmatched_items parameter_names (items s) ≡ items_from s n₅
  left_all =
      ap (unmatched_items parameter_names) (items_start s)
      ∙ unmatched_on a (drop 1 parameter_names) _ (unmatched_on b (drop 2 parameter_names) _ (unmatched_on c (drop 3 parameter_names) _ (unmatched_on d (drop 4 parameter_names) _ (unmatched_on e [] _ refl))))

  pub values_are : ValuesAre s (items s) values
  values_are =
      record {
        found = sym found_all;
        unmatched_is = sym (ap (λ (l : List Item). not (empty l)) left_all ∙ ap not (empty-map (cut equals) (parts_from comma s n₅)) ∙ some_from comma s n₅);
      }
