-- Where an item stands in its parameter piece. Nothing here is a rule of document 01.
-- Assumes nothing.
use Rattle.std.specs.Prelude.{ℕ, ◌+◌, cond, List, leb, length, take, drop}
use Rattle.text.specs.Text.{has, find, cut}
use Rattle.grammar.specs.Bytes.{comma, equals}
use Rattle.grammar.specs.Layout.{span}
use Rattle.grammar.specs.declared.item_places.ItemPlace.{ItemPlace}

-- the text of the item that begins at a place
abbrev pub item_at_place : List ℕ → ℕ → List ℕ
item_at_place s at = take (find comma (drop at s)) (drop at s)

-- where an item that begins at a place has its name and its value; and where the next would begin, past the comma. Free answers: without a `=` the
-- value has 0 and 0; after the last item the next would begin one past the end
abbrev pub place_of : ℕ → List ℕ → ItemPlace
place_of at item =
    let name = (cut equals item).0 in
    let value = (cut equals item).1 in
    record {
      name = span at (length name);
      value = cond (has equals item) (span (at + length name + 1) (length value)) (span 0 0);
      next = at + length item + 1;
    }

-- Free answer: past the end there is no item, and the next is the place itself
unfoldable pub item_place : List ℕ → ℕ → ItemPlace
item_place s at = cond (leb at (length s)) (place_of at (item_at_place s at)) (record { name = span 0 0; value = span 0 0; next = at })
