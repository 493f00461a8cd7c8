-- 'Parameters: 1 to 16 items parted by commas, each name, `=`, value.'
-- Assumes nothing.
use Rattle.std.specs.Prelude.{ℕ, List, [], ◌∷◌, ◌++◌, map}
use Rattle.std.proofs.Math.Option.{none, some}
use Rattle.text.specs.Text.{parts, parts_from, join, cut}
use Rattle.grammar.specs.Bytes.{comma, equals}
use Rattle.grammar.specs.Pieces.{OptionalText}

-- 01's item: its name and its value
abbrev pub Item : Type 0
Item = List ℕ × List ℕ

-- the items of a parameter piece. With no `=` the value is empty, which no rule allows
abbrev pub items : List ℕ → List Item
items s = map (cut equals) (parts comma s)

-- the items from a place on; none past the end
abbrev pub items_from : List ℕ → ℕ → List Item
items_from s at = map (cut equals) (parts_from comma s at)

abbrev pub items_of : OptionalText → List Item
items_of none = []
items_of (some s) = items s

abbrev pub item_text : Item → List ℕ
item_text i = i.0 ++ equals ∷ i.1

-- the parameter piece of items; no piece where there is none
abbrev pub params_text : List Item → OptionalText
params_text [] = none
params_text (i ∷ is) = some (join comma (item_text i) (map item_text is))
