-- 'A piece, or the name or value of the item at an index from 0, can also be had as a part of the caller's own string. If the string is refused,
-- the piece isn't there or the index is past the last item, the part is empty.'
-- Assumes nothing.
use Rattle.std.specs.Prelude.{ℕ, Bool, cond, List, [], eqb, length, take, drop, get_or}
use Rattle.std.proofs.Math.Option.{none, some}
use Rattle.text.specs.Place.{has_room}
use Rattle.grammar.specs.Pieces.{OptionalText, pieces, piece_in}
use Rattle.grammar.specs.Items.{Item, items_of}
use Rattle.grammar.specs.Rules.{grammar_number}
use Rattle.grammar.specs.declared.places.Piece.{Piece}
use Rattle.grammar.specs.declared.places.Span.{Span}

-- Free answer: the part of a span that does not lie inside is empty
unfoldable pub part_at : List ℕ → Span → List ℕ
part_at s w = cond (has_room (length s) w.at w.len.0) (take w.len.0 (drop w.at s)) []

abbrev pub is_well_formed : List ℕ → Bool
is_well_formed s = eqb (grammar_number s) 0

abbrev pub text_of : OptionalText → List ℕ
text_of none = []
text_of (some s) = s

unfoldable pub piece_text : List ℕ → Piece → List ℕ
piece_text s w = cond (is_well_formed s) (text_of (piece_in (pieces s) w)) []

abbrev pub items_in : List ℕ → List Item
items_in s = cond (is_well_formed s) (items_of (pieces s).params) []

-- the item at an index from 0
unfoldable pub item_at : List ℕ → ℕ → Item
item_at s index = get_or (items_in s) index ([], [])
