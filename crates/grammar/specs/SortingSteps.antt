-- What the private steps of the sorting promise each other. Nothing here is a rule: no public contract cites it.
-- Assumes nothing.
use Rattle.std.specs.Prelude.{ℕ, ◌≡◌, not, List}
use Rattle.text.specs.Text.{parts_from, empty, head_if, tail_if}
use Rattle.grammar.specs.Bytes.{dollar}
use Rattle.grammar.specs.Pieces.{OptionalText, Pieces, belongs}
use Rattle.grammar.specs.Layout.{span_from, past, places_of}
use Rattle.grammar.specs.declared.places.Piece.{Piece}
use Rattle.grammar.specs.declared.places.Span.{Span}
use Rattle.grammar.specs.declared.sorting.Sorted.{Sorted}

-- the piece asked for, if it is the next
abbrev pub next_piece : List ℕ → Piece → ℕ → OptionalText
next_piece s w at = head_if (belongs w) (parts_from dollar s at)

-- a step of the sorting from a place: the piece asked for, and where the pieces left begin
pub record Stepped (s : List ℕ) (w : Piece) (at : ℕ) (span : Span) (next : ℕ) : Type 0 where
  pub found : span ≡ span_from at (next_piece s w at)
  pub next_is : next ≡ past at (next_piece s w at)
  pub left : parts_from dollar s next ≡ tail_if (belongs w) (parts_from dollar s at)

abbrev pub sorted_of : Pieces → Sorted
sorted_of p = record { places = places_of p; more = not (empty p.more) }
