-- 'The grammar reader gives the places and lengths of the pieces (0 and 0 for an absent one) and the number of items': derived from the texts of
-- the pieces.
-- Assumes nothing.
use Rattle.std.specs.Prelude.{ℕ, Result, Ok, Err, ◌+◌, cond, List, eqb, length}
use Rattle.std.proofs.Math.Option.{none, some}
use Rattle.refusals.specs.Numbers.{number_of}
use Rattle.refusals.specs.declared.Refusal.{Refusal}
use Rattle.text.specs.declared.units.Chars.{Chars}
use Rattle.grammar.specs.Pieces.{OptionalText, Pieces, pieces}
use Rattle.grammar.specs.Items.{items_of}
use Rattle.grammar.specs.Rules.{grammar_number}
use Rattle.grammar.specs.declared.places.Piece.{Piece}
use Rattle.grammar.specs.declared.places.Piece.TheVariants.{Id, Version, Params, Salt, Output}
use Rattle.grammar.specs.declared.places.Span.{Span}
use Rattle.grammar.specs.declared.places.Places.{Places}
use Rattle.grammar.specs.declared.pieces.Layout.{Layout}

abbrev pub chars : ℕ → Chars
chars n = record { 0 = n }

abbrev pub span : ℕ → ℕ → Span
span at len = record { at = at; len = chars len }

-- the span of a piece that would begin at a place: 0 and 0 for an absent one
abbrev pub span_from : ℕ → OptionalText → Span
span_from at none = span 0 0
span_from at (some s) = span at (length s)

-- where the next piece begins, past the `$` that ends this one
abbrev pub past : ℕ → OptionalText → ℕ
past at none = at
past at (some s) = at + length s + 1

abbrev pub places_of : Pieces → Places
places_of p =
    let version = past 1 (some p.id) in
    let params = past version p.version in
    let salt = past params p.params in
    let output = past salt p.salt in
    record {
      id = span_from 1 (some p.id);
      version = span_from version p.version;
      params = span_from params p.params;
      salt = span_from salt p.salt;
      output = span_from output p.output;
    }

abbrev pub span_of : Places → Piece → Span
span_of w Id = w.id
span_of w Version = w.version
span_of w Params = w.params
span_of w Salt = w.salt
span_of w Output = w.output

abbrev pub no_places : Places
no_places = record { id = span 0 0; version = span 0 0; params = span 0 0; salt = span 0 0; output = span 0 0 }

-- what the reader hands back; on refusal every place, length and count is 0
pub record LayoutAnswer : Type 0 where
  pub number : ℕ
  pub places : Places
  pub items : ℕ

abbrev pub refused_layout : ℕ → LayoutAnswer
refused_layout n = record { number = n; places = no_places; items = 0 }

abbrev pub accepted_layout : Pieces → LayoutAnswer
accepted_layout p = record { number = 0; places = places_of p; items = length (items_of p.params) }

-- the grammar reader's answer
unfoldable pub layout : List ℕ → LayoutAnswer
layout s = cond (eqb (grammar_number s) 0) (accepted_layout (pieces s)) (refused_layout (grammar_number s))

-- the reader's result as that answer
abbrev pub layout_answer : Result Layout Refusal → LayoutAnswer
layout_answer (Ok l) = record { number = 0; places = l.places; items = l.items }
layout_answer (Err r) = refused_layout (number_of r)
