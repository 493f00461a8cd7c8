-- The claims of specs/Claims.antt, proved.
-- Assumes nothing.
use Prim.Native.Nat.{ℕ}
use mathlib.Core.Bool.{true, false}
use mathlib.Core.List.{List, []}
use mathlib.Core.Path.{◌≡◌, refl, sym, ◌∙◌}
use lib.Dec.{eqb}
use borrow.Author.Tests.{ne_eqb}
use Rattle.text.specs.Text.{within}
use Rattle.text.proofs.Rows.{first_passes}
use Rattle.text.proofs.Lists.{split_join}
use Rattle.b64.specs.B64.{sextet, low_bits_zero, canonical}
use Rattle.decimal.specs.Decimal.{is_digit, is_unsigned, value_from, value, is_decimal, decimal_value}
use Rattle.decimal.specs.Numerals.{numeral, limited_reading}
use Rattle.grammar.specs.Bytes.{is_name_byte, is_value_byte, is_text}
use Rattle.grammar.specs.Pieces.{pieces}
use Rattle.grammar.specs.Rules.{is_item, is_params, version_reading, is_version, is_output, bad_string, grammar_rows, grammar_number}
use Rattle.grammar.specs.Layout.{refused_layout, layout}
use Rattle.grammar.specs.Parts.{piece_text, item_at}
use Rattle.grammar.specs.Claims.{PieceClaims, GrammarRefusals}
use Rattle.grammar.specs.declared.places.Piece.{Piece}
use Rattle.grammar.proofs.PieceLaws.{string_pieces, pieces_string}
use Rattle.grammar.proofs.ItemLaws.{params_items, items_params}
use Rattle.grammar.proofs.Reading.{piece_part, layout-refused, layout_number}
use Rattle.grammar.proofs.Longest.{at_most, never_empty}

pub piece_claims : PieceClaims
unfolding grammar_number bad_string pieces is_item is_params is_version version_reading is_output is_text is_name_byte is_value_byte is_digit limited_reading numeral is_decimal decimal_value is_unsigned value value_from canonical low_bits_zero sextet
piece_claims =
    record {
      string_pieces = string_pieces;
      split_join = split_join;
      pieces_string = pieces_string;
      params_items = params_items;
      items_params = items_params;
      piece_part = piece_part;
      never_empty = never_empty;
      at_most = at_most;
      sum = refl;
      longest_length = refl;
      longest_accepted = refl;
    }

-- ---- refusals

module _ (s : List ℕ) (n : (layout s).number ≡ 0 → ⊥) where
  not_well_formed : eqb (grammar_number s) 0 ≡ false
  not_well_formed = ne_eqb (grammar_number s) 0 (λ z. n (layout_number s ∙ z))

  own_number : within 1 7 (layout s).number ≡ true
  unfolding grammar_number
  own_number = rw (layout_number s) (first_passes (within 1 7) (grammar_rows s) refl (λ z. n (layout_number s ∙ z)))

  no_layout : layout s ≡ refused_layout (layout s).number
  no_layout = layout-refused s (layout s).number (sym (layout_number s)) n

  no_piece : (w : Piece) → piece_text s w ≡ []
  unfolding piece_text
  no_piece w = rw not_well_formed

  no_item : (index : ℕ) → item_at s index ≡ ([], [])
  unfolding item_at
  no_item index = rw not_well_formed

pub grammar_refusals : GrammarRefusals
grammar_refusals = record { read = λ s n. (own_number s n, no_layout s n); piece = no_piece; item = no_item }
