-- What is proved of the definitions, over every text: proofs/Claims.antt has a value of `PieceClaims` and of `GrammarRefusals`.
-- Assumes nothing.
use Rattle.std.specs.Prelude.{ℕ, ◌+◌, ◌*◌, ◌-◌, ◌≤◌, ◌<◌, ◌≡◌, true, false, List, [], ◌∷◌, ◌++◌, ◌≢◌, length, replicate}
use Rattle.std.proofs.Math.Option.{some}
use Rattle.text.specs.Text.{text, within, has, all, split, join, NoneHas, Fits, list_of}
use Rattle.text.specs.Rows.{first_number}
use Rattle.grammar.specs.Bytes.{dollar, comma, equals}
use Rattle.grammar.specs.Limits.{longest_name, longest_value, longest_output, most_items, longest_string}
use Rattle.grammar.specs.Pieces.{Pieces, belongs, pieces, piece_in, after_id, string}
use Rattle.grammar.specs.Items.{Item, items, items_of, params_text}
use Rattle.grammar.specs.Rules.{is_item, begins_with_dollar, piece_rows, grammar_number}
use Rattle.grammar.specs.Layout.{places_of, span_of, refused_layout, layout}
use Rattle.grammar.specs.Parts.{part_at, text_of, piece_text, item_at}
use Rattle.grammar.specs.declared.places.Piece.{Piece}
use Rattle.grammar.specs.declared.places.Piece.TheVariants.{Version, Params, Salt, Output}

-- the sorting of these pieces, joined, has them as its outcome: each belongs where it stands, and none has a `$`
pub record Sorts (p : Pieces) : Type 0 where
  pub version_fits : Fits (belongs Version) p.version (list_of p.params ++ (list_of p.salt ++ (list_of p.output ++ p.more)))
  pub params_fits : Fits (belongs Params) p.params (list_of p.salt ++ (list_of p.output ++ p.more))
  pub salt_fits : Fits (belongs Salt) p.salt (list_of p.output ++ p.more)
  pub output_fits : Fits (belongs Output) p.output p.more
  pub id_free : has dollar p.id ≡ false
  pub others_free : NoneHas dollar (after_id p)

-- 32 `a`; an item of 32 `a` and 128 `b`
abbrev long_name : List ℕ
long_name = replicate longest_name 97

abbrev long_item : List ℕ
long_item = long_name ++ equals ∷ replicate longest_value 98

-- the longest string: each piece as long as its rule allows
abbrev pub longest : List ℕ
longest =
    dollar ∷ join dollar long_name
    (text "v=4294967295"
    ∷ join comma long_item (replicate (most_items - 1) long_item)
    ∷ replicate longest_value 99
    ∷ replicate longest_output.0 65
    ∷ [])

pub record PieceClaims : Type 0 where
  -- joining the pieces with `$` gives the string back
  pub string_pieces : (s : List ℕ) → begins_with_dollar s ≡ true → string (pieces s) ≡ s
  -- splitting joined parts without the separator gives the parts back
  pub split_join : (d : ℕ) (p : List ℕ) (ps : List (List ℕ)) → has d p ≡ false → NoneHas d ps → split d (join d p ps) ≡ (p, ps)
  -- pieces that sort as they stand are the pieces of their string
  pub pieces_string : (p : Pieces) → Sorts p → pieces (string p) ≡ p
  -- a parameter piece that keeps its rule is the piece of its items, and items that keep theirs are the items of their piece
  pub params_items : (s : List ℕ) → all is_item (items s) ≡ true → params_text (items s) ≡ some s
  pub items_params : (is : List Item) → all is_item is ≡ true → items_of (params_text is) ≡ is
  -- the part at a piece's place and length is the piece
  pub piece_part : (s : List ℕ) → begins_with_dollar s ≡ true → (w : Piece) → part_at s (span_of (places_of (pieces s)) w) ≡ text_of (piece_in (pieces s) w)
  -- a piece that is there is never empty
  pub never_empty : (s : List ℕ) → grammar_number s ≡ 0 → (w : Piece) (t : List ℕ) → piece_in (pieces s) w ≡ some t → 0 < length t
  -- pieces that keep the rules of rows 2 to 7 make at most 2,896 bytes, without row 1
  pub at_most : (p : Pieces) → first_number (piece_rows p) ≡ 0 → length (string p) ≤ longest_string
  -- which is the sum of the pieces' limits, each with its `$`; the version has `v=` and 10 digits, the items 15 commas
  pub sum : (1 + longest_name) + (1 + (2 + 10)) + (1 + (most_items * (longest_name + 1 + longest_value) + (most_items - 1)))
      + (1 + longest_value) + (1 + longest_output.0) ≡ longest_string
  -- and is reached
  pub longest_length : length longest ≡ longest_string
  pub longest_accepted : grammar_number longest ≡ 0

-- what a refusal is: of the grammar reader 1 to 7, with zeros for places, lengths and items; of the entries for parts an empty one
pub record GrammarRefusals : Type 0 where
  pub read : (s : List ℕ) → (layout s).number ≢ 0 → (within 1 7 (layout s).number ≡ true) × (layout s ≡ refused_layout (layout s).number)
  pub piece : (s : List ℕ) → (layout s).number ≢ 0 → (w : Piece) → piece_text s w ≡ []
  pub item : (s : List ℕ) → (layout s).number ≢ 0 → (index : ℕ) → item_at s index ≡ ([], [])
