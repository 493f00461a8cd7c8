-- The reader's answer by its rows, and the parts that it leads to.
-- Assumes nothing.
use Prim.Native.Nat.{ℕ, zero, suc, ◌≤◌, ◌<◌}
use mathlib.Core.Path.{◌≡◌, refl, sym, ◌∙◌, ap}
use mathlib.Core.List.{List, [], ◌∷◌}
use mathlib.Core.Option.{none, some}
use mathlib.Core.Bool.{Bool, true, false, not, cond, ◌||◌, or-true}
use native.Mathlib.Omega.{arith}
use borrow.Author.Tests.{ne_eqb, eqb-true, le-leb, lt-leb}
use lib.Dec.{leb, eqb}
use lib.ListN.{length, get_or}
use Rattle.text.specs.Text.{empty, parts, cut}
use Rattle.text.specs.Rows.{first_number}
use Rattle.text.proofs.Tests.{neither, is_true}
use Rattle.text.proofs.Rows.{Clear, clear}
use Rattle.grammar.specs.Bytes.{dollar, comma, equals}
use Rattle.grammar.specs.Pieces.{OptionalText, pieces, piece_in}
use Rattle.grammar.specs.Items.{Item, items_of}
use Rattle.grammar.specs.Limits.{longest_string}
use Rattle.grammar.specs.Rules.{begins_with_dollar, bad_string, piece_rows, grammar_rows, grammar_number}
use Rattle.grammar.specs.Layout.{span, no_places, places_of, span_of, refused_layout, accepted_layout, layout}
use Rattle.grammar.specs.Parts.{part_at, text_of, piece_text, item_at}
use Rattle.grammar.specs.declared.places.Piece.{Piece}
use Rattle.grammar.specs.declared.places.Piece.TheVariants.{Id, Version, Params, Salt, Output}
use Rattle.grammar.specs.declared.places.Span.{Span}
use Rattle.grammar.proofs.Spans.{Holds, part_empty, spans}
use Rattle.grammar.proofs.ItemLaws.{item_at_lem}

-- ---- the number

pub bad_string_begins : (s : List ℕ) → bad_string s ≡ false → begins_with_dollar s ≡ true
unfolding bad_string
bad_string_begins s b = is_true (begins_with_dollar s) (neither (empty s || not (leb (length s) longest_string)) (not (begins_with_dollar s)) b).1

pub bad_string_long : (s : List ℕ) → longest_string < length s → bad_string s ≡ true
unfolding bad_string
bad_string_long s h = rw (lt-leb (length s) longest_string h, or-true)

pub bad_string-first : (s : List ℕ) → 1 ≤ length s → length s ≤ longest_string → bad_string s ≡ not (eqb (get_or s 0 0) dollar)
unfolding bad_string
bad_string-first [] k h = absurd (omega arith)
bad_string-first (c ∷ s) k h = rw (le-leb (suc (length s)) longest_string h)

pub number_bad_string : (s : List ℕ) → bad_string s ≡ true → grammar_number s ≡ 1
unfolding grammar_number
number_bad_string s b = rw b

pub number_pieces : (s : List ℕ) → bad_string s ≡ false → grammar_number s ≡ first_number (piece_rows (pieces s))
unfolding grammar_number
number_pieces s b = rw b

-- what acceptance says
pub accepted_rows : (s : List ℕ) → grammar_number s ≡ 0 → Clear (grammar_rows s)
unfolding grammar_number
accepted_rows s e = clear (grammar_rows s) refl e

pub accepted_starts : (s : List ℕ) → grammar_number s ≡ 0 → begins_with_dollar s ≡ true
accepted_starts s e = bad_string_begins s (accepted_rows s e).0

-- ---- the layout

pub layout-refused : (s : List ℕ) (n : ℕ) → grammar_number s ≡ n → (n ≡ 0 → ⊥) → layout s ≡ refused_layout n
unfolding layout
layout-refused s n e z = rw (e, ne_eqb n 0 z)

pub layout-accepted : (s : List ℕ) → grammar_number s ≡ 0 → layout s ≡ accepted_layout (pieces s)
unfolding layout
layout-accepted s e = rw e

pub layout_number : (s : List ℕ) → (layout s).number ≡ grammar_number s
unfolding layout
layout_number s = go (eqb (grammar_number s) 0) refl
  where
    go : (b : Bool) → eqb (grammar_number s) 0 ≡ b → (cond b (accepted_layout (pieces s)) (refused_layout (grammar_number s))).number ≡ grammar_number s
    go true e = sym (eqb-true (grammar_number s) 0 e)
    go false e = refl

-- ---- one piece at its span

module _ (s : List ℕ) (h : begins_with_dollar s ≡ true) (w : Piece) where
  abbrev place : Span
  place = span_of (places_of (pieces s)) w

  -- nothing stands at the place 0
  absent : (o : OptionalText) (v : Span) → Holds s v o → v.at ≡ 0 → o ≡ none
  absent none v q z = refl
  absent (some t) v q z = absurd (omega (arith, q.0))

  present : (o : OptionalText) (v : Span) → Holds s v o → (v.at ≡ 0 → ⊥) → o ≡ some (part_at s v)
  present none v q z = absurd (z (ap (λ (x : Span). x.at) q))
  present (some t) v q z = ap {B = OptionalText} some (sym q.1)

  pub optional_absent : place.at ≡ 0 → piece_in (pieces s) w ≡ none
  optional_absent z = absent (piece_in (pieces s) w) place (spans s h w) z

  pub optional_present : (place.at ≡ 0 → ⊥) → piece_in (pieces s) w ≡ some (part_at s place)
  optional_present z = present (piece_in (pieces s) w) place (spans s h w) z

  part_text : (o : OptionalText) (v : Span) → Holds s v o → part_at s v ≡ text_of o
  part_text none v q = rw q (part_empty s)
  part_text (some t) v q = q.1

  pub piece_part : part_at s place ≡ text_of (piece_in (pieces s) w)
  piece_part = part_text (piece_in (pieces s) w) place (spans s h w)

-- ---- the parts

pub no_span : (w : Piece) → span_of no_places w ≡ span 0 0
no_span Id = refl
no_span Version = refl
no_span Params = refl
no_span Salt = refl
no_span Output = refl

pub layout_part : (s : List ℕ) (w : Piece) → part_at s (span_of (layout s).places w) ≡ piece_text s w
unfolding layout piece_text
layout_part s w = go (eqb (grammar_number s) 0) refl
  where
    go : (b : Bool) → eqb (grammar_number s) 0 ≡ b
        → part_at s (span_of (cond b (accepted_layout (pieces s)) (refused_layout (grammar_number s))).places w) ≡ cond b (text_of (piece_in (pieces s) w)) []
    go true e = piece_part s (accepted_starts s (eqb-true (grammar_number s) 0 e)) w
    go false e = ap (part_at s) (no_span w) ∙ part_empty s

-- the item at an index, by the text of the parameter piece
nothing : (k : ℕ) → ◌≡◌ {A = Item} (cut equals (get_or (parts comma []) k [])) ([], [])
nothing zero = refl
nothing (suc k) = refl

optional_item : (o : OptionalText) (k : ℕ) → cut equals (get_or (parts comma (text_of o)) k []) ≡ get_or (items_of o) k ([], [])
optional_item none k = nothing k
optional_item (some s) k = sym (item_at_lem (parts comma s) k)

item-text : (s : List ℕ) (k : ℕ) → cut equals (get_or (parts comma (piece_text s Params)) k []) ≡ item_at s k
unfolding piece_text item_at
item-text s k = go (eqb (grammar_number s) 0)
  where
    go : (b : Bool) → cut equals (get_or (parts comma (cond b (text_of (pieces s).params) [])) k []) ≡ get_or (cond b (items_of (pieces s).params) []) k ([], [])
    go true = optional_item (pieces s).params k
    go false = nothing k

pub item_is : (s : List ℕ) (k : ℕ) (params item : List ℕ) → params ≡ piece_text s Params → item ≡ get_or (parts comma params) k [] → cut equals item ≡ item_at s k
item_is s k params item p q = ap (cut equals) q ∙ ap (λ (l : List ℕ). cut equals (get_or (parts comma l) k [])) p ∙ item-text s k
