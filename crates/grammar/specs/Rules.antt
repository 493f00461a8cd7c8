-- 'Rows 1 to 7 are the grammar's': the rule of each piece, and these rows.
-- Assumes nothing.
use Rattle.std.specs.Prelude.{ℕ, Result, Bool, false, not, ◌&&◌, ◌||◌, List, [], ◌∷◌, leb, eqb, length, drop}
use Rattle.text.specs.Text.{text, within, all, same, empty, violates}
use Rattle.text.specs.Rows.{Row, row, first_number}
use Rattle.b64.specs.B64.{canonical}
use Rattle.decimal.specs.Numerals.{limited_reading, limited_number}
use Rattle.decimal.specs.declared.error.DecimalError.{DecimalError}
use Rattle.grammar.specs.Bytes.{dollar, is_name_byte, is_value_byte, is_text}
use Rattle.grammar.specs.Limits.{longest_name, longest_value, longest_output, most_items, largest_version, longest_string}
use Rattle.grammar.specs.Pieces.{Pieces, pieces, piece_in}
use Rattle.grammar.specs.Items.{Item, items}
use Rattle.grammar.specs.declared.places.Piece.{Piece}
use Rattle.grammar.specs.declared.places.Piece.TheVariants.{Id, Version, Params, Salt, Output}

-- an id, or the name of a parameter
abbrev pub is_name : List ℕ → Bool
is_name s = is_text is_name_byte longest_name s

-- the value of a parameter, or a salt
abbrev pub is_value : List ℕ → Bool
is_value s = is_text is_value_byte longest_value s

-- what stands after a version piece's `v=`, read as a number. Free answer: the first two bytes of any other text are not looked at
unfoldable pub version_reading : List ℕ → Result ℕ DecimalError
version_reading s = limited_reading 0 largest_version (drop 2 s)

-- after `v=` a shortest decimal, 0 to 4,294,967,295. Asked only of a piece that begins with `v=`
unfoldable pub is_version : List ℕ → Bool
is_version s = eqb (limited_number (version_reading s)) 0

-- no parameter is named `v`
unfoldable pub is_item : Item → Bool
is_item i = is_name i.0 && not (same i.0 (text "v")) && is_value i.1

-- 1 to 16 items; there is always one. Names are not compared with each other
unfoldable pub is_params : List ℕ → Bool
is_params s = leb (length (items s)) most_items && all is_item (items s)

-- 1 to 128 characters, a canonical B64 text
unfoldable pub is_output : List ℕ → Bool
is_output s = within 1 longest_output.0 (length s) && canonical s

abbrev pub rule_of : Piece → List ℕ → Bool
rule_of Id s = is_name s
rule_of Version s = is_version s
rule_of Params s = is_params s
rule_of Salt s = is_value s
rule_of Output s = is_output s

-- the first byte is `$`
abbrev pub begins_with_dollar : List ℕ → Bool
begins_with_dollar [] = false
begins_with_dollar (c ∷ s) = eqb c dollar

-- ---- rows

-- no bytes, more than 2,896, or first byte not `$`
unfoldable pub bad_string : List ℕ → Bool
bad_string s = empty s || not (leb (length s) longest_string) || not (begins_with_dollar s)

-- a piece is there and breaks its rule
abbrev pub breaks : Pieces → Piece → Bool
breaks p w = violates (rule_of w) (piece_in p w)

abbrev pub piece_rows : Pieces → List Row
piece_rows p =
    row 2 (breaks p Id)
    ∷ row 3 (breaks p Version)
    ∷ row 4 (breaks p Params)
    ∷ row 5 (breaks p Salt)
    ∷ row 6 (breaks p Output)
    ∷ row 7 (not (empty p.more))
    ∷ []

abbrev pub grammar_rows : List ℕ → List Row
grammar_rows s = row 1 (bad_string s) ∷ piece_rows (pieces s)

-- the grammar reader's number
unfoldable pub grammar_number : List ℕ → ℕ
grammar_number s = first_number (grammar_rows s)
