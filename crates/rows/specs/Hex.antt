-- Bytes written as hex digits, two to a byte.
-- Assumes nothing.
use Rattle.std.specs.Prelude.{ℕ, ◌+◌, ◌-◌, ◌*◌, cond, List, [], ◌∷◌, take}
use Rattle.text.specs.Text.{within}
use Rattle.rows.specs.Columns.{column_at}

-- `0`..`9` 0 to 9, `a`..`f` 10 to 15. Free answer: 0 for any other byte
unfoldable pub nibble_of : ℕ → ℕ
nibble_of c = cond (within 48 57 c) (c - 48) (cond (within 97 102 c) (c - 97 + 10) 0)

-- Free answer: a last digit without its pair is left out
unfoldable pub hex_bytes : List ℕ → List ℕ
hex_bytes [] = []
hex_bytes (a ∷ []) = []
hex_bytes (a ∷ b ∷ s) = (nibble_of a * 16 + nibble_of b) ∷ hex_bytes s

-- the bytes of a column, at most 80
abbrev pub bytes_at : List ℕ → ℕ → List ℕ
bytes_at line index = take 80 (hex_bytes (column_at line index))
