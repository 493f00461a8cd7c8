-- 'Id and parameter names: each of the ranges `a`..`z`, `0`..`9`, or the minus sign. A value has 1 to 128 bytes of `[a-zA-Z0-9/+.-]`': the
-- classes of bytes that the rules name, and the separators.
-- Assumes nothing.
use Rattle.std.specs.Prelude.{ℕ, Bool, ◌&&◌, ◌||◌, List, eqb, length}
use Rattle.text.specs.Text.{within, all}

-- ---- separators: before each piece, between two items, and between an item's name and its value

abbrev pub dollar : ℕ
dollar = 36

abbrev pub comma : ℕ
comma = 44

abbrev pub equals : ℕ
equals = 61

-- ---- classes

-- `a`..`z`, `0`..`9`, or the minus sign
unfoldable pub is_name_byte : ℕ → Bool
is_name_byte c = within 97 122 c || within 48 57 c || eqb c 45

-- [a-zA-Z0-9/+.-]
unfoldable pub is_value_byte : ℕ → Bool
is_value_byte c = within 97 122 c || within 65 90 c || within 48 57 c || eqb c 47 || eqb c 43 || eqb c 46 || eqb c 45

-- 1 to `most` bytes, each of a class
unfoldable pub is_text : (ℕ → Bool) → ℕ → List ℕ → Bool
is_text class most s = within 1 most (length s) && all class s
