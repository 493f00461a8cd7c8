-- 'A limit in one must not be compared with a count in the other: 22 characters hold 16 bytes.' Characters of a B64 text and bytes are turned
-- into one another by these functions alone.
-- Assumes nothing.
use Rattle.std.specs.Prelude.{ℕ, ◌+◌, ◌*◌, ◌/◌, ◌%◌, min}
use Rattle.text.specs.Units.{largest_usize}

-- the bytes that so many characters hold: 3 for each whole group of 4, then 1 for 2 and 2 for 3.
-- Free answer: a single character left over holds none; no canonical text has such a length.
abbrev pub bytes_of : ℕ → ℕ
bytes_of chars = chars / 4 * 3 + chars % 4 * 3 / 4

-- the characters that so many bytes take: 4 for each whole group of 3, then 2 for 1 and 3 for 2
abbrev pub chars_of : ℕ → ℕ
chars_of bytes = bytes / 3 * 4 + (bytes % 3 * 4 + 2) / 3

-- Free answer: the largest usize where the characters are more than that. No slice has so many bytes
abbrev pub chars_within : ℕ → ℕ
chars_within bytes = min (chars_of bytes) largest_usize
