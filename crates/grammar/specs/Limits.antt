-- 'The whole: at most 2,896 bytes, the sum of these': the grammar's limits, each once.
-- Assumes nothing.
use Rattle.std.specs.Prelude.{ℕ}
use Rattle.text.specs.declared.units.Chars.{Chars}

-- bytes of an id and of a parameter's name
abbrev pub longest_name : ℕ
longest_name = 32

-- bytes of a value and of a salt, and so their characters
abbrev pub longest_value : ℕ
longest_value = 128

-- characters of an output
abbrev pub longest_output : Chars
longest_output = record { 0 = 128 }

abbrev pub most_items : ℕ
most_items = 16

abbrev pub largest_version : ℕ
largest_version = 4294967295

-- bytes of a whole string: the sum of the limits of its pieces, each with its `$`
abbrev pub longest_string : ℕ
longest_string = 2896
