-- What the columns of a row hold: columns are parted by tabs, and the first five are id, version, m, t and p.
-- Assumes nothing.
use Rattle.std.specs.Prelude.{ℕ, cond, List, [], get_or}
use Rattle.text.specs.Text.{text, tab, same, parts}
use Rattle.decimal.specs.Numerals.{limited_reading, limited_value}
use Rattle.table.specs.declared.version.Version.{Version}
use Rattle.table.specs.declared.version.Version.TheVariants.{Absent, Number}
use Rattle.profile.specs.declared.fields.NumberFields.{NumberFields}

-- the column at an index from 0. Free answer: empty past the last
abbrev pub column_at : List ℕ → ℕ → List ℕ
column_at line index = get_or (parts tab line) index []

-- a decimal of at most so much. Free answer: 0 for any other text
abbrev pub decimal_up_to : ℕ → List ℕ → ℕ
decimal_up_to high s = limited_value (limited_reading 0 high s)

-- `absent`, or a number of 32 bits
abbrev pub version_in : List ℕ → Version
version_in s = cond (same s (text "absent")) Absent (Number (decimal_up_to 4294967295 s))

abbrev pub number_fields_in : List ℕ → NumberFields
number_fields_in line =
    record {
      id = decimal_up_to 255 (column_at line 0);
      version = version_in (column_at line 1);
      m = decimal_up_to 4294967295 (column_at line 2);
      t = decimal_up_to 4294967295 (column_at line 3);
      p = decimal_up_to 4294967295 (column_at line 4);
    }
