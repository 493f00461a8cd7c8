-- What is proved of the fast path. The values are in proofs/Claims.antt.
-- Assumes nothing.
use Rattle.std.specs.Prelude.{◌≡◌, ℕ, ◌≤◌, List, length}
use Rattle.table.specs.Limits.{edition_two}
use Rattle.profile.specs.Reader.{reader_number, fields_of}
use Rattle.fast_path.specs.Contents.{joined_bytes}
use Rattle.fast_path.specs.Walk.{WalkAgrees}

-- the most bytes that keyid, data, salt and output have together: 8, 32, 48 and 64
abbrev pub most_bytes : ℕ
most_bytes = 152

pub record FastPathAgrees : Type 0 where
  -- the walk finds the fields of every accepted string, and nothing in any other
  pub agrees : WalkAgrees edition_two
  -- so many bytes of room are enough for the byte strings of every accepted string
  pub room : (s : List ℕ) → reader_number edition_two s ≡ 0 → length (joined_bytes (fields_of edition_two s)) ≤ most_bytes
