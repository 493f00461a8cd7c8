-- What the exported functions give: a record as bytes, and a count or a number in one answer. The layout is this interface's own.
-- Assumes nothing.
use Rattle.std.specs.Prelude.{ℕ, ◌*◌, ◌/◌, ◌%◌, Bool, cond, List, [], ◌∷◌, ◌++◌, eqb}
use Rattle.text.specs.Text.{within}
use Rattle.text.specs.Place.{Outcome, put_after}
use Rattle.table.specs.Limits.{edition_two}
use Rattle.table.specs.declared.version.Version.{Version}
use Rattle.table.specs.declared.version.Version.TheVariants.{Absent, Number}
use Rattle.profile.specs.Reader.{fields_of}
use Rattle.profile.specs.Entries.{Reading, reading}
use Rattle.fast_path.specs.Contents.{ContentsAnswer, joined_bytes, counted}
use Rattle.directory.specs.Entries.{of_dollar_string}

-- ---- the record

abbrev pub version_flag : Version → ℕ
version_flag Absent = 0
version_flag (Number n) = 1

abbrev pub version_number : Version → ℕ
version_number Absent = 0
version_number (Number n) = n

-- a 32-bit little-endian number
abbrev pub bytes32 : ℕ → List ℕ
bytes32 n = n % 256 ∷ n / 256 % 256 ∷ n / 65536 % 256 ∷ n / 16777216 % 256 ∷ []

-- four of them
abbrev pub words : ℕ → ℕ → ℕ → ℕ → List ℕ
words a b c d = bytes32 a ++ (bytes32 b ++ (bytes32 c ++ bytes32 d))

-- kind, id, 1 where a version is written, 0
abbrev pub head_bytes : Reading → List ℕ
head_bytes r = r.kind ∷ r.fields.id ∷ version_flag r.fields.version ∷ 0 ∷ []

-- then version, m, t and p
abbrev pub record_bytes : Reading → List ℕ
record_bytes r = let f = r.fields in head_bytes r ++ words (version_number f.version) f.m f.t f.p

abbrev pub record_length : ℕ
record_length = 20

-- the reader's number, then 17 where the record has fewer than 20 bytes; or the record at its start
unfoldable pub recorded : List ℕ → List ℕ → Outcome
recorded s buffer = let r = reading edition_two s in put_after r.number buffer 0 (record_bytes r)

-- ---- all in one call

-- keyid, data, salt and output
abbrev pub count_bytes : ContentsAnswer → List ℕ
count_bytes c = words c.keyid.0 c.«data».0 c.salt.0 c.output.0

abbrev pub record_all_length : ℕ
record_all_length = 36

-- what was read, in a record's first 36 bytes; or its number, where the record is not written
abbrev pub recorded_contents : ContentsAnswer → List ℕ → Outcome
recorded_contents c «record» = put_after c.reading.number «record» 0 (record_bytes c.reading ++ count_bytes c)

-- a record with the counts after it, and the four byte strings one after the other
pub record AllOutcome : Type 0 where
  pub number : ℕ
  pub «record» : List ℕ
  pub buffer : List ℕ

abbrev pub all_outcome : ℕ → List ℕ → List ℕ → AllOutcome
all_outcome number «record» buffer = record { number = number; «record» = «record»; buffer = buffer }

-- the reader's number, then 17 where the record or the byte strings don't fit: each is tested before either is written, so both are, or neither
unfoldable pub recorded_all : List ℕ → List ℕ → List ℕ → AllOutcome
recorded_all s «record» buffer =
    let c = counted (reading edition_two s) (fields_of edition_two s) in
    let text = record_bytes c.reading ++ count_bytes c in
    let fits = recorded_contents c «record» in
    let bytes = put_after fits.number buffer 0 (joined_bytes (fields_of edition_two s)) in
    all_outcome bytes.number (put_after bytes.number «record» 0 text).buffer bytes.buffer

-- of a braced text: 24 comes first, and after it the outcome is that of the `$` string
unfoldable pub directory_recorded_all : List ℕ → List ℕ → List ℕ → AllOutcome
directory_recorded_all t «record» buffer = of_dollar_string (all_outcome 24 «record» buffer) (λ (s : List ℕ). recorded_all s «record» buffer) t

-- ---- one answer

-- a hundred times what was found, or the refusal's number
abbrev pub code_of : ℕ → ℕ → ℕ
code_of number found = cond (eqb number 0) (100 * found) number

-- of an outcome: what was found is its count
abbrev pub coded : Outcome → ℕ
coded o = code_of o.number o.count

-- the answers that are refusals' numbers
abbrev pub is_refusal : ℕ → Bool
is_refusal answer = within 1 99 answer
