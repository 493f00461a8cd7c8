-- 'Fields are permitted when the id is one of the five, its column allows the others (salt and output may also be empty) and no output stands
-- without a salt.' The writer's rows, and the one string that fields are written to.
-- Assumes nothing.
use Rattle.std.specs.Prelude.{ℕ, ◌≡◌, Bool, true, false, not, ◌&&◌, ◌||◌, List, [], ◌∷◌, ◌++◌, length}
use Rattle.std.proofs.Math.Option.{none, some}
use Rattle.text.specs.Text.{all, empty, is_byte}
use Rattle.text.specs.Rows.{Row, row, first_number}
use Rattle.grammar.specs.Pieces.{OptionalText, Pieces, string}
use Rattle.grammar.specs.Items.{Item, params_text}
use Rattle.table.specs.Limits.{Profile, in_range, memory_too_little, is_size, version_allowed, profile_of}
use Rattle.table.specs.declared.limits.BytesRule.{BytesRule}
use Rattle.profile.specs.Fields.{FieldSet, field_set, write_number, write_bytes, write_version}
use Rattle.profile.specs.Reader.{parameter_names}
use Rattle.profile.specs.declared.fields.NumberFields.{NumberFields}

-- empty, or of a permitted size. Since salt and output may be empty, 'all three kinds of string are permitted in every profile'
abbrev pub bytes_allowed : BytesRule → List ℕ → Bool
bytes_allowed r bs = empty bs || is_size r (length bs)

-- ---- permitted fields: the id is known, its column allows the others, and no output stands without a salt

-- the four byte strings hold bytes
abbrev pub OfBytes : FieldSet → Type 0
OfBytes f =
    (all is_byte f.keyid ≡ true) × (all is_byte f.«data» ≡ true) × (all is_byte f.salt ≡ true) × (all is_byte f.output ≡ true)

-- the column r allows the fields, whatever their byte strings hold
pub record Allows (r : Profile) (f : FieldSet) : Type 0 where
  pub id : r.known ≡ true
  pub version : version_allowed r.versions f.numbers.version ≡ true
  pub m : in_range r.m f.numbers.m ≡ true
  pub t : in_range r.t f.numbers.t ≡ true
  pub p : in_range r.p f.numbers.p ≡ true
  pub lanes : memory_too_little f.numbers.m f.numbers.p ≡ false
  pub keyid : bytes_allowed r.keyid f.keyid ≡ true
  pub «data» : bytes_allowed r.«data» f.«data» ≡ true
  pub salt : bytes_allowed r.salt f.salt ≡ true
  pub output : bytes_allowed r.output f.output ≡ true
  pub output_with_salt : (empty f.salt && not (empty f.output)) ≡ false

-- 01's permitted fields
pub record Permitted (e : List Profile) (f : FieldSet) : Type 0 where
  pub column : Allows (profile_of e f.numbers.id) f
  pub bytes : OfBytes f

-- ---- the writer's rows

-- the numbers: each in its range, then m at least 8p. 'For pbkdf2 an m or p other than 0 is 11': the range of a constant is its own number
abbrev pub range_rows : Profile → NumberFields → List Row
range_rows r n =
    row 11 (not (in_range r.m n.m))
    ∷ row 11 (not (in_range r.t n.t))
    ∷ row 11 (not (in_range r.p n.p))
    ∷ row 11 (memory_too_little n.m n.p)
    ∷ []

abbrev pub salt_rows : Profile → List ℕ → List ℕ → List Row
salt_rows r salt output =
    row 14 (not (bytes_allowed r.salt salt))
    ∷ row 15 (not (bytes_allowed r.output output))
    ∷ row 16 (empty salt && not (empty output))
    ∷ []

-- keyid and data, then salt and output; 'for pbkdf2 any data is 12'
abbrev pub bytes_rows : Profile → List ℕ → List ℕ → List ℕ → List ℕ → List Row
bytes_rows r keyid «data» salt output =
    row 12 (not (bytes_allowed r.keyid keyid))
    ∷ row 12 (not (bytes_allowed r.«data» «data»))
    ∷ salt_rows r salt output

-- for the column r of the id
abbrev pub column_rows : Profile → FieldSet → List Row
column_rows r f =
    row 8 (not r.known)
    ∷ row 9 (not (version_allowed r.versions f.numbers.version))
    ∷ (range_rows r f.numbers
    ++ bytes_rows r f.keyid f.«data» f.salt f.output)

abbrev pub writer_rows : List Profile → FieldSet → List Row
writer_rows e f = column_rows (profile_of e f.numbers.id) f

-- the writer's number, before it looks at the room
unfoldable pub writer_number : List Profile → FieldSet → ℕ
writer_number e f = first_number (writer_rows e f)

-- ---- the string

-- the item of a name, where it has a value
abbrev pub item : List ℕ → OptionalText → List Item
item n none = []
item n (some v) = (n, v) ∷ []

abbrev pub item_list : List (List ℕ) → List OptionalText → List Item
item_list [] vs = []
item_list (n ∷ ns) [] = []
item_list (n ∷ ns) (v ∷ vs) = item n v ++ item_list ns vs

-- the values of the names
abbrev pub field_values : Profile → FieldSet → List OptionalText
field_values r f =
    write_number r.m f.numbers.m
    ∷ write_number r.t f.numbers.t
    ∷ write_number r.p f.numbers.p
    ∷ write_bytes f.keyid
    ∷ write_bytes f.«data»
    ∷ []

unfoldable pub field_pieces : List Profile → FieldSet → Pieces
field_pieces e f =
    let r = profile_of e f.numbers.id in
    record {
      id = r.name;
      version = write_version f.numbers.version;
      params = params_text (item_list parameter_names (field_values r f));
      salt = write_bytes f.salt;
      output = write_bytes f.output;
      more = [];
    }

-- the one string that fields are written to
unfoldable pub formatted : List Profile → FieldSet → List ℕ
formatted e f = string (field_pieces e f)

-- ---- the short writer: no keyid, no data, and its defaults for the others

unfoldable pub short_fields : List Profile → ℕ → List ℕ → List ℕ → FieldSet
short_fields e k salt output =
    let u = (profile_of e k).defaults in
    field_set (record { id = k; version = u.version; m = u.m; t = u.t; p = u.p }) [] [] salt output

abbrev pub short_rows : List Profile → ℕ → List ℕ → List ℕ → List Row
short_rows e k salt output =
    let r = profile_of e k in
    row 8 (not r.known) ∷ salt_rows r salt output

unfoldable pub short_writer_number : List Profile → ℕ → List ℕ → List ℕ → ℕ
short_writer_number e k salt output = first_number (short_rows e k salt output)
