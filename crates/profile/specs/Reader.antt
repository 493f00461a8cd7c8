-- 'A string is accepted when none of the reader's rows applies. It carries the fields its pieces say': rows 8 to 15, the reader's number, and the
-- fields.
-- Assumes nothing.
use Rattle.std.specs.Prelude.{ℕ, Bool, not, ◌||◌, List, [], ◌∷◌, ◌++◌, get_or}
use Rattle.std.proofs.Math.Option.{Option, none, some}
use Rattle.text.specs.Text.{text, same, empty, head_if, tail_if, violates}
use Rattle.text.specs.Rows.{Row, row, first_number}
use Rattle.grammar.specs.Pieces.{OptionalText, Pieces, pieces}
use Rattle.grammar.specs.Items.{Item, items_of}
use Rattle.grammar.specs.Rules.{grammar_rows}
use Rattle.table.specs.Limits.{Profile, memory_too_little, version_allowed, id_of, profile_of, missing_or_unknown_number}
use Rattle.table.specs.declared.limits.NumberRule.{NumberRule}
use Rattle.table.specs.declared.version.Version.{Version}
use Rattle.profile.specs.Fields.{FieldSet, is_number, read_number, written_out, unknown_bytes, is_decoded_size, is_bytes, read_bytes, read_version}

-- ---- parameters by name, in order

-- m, t, p, then keyid, then data
abbrev pub parameter_names : List (List ℕ)
parameter_names = text "m" ∷ text "t" ∷ text "p" ∷ text "keyid" ∷ text "data" ∷ []

abbrev pub named : List ℕ → Item → Bool
named n i = same i.0 n

abbrev pub item_value : Option Item → OptionalText
item_value none = none
item_value (some i) = some i.1

-- the value of each name, as the items have them in order; and the items that are left, from the first whose name is unknown, repeated or out of
-- order
abbrev pub named_values : List (List ℕ) → List Item → List OptionalText
named_values [] is = []
named_values (n ∷ ns) is = item_value (head_if (named n) is) ∷ named_values ns (tail_if (named n) is)

abbrev pub unmatched_items : List (List ℕ) → List Item → List Item
unmatched_items [] is = is
unmatched_items (n ∷ ns) is = unmatched_items ns (tail_if (named n) is)

abbrev pub value_at : List OptionalText → ℕ → OptionalText
value_at vs k = get_or vs k none

-- ---- the rows, of the profile r and the values vs of the names

-- row 10, beside the items left: names missing, or unknown to the profile
abbrev pub missing_or_unknown : Profile → List OptionalText → Bool
missing_or_unknown r vs =
    missing_or_unknown_number r.m (value_at vs 0)
    || missing_or_unknown_number r.t (value_at vs 1)
    || missing_or_unknown_number r.p (value_at vs 2)
    || unknown_bytes r.keyid (value_at vs 3)
    || unknown_bytes r.«data» (value_at vs 4)

-- a number: not a permitted decimal, or out of range
abbrev pub number_row : NumberRule → OptionalText → List Row
number_row r s = row 11 (violates (is_number r) s) ∷ []

-- m, t and p, then m < 8p
abbrev pub number_rows : Profile → List OptionalText → List Row
number_rows r vs =
    number_row r.m (value_at vs 0)
    ++ (number_row r.t (value_at vs 1)
    ++ (number_row r.p (value_at vs 2)
    ++ (row 11 (memory_too_little (read_number r.m (value_at vs 0)) (read_number r.p (value_at vs 2))) ∷ [])))

-- keyid and data, then a number written out: in 01's table only pbkdf2's t can be
abbrev pub bytes_and_default_rows : Profile → List OptionalText → List Row
bytes_and_default_rows r vs =
    row 12 (violates (is_bytes r.keyid) (value_at vs 3))
    ∷ row 12 (violates (is_bytes r.«data») (value_at vs 4))
    ∷ row 13 (written_out r.m (value_at vs 0))
    ∷ row 13 (written_out r.t (value_at vs 1))
    ∷ row 13 (written_out r.p (value_at vs 2))
    ∷ []

-- for the profile, the version, the values of the names, whether items are left, the salt and the output
abbrev pub rows_for : Profile → Version → List OptionalText → Bool → OptionalText → OptionalText → List Row
rows_for r v vs unmatched salt output =
    row 8 (not r.known)
    ∷ row 9 (not (version_allowed r.versions v))
    ∷ row 10 (unmatched || missing_or_unknown r vs)
    ∷ (number_rows r vs
    ++ (bytes_and_default_rows r vs
    ++ (row 14 (violates (is_bytes r.salt) salt)
    ∷ row 15 (violates (is_decoded_size r.output) output)
    ∷ [])))

abbrev pub profile_rows : List Profile → Pieces → List Row
profile_rows e p =
    let is = items_of p.params in
    rows_for (profile_of e (id_of e p.id)) (read_version p.version) (named_values parameter_names is) (not (empty (unmatched_items parameter_names is))) p.salt p.output

-- the reader's number: rows 1 to 7 are the grammar's. A string is 01's accepted where it is 0
unfoldable pub reader_number : List Profile → List ℕ → ℕ
reader_number e s = first_number (grammar_rows s ++ profile_rows e (pieces s))

-- ---- the fields

-- for the profile, the id's number, the version, the values of the names, the salt and the output
abbrev pub fields_for : Profile → ℕ → Version → List OptionalText → OptionalText → OptionalText → FieldSet
fields_for r k v vs salt output =
    record {
      numbers =
          record {
            id = k;
            version = v;
            m = read_number r.m (value_at vs 0);
            t = read_number r.t (value_at vs 1);
            p = read_number r.p (value_at vs 2);
          };
      keyid = read_bytes (value_at vs 3);
      «data» = read_bytes (value_at vs 4);
      salt = read_bytes salt;
      output = read_bytes output;
    }

abbrev pub fields_of_pieces : List Profile → Pieces → FieldSet
fields_of_pieces e p =
    let k = id_of e p.id in
    fields_for (profile_of e k) k (read_version p.version) (named_values parameter_names (items_of p.params)) p.salt p.output

-- the fields that an accepted string carries (01's carried): what its pieces say
unfoldable pub fields_of : List Profile → List ℕ → FieldSet
fields_of e s = fields_of_pieces e (pieces s)
