-- The fields that the exported writers are handed: as their arguments, or taken from what `phc_read_all` or
-- `phc_directory_read_all` gave.
-- Assumes nothing.
use Rattle.std.specs.Prelude.{ℕ, ◌+◌, ◌*◌, cond, List, eqb, get_or, take, drop}
use Rattle.table.specs.declared.version.Version.{Version}
use Rattle.table.specs.declared.version.Version.TheVariants.{Absent, Number}
use Rattle.profile.specs.Fields.{FieldSet, field_set}

-- 0 is absent, 1 is the number. Free answer: another flag is a version that no profile permits, so that a writer answers 9, or the
-- number that comes before it: 8, or 24 of the directory's
abbrev pub version_field : ℕ → ℕ → Version
version_field flag version = cond (eqb flag 0) Absent (cond (eqb flag 1) (Number version) (Number 0))

abbrev pub handed : ℕ → ℕ → ℕ → ℕ → ℕ → ℕ → List ℕ → List ℕ → List ℕ → List ℕ → FieldSet
handed id flag version m t p keyid «data» salt output =
    field_set (record { id = id; version = version_field flag version; m = m; t = t; p = p }) keyid «data» salt output

-- ---- from the bytes of a record and of the four byte strings, as include/phc.h lays them out

-- the 32-bit little-endian number at a place
abbrev pub number32 : List ℕ → ℕ → ℕ
number32 t at = get_or t at 0 + 256 * get_or t (at + 1) 0 + 65536 * get_or t (at + 2) 0 + 16777216 * get_or t (at + 3) 0

-- id, flag, version, m, t and p of the record; and each byte string of as many bytes as its count says, after those before it
abbrev pub fields_in : List ℕ → List ℕ → FieldSet
fields_in «record» bytes =
    let keyid = number32 «record» 20 in
    let «data» = number32 «record» 24 in
    let salt = number32 «record» 28 in
    let output = number32 «record» 32 in
    let after_keyid = drop keyid bytes in
    let after_data = drop «data» after_keyid in
    let after_salt = drop salt after_data in
    handed (get_or «record» 1 0) (get_or «record» 2 0) (number32 «record» 4) (number32 «record» 8) (number32 «record» 12) (number32 «record» 16)
    (take keyid bytes) (take «data» after_keyid) (take salt after_data) (take output after_salt)
