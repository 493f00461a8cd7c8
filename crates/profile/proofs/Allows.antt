-- The writer's rows don't apply exactly where the column of the id allows the fields.
-- Assumes nothing.
use mathlib.Core.List.{List}
use mathlib.Core.Path.{◌≡◌, refl}
use Rattle.text.proofs.Tests.{not_of_true, is_true}
use Rattle.text.proofs.Rows.{clear, zero_of}
use Rattle.table.specs.Limits.{Profile, in_range, version_allowed, profile_of}
use Rattle.profile.specs.Fields.{FieldSet}
use Rattle.profile.specs.Writer.{bytes_allowed, OfBytes, Allows, Permitted, writer_rows, writer_number}

-- the column of the fields' id
abbrev pub here : List Profile → FieldSet → Profile
here e f = profile_of e f.numbers.id

pub allowed : (e : List Profile) (f : FieldSet) → writer_number e f ≡ 0 → Allows (here e f) f
unfolding writer_number
allowed e f z =
    let (r8, (r9, (m, (t, (p, (lanes, (keyid, («data», (salt, (output, (order, u))))))))))) = clear (writer_rows e f) refl z in
    let n = f.numbers in
    let r = here e f in
    record {
      id = is_true r.known r8;
      version = is_true (version_allowed r.versions n.version) r9;
      m = is_true (in_range r.m n.m) m;
      t = is_true (in_range r.t n.t) t;
      p = is_true (in_range r.p n.p) p;
      lanes = lanes;
      keyid = is_true (bytes_allowed r.keyid f.keyid) keyid;
      «data» = is_true (bytes_allowed r.«data» f.«data») «data»;
      salt = is_true (bytes_allowed r.salt f.salt) salt;
      output = is_true (bytes_allowed r.output f.output) output;
      output_with_salt = order;
    }

pub allowed-zero : (e : List Profile) (f : FieldSet) → Allows (here e f) f → writer_number e f ≡ 0
unfolding writer_number
allowed-zero e f h =
    let n = f.numbers in
    zero_of (writer_rows e f) (
      not_of_true h.id,
      (
        not_of_true h.version,
        (
          not_of_true h.m,
          (
            not_of_true h.t,
            (
              not_of_true h.p,
              (
                h.lanes,
                (not_of_true h.keyid, (not_of_true h.«data», (not_of_true h.salt, (not_of_true h.output, (h.output_with_salt, tt))))),
              ),
            ),
          ),
        ),
      ),
    )

-- so its number is 0 exactly for permitted fields, where the byte strings hold bytes
pub not_refused : (e : List Profile) (f : FieldSet) → Permitted e f → writer_number e f ≡ 0
not_refused e f h = allowed-zero e f h.column

pub permitted : (e : List Profile) (f : FieldSet) → writer_number e f ≡ 0 → OfBytes f → Permitted e f
permitted e f z b = record { column = allowed e f z; bytes = b }
