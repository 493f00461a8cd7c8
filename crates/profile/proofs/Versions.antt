-- Which algorithm version the strings of document 01's table mean.
-- Assumes nothing.
use Prim.Native.Nat.{ℕ, ◌≤◌}
use mathlib.Core.Bool.{Bool, true, false, ◌&&◌, ◌||◌, false≢true}
use mathlib.Core.List.{List, []}
use mathlib.Core.Option.{none, some}
use mathlib.Core.Path.{◌≡◌, refl, sym, subst, ◌∙◌, ap}
use native.Mathlib.Omega.{arith}
use lib.Dec.{leb, eqb}
use borrow.Author.Tests.{eqb-true, lt-leb}
use Rattle.text.specs.Text.{text, empty, every}
use Rattle.text.proofs.Tests.{both}
use Rattle.text.proofs.Lists.{empty-nil}
use Rattle.decimal.specs.Decimal.{digits, digits_within}
use Rattle.grammar.specs.Pieces.{Pieces, pieces}
use Rattle.table.specs.Limits.{Profile, profile_of, edition_two, version_allowed, argon2_implied}
use Rattle.table.specs.declared.version.Version.{Version}
use Rattle.table.specs.declared.version.Version.TheVariants.{Absent, Number}
use Rattle.profile.specs.Fields.{FieldSet, read_version, write_version}
use Rattle.profile.specs.Reader.{reader_number, fields_of}
use Rattle.profile.specs.Writer.{Permitted, field_pieces, formatted, short_fields}
use Rattle.profile.specs.Entries.{version_or, reading, algorithm_version}
use Rattle.profile.specs.Claims.{AlgorithmVersions}
use Rattle.profile.specs.declared.fields.NumberFields.{NumberFields}
use Rattle.profile.proofs.ReadLaws.{reading_number, reading_fields}
use Rattle.profile.proofs.SoundLaws.{at_id, edition_two-sound}
use Rattle.profile.proofs.Accepted.{accepted}
use Rattle.profile.proofs.Written.{pieces_of, written}

-- the columns of Argon2 imply `argon2_implied`; those of pbkdf2 imply 0, and list no version
implies_at : ℕ → Profile → Bool
implies_at k r = (leb 4 k || eqb r.implied argon2_implied) && (leb k 3 || (empty r.versions && eqb r.implied 0))

all_imply : every implies_at 1 edition_two ≡ true
unfolding implies_at edition_two
all_imply = refl

absent_only : (v : Version) → version_allowed [] v ≡ true → v ≡ Absent
absent_only Absent h = refl
absent_only (Number n) h = absurd (false≢true h)

module _ (s : List ℕ) (z : (reading edition_two s).number ≡ 0) where
  abbrev fields : NumberFields
  fields = (reading edition_two s).fields

  abbrev column : Profile
  column = profile_of edition_two fields.id

  is_accepted : reader_number edition_two s ≡ 0
  is_accepted = sym (reading_number edition_two s) ∙ z

  -- the column of the id allows the version
  allows : (column.known ≡ true) × (version_allowed column.versions fields.version ≡ true)
  allows =
      let a = (accepted edition_two edition_two-sound s is_accepted).0.column in
      subst (λ (n : NumberFields). ((profile_of edition_two n.id).known ≡ true) × (version_allowed (profile_of edition_two n.id).versions n.version ≡ true))
      (sym (reading_fields edition_two s is_accepted)) (a.id, a.version)

  implies : implies_at fields.id column ≡ true
  implies = at_id implies_at edition_two all_imply fields.id allows.0

  -- 0 and the version that the fields mean
  meant : (v : Version) (implied n : ℕ) → fields.version ≡ v → column.implied ≡ implied → version_or implied v ≡ n
      → algorithm_version edition_two s ≡ record { number = 0; version = n }
  unfolding algorithm_version
  meant v implied n q p e = λ i. record { number = z i; version = (let w : version_or column.implied fields.version ≡ n = (λ j. version_or (p j) (q j)) ∙ e in w i) }

  argon2_implies : fields.id ≤ 3 → column.implied ≡ argon2_implied
  unfolding implies_at
  argon2_implies h =
      let l = lt-leb 4 fields.id (omega arith) in
      eqb-true column.implied argon2_implied (rw l at (both (leb 4 fields.id || eqb column.implied argon2_implied) _ implies).0)

  pbkdf2_implies : 4 ≤ fields.id → (empty column.versions ≡ true) × (eqb column.implied 0 ≡ true)
  unfolding implies_at
  pbkdf2_implies h =
      let l = lt-leb fields.id 3 (omega arith) in
      both (empty column.versions) (eqb column.implied 0)
      (rw l at (both (leb 4 fields.id || eqb column.implied argon2_implied) (leb fields.id 3 || (empty column.versions && eqb column.implied 0)) implies).1)

  pbkdf2_meant : 4 ≤ fields.id → algorithm_version edition_two s ≡ record { number = 0; version = 0 }
  pbkdf2_meant h =
      let p = pbkdf2_implies h in
      let no-versions = empty-nil column.versions p.0 in
      meant Absent 0 0 (absent_only fields.version (subst (λ (vs : List ℕ). version_allowed vs fields.version ≡ true) no-versions allows.1)) (eqb-true column.implied 0 p.1) refl

-- ---- the version field

field_absent : (s : List ℕ) → (pieces s).version ≡ none → (reading edition_two s).fields.version ≡ Absent
unfolding reading fields_of
field_absent s q = go (eqb (reader_number edition_two s) 0) refl
  where
    go : (b : Bool) → eqb (reader_number edition_two s) 0 ≡ b → (reading edition_two s).fields.version ≡ Absent
    go true z = rw z (ap read_version q)
    go false z = rw z

-- ---- the short writer's strings

-- in Argon2's columns the short writer's version is 19
short_at : ℕ → Profile → Bool
short_at k r = leb 4 k || eqb (version_or 0 r.defaults.version) 19

all_short : every short_at 1 edition_two ≡ true
unfolding short_at edition_two
all_short = refl

version_19 : (v : Version) → eqb (version_or 0 v) 19 ≡ true → v ≡ Number 19
version_19 Absent h = absurd (false≢true h)
version_19 (Number n) h = ap Number (eqb-true n 19 h)

short_version : (k : ℕ) → (profile_of edition_two k).known ≡ true → k ≤ 3 → (profile_of edition_two k).defaults.version ≡ Number 19
unfolding short_at
short_version k known h =
    version_19 (profile_of edition_two k).defaults.version (rw (lt-leb 4 k (omega arith)) at (at_id short_at edition_two all_short k known))

short_means : (k : ℕ) (salt output : List ℕ) → Permitted edition_two (short_fields edition_two k salt output) → k ≤ 3
    → let s = formatted edition_two (short_fields edition_two k salt output) in
    ((pieces s).version ≡ some (text "v=19")) × (algorithm_version edition_two s ≡ record { number = 0; version = 19 })
unfolding short_fields field_pieces digits digits_within
short_means k salt output h l =
    let f = short_fields edition_two k salt output in
    let s = formatted edition_two f in
    let v = short_version k h.column.id l in
    let w = written edition_two edition_two-sound f h in
    let z = reading_number edition_two s ∙ w.0 in
    let q = reading_fields edition_two s w.0 ∙ ap (λ (g : FieldSet). g.numbers) w.1 in (
      ap (λ (p : Pieces). p.version) (pieces_of edition_two edition_two-sound f h) ∙ ap write_version v,
      meant s z (Number 19) (column s z).implied 19 (ap (λ (n : NumberFields). n.version) q ∙ v) refl refl,
    )

pub algorithm_versions : AlgorithmVersions
algorithm_versions =
    record {
      written = λ s n z q. meant s z (Number n) (column s z).implied n q refl refl;
      argon2_absent = λ s z h q. meant s z Absent argon2_implied argon2_implied q (argon2_implies s z h) refl;
      pbkdf2 = pbkdf2_meant;
      field_absent = field_absent;
      short = short_means;
    }
