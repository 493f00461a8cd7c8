-- 'For every input, good or bad, a public entry's contract determines everything it hands back and each byte of lent memory': the outcomes that
-- the contracts name.
-- Assumes nothing.
use Rattle.std.specs.Prelude.{ℕ, cond, List, eqb, Result, Ok, Err}
use Rattle.std.proofs.Math.Option.{none, some}
use Rattle.refusals.specs.Numbers.{number_of}
use Rattle.refusals.specs.declared.Refusal.{Refusal}
use Rattle.text.specs.Place.{Outcome, put_after}
use Rattle.grammar.specs.Pieces.{OptionalText, pieces}
use Rattle.table.specs.Limits.{Profile, profile_of}
use Rattle.table.specs.declared.version.Version.{Version}
use Rattle.table.specs.declared.version.Version.TheVariants.{Absent, Number}
use Rattle.profile.specs.Fields.{FieldSet, chosen}
use Rattle.profile.specs.Reader.{reader_number, fields_of}
use Rattle.profile.specs.Writer.{writer_number, formatted, short_fields, short_writer_number}
use Rattle.profile.specs.declared.fields.NumberFields.{NumberFields}
use Rattle.profile.specs.declared.fields.ByteString.{ByteString}
use Rattle.profile.specs.declared.fields.Kind.{Kind}
use Rattle.profile.specs.declared.fields.Kind.TheVariants.{Parameters, Salt, Hash}
use Rattle.profile.specs.declared.fields.Record.{Record}

-- ---- the profile reader

abbrev pub no_fields : NumberFields
no_fields = record { id = 0; version = Absent; m = 0; t = 0; p = 0 }

-- 0, the kind and the number fields; or the number of bad input and an all-zero record
pub record Reading : Type 0 where
  pub number : ℕ
  pub kind : ℕ
  pub fields : NumberFields

-- all-zero, version absent
abbrev pub refused_reading : ℕ → Reading
refused_reading n = record { number = n; kind = 0; fields = no_fields }

-- 'Id alone or with version or parameters is a parameter string; with salt a salt string; with output a hash string.'
-- 01's kind: 1 for its parameter string, 2 for its salt string, 3 for its hash string. Free answer: 3 for an output without a salt, which no
-- string has
abbrev pub kind_of : OptionalText → OptionalText → ℕ
kind_of none none = 1
kind_of none (some o) = 3
kind_of (some s) none = 2
kind_of (some s) (some o) = 3

-- 01's number for each kind
abbrev pub kind_number : Kind → ℕ
kind_number Parameters = 1
kind_number Salt = 2
kind_number Hash = 3

-- what the entry gives, as that answer
abbrev pub read_answer : Result Record Refusal → Reading
read_answer (Ok r) = record { number = 0; kind = kind_number r.kind; fields = r.fields }
read_answer (Err e) = refused_reading (number_of e)

unfoldable pub reading : List Profile → List ℕ → Reading
reading e s =
    cond (eqb (reader_number e s) 0)
    (record { number = 0; kind = kind_of (pieces s).salt (pieces s).output; fields = (fields_of e s).numbers })
    (refused_reading (reader_number e s))

-- ---- which algorithm version is meant

-- the number written; or what an absent one means
abbrev pub version_or : ℕ → Version → ℕ
version_or implied Absent = implied
version_or implied (Number n) = n

-- 0 and the version, or the number of bad input and 0
pub record AlgorithmVersion : Type 0 where
  pub number : ℕ
  pub version : ℕ

abbrev pub version_answer : Result ℕ Refusal → AlgorithmVersion
version_answer (Ok v) = record { number = 0; version = v }
version_answer (Err e) = record { number = number_of e; version = 0 }

-- of what a reader gave. Free answer: one made by hand goes by its fields, whatever its number is
abbrev pub algorithm_version_of : List Profile → Reading → AlgorithmVersion
algorithm_version_of e r = record { number = r.number; version = version_or (profile_of e r.fields.id).implied r.fields.version }

-- of a refused string the fields are all-zero, and so is the version
unfoldable pub algorithm_version : List Profile → List ℕ → AlgorithmVersion
algorithm_version e s = algorithm_version_of e (reading e s)

-- ---- the byte-string entry, the writer and the short writer

unfoldable pub decoded : List Profile → ByteString → List ℕ → List ℕ → ℕ → Outcome
decoded e c s buffer at = put_after (reader_number e s) buffer at (chosen c (fields_of e s))

unfoldable pub writing : List Profile → FieldSet → List ℕ → ℕ → Outcome
writing e f buffer at = put_after (writer_number e f) buffer at (formatted e f)

unfoldable pub short_writing : List Profile → ℕ → List ℕ → List ℕ → List ℕ → ℕ → Outcome
short_writing e k salt output buffer at = put_after (short_writer_number e k salt output) buffer at (formatted e (short_fields e k salt output))
