-- All that a string carries in one call: the profile reader's answer, how many bytes each byte string has, and the four byte strings, one after
-- the other, from the place on; 1 to 15, then 17, with zeros. Nothing here is a rule of document 01.
-- Assumes nothing.
use Rattle.std.specs.Prelude.{ℕ, Result, Ok, Err, cond, List, ◌++◌, length, ◌==◌}
use Rattle.refusals.specs.Numbers.{number_of}
use Rattle.refusals.specs.declared.Refusal.{Refusal}
use Rattle.text.specs.Place.{Outcome, put_after}
use Rattle.text.specs.declared.units.Bytes.{Bytes}
use Rattle.table.specs.Limits.{Profile}
use Rattle.profile.specs.Fields.{FieldSet}
use Rattle.profile.specs.Reader.{reader_number, fields_of}
use Rattle.profile.specs.Entries.{Reading, read_answer, refused_reading, reading}
use Rattle.fast_path.specs.declared.contents.Contents.{Contents}

abbrev pub joined_bytes : FieldSet → List ℕ
joined_bytes f = f.keyid ++ (f.«data» ++ (f.salt ++ f.output))

-- what the entry hands back: the reader's answer, and how many bytes each byte string has
pub record ContentsAnswer : Type 0 where
  pub reading : Reading
  pub keyid : Bytes
  pub «data» : Bytes
  pub salt : Bytes
  pub output : Bytes

abbrev pub counted : Reading → FieldSet → ContentsAnswer
counted r f =
    record {
      reading = r;
      keyid = record { 0 = length f.keyid };
      «data» = record { 0 = length f.«data» };
      salt = record { 0 = length f.salt };
      output = record { 0 = length f.output };
    }

-- all-zero
abbrev pub refused_contents : ℕ → ContentsAnswer
refused_contents n =
    record {
      reading = refused_reading n;
      keyid = record { 0 = 0 };
      «data» = record { 0 = 0 };
      salt = record { 0 = 0 };
      output = record { 0 = 0 };
    }

-- the entry's result as that answer
abbrev pub accepted_contents : Contents → ContentsAnswer
accepted_contents c =
    record { reading = read_answer (Ok c.reading); keyid = c.keyid; «data» = c.«data»; salt = c.salt; output = c.output }

abbrev pub contents_answer : Result Contents Refusal → ContentsAnswer
contents_answer (Ok c) = accepted_contents c
contents_answer (Err e) = refused_contents (number_of e)

unfoldable pub all_decoded : List Profile → List ℕ → List ℕ → ℕ → Outcome
all_decoded e s buffer at = put_after (reader_number e s) buffer at (joined_bytes (fields_of e s))

unfoldable pub contents : List Profile → List ℕ → List ℕ → ℕ → ContentsAnswer
contents e s buffer at =
    let number = (all_decoded e s buffer at).number in
    cond (number == 0) (counted (reading e s) (fields_of e s)) (refused_contents number)
