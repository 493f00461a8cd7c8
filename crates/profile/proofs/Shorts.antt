-- The short writer's number is the writer's number for the short writer's fields, in every edition that passes the test `defaults_sound`; where
-- it is 0 they are permitted.
-- Assumes nothing.
use Prim.Native.Nat.{ℕ}
use mathlib.Core.Bool.{Bool, true, false}
use mathlib.Core.List.{List, []}
use mathlib.Core.Path.{◌≡◌, refl, sym, ap, ◌∙◌}
use Rattle.text.specs.Text.{all, is_byte}
use Rattle.text.specs.Place.{put_after}
use Rattle.table.specs.Limits.{Profile, profile_of, edition_two}
use Rattle.profile.specs.Writer.{Permitted, writer_number, formatted, short_fields, short_writer_number}
use Rattle.profile.specs.Claims.{ShortAgrees, ShortFields}
use Rattle.profile.specs.Fields.{field_set}
use Rattle.profile.specs.Entries.{writing, short_writing}
use Rattle.profile.specs.Sound.{defaults_sound}
use Rattle.profile.specs.declared.fields.NumberFields.{NumberFields}
use Rattle.profile.proofs.SoundLaws.{defaults_at_lem, edition_two_defaults}
use Rattle.profile.proofs.Allows.{permitted}

module _ (e : List Profile) (ok : defaults_sound e ≡ true) (k : ℕ) (salt output : List ℕ) where
  short_number : short_writer_number e k salt output ≡ writer_number e (short_fields e k salt output)
  unfolding writer_number short_fields short_writer_number
  short_number = go (profile_of e k).known refl
    where
      go : (b : Bool) → (profile_of e k).known ≡ b → short_writer_number e k salt output ≡ writer_number e (short_fields e k salt output)
      go true q = let u = defaults_at_lem e ok k q in rw (u.version, u.m, u.t, u.p, u.lanes, q)
      go false q = rw q

  short_permitted : short_writer_number e k salt output ≡ 0 → all is_byte salt ≡ true → all is_byte output ≡ true → Permitted e (short_fields e k salt output)
  unfolding short_fields
  short_permitted z s o = permitted e (short_fields e k salt output) (sym short_number ∙ z) (refl, refl, s, o)

  short_writing_lem : (buffer : List ℕ) (at : ℕ) → short_writing e k salt output buffer at ≡ writing e (short_fields e k salt output) buffer at
  unfolding writing short_writing
  short_writing_lem buffer at = ap (λ (n : ℕ). put_after n buffer at (formatted e (short_fields e k salt output))) short_number

pub short_agrees : (e : List Profile) → defaults_sound e ≡ true → ShortAgrees e
short_agrees e ok =
    record { writes = λ k salt output buffer at. short_writing_lem e ok k salt output buffer at; permitted = λ k salt output z s o. short_permitted e ok k salt output z s o }

pub short_agrees_two : ShortAgrees edition_two
short_agrees_two = short_agrees edition_two edition_two_defaults

-- what its fields are, computed from the table
pub short_fields_lem : ShortFields
unfolding short_fields edition_two
short_fields_lem = record { argon2 = λ salt output. refl; pbkdf2 = λ salt output. refl }

-- the short writer as the code has it: a call of the writer with its defaults
pub short_by : (k : ℕ) (salt output buffer : List ℕ) (at : ℕ) (n : NumberFields) → n ≡ (short_fields edition_two k [] []).numbers
    → writing edition_two (field_set n [] [] salt output) buffer at ≡ short_writing edition_two k salt output buffer at
unfolding short_fields
short_by k salt output buffer at n e =
    ap (λ (f : NumberFields). writing edition_two (field_set f [] [] salt output) buffer at) e ∙ sym (short_agrees_two.writes k salt output buffer at)
