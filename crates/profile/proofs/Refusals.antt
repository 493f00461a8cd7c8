-- Demand 1: what a refusal is, in every edition.
-- Assumes nothing.
use Prim.Native.Nat.{ℕ}
use mathlib.Core.Path.{◌≡◌, refl, sym, ◌∙◌, ap}
use mathlib.Core.Bool.{true}
use mathlib.Core.List.{List, ◌++◌}
use Rattle.text.proofs.Rows.{first_passes}
use Rattle.text.proofs.Writing.{after_refuses}
use Rattle.grammar.specs.Pieces.{pieces}
use Rattle.grammar.specs.Rules.{grammar_rows}
use Rattle.grammar.proofs.Claims.{grammar_refusals}
use Rattle.table.specs.Limits.{Profile}
use Rattle.profile.specs.Fields.{FieldSet, chosen}
use Rattle.profile.specs.Reader.{reader_number, profile_rows, fields_of}
use Rattle.profile.specs.Writer.{writer_number, writer_rows, formatted, short_fields, short_rows, short_writer_number}
use Rattle.profile.specs.Entries.{reading, refused_reading, algorithm_version, algorithm_version_of, decoded, writing, short_writing}
use Rattle.profile.specs.Claims.{is_reader_number, is_byte_string_number, is_writer_number, is_short_writer_number, Demand1}
use Rattle.profile.proofs.ReadLaws.{reading_number, reading-refused}

module _ (e : List Profile) where
  -- every row of the reader has one of its numbers, and so on
  reader_own : (s : List ℕ) → (reader_number e s ≡ 0 → ⊥) → is_reader_number (reader_number e s) ≡ true
  unfolding reader_number
  reader_own s = first_passes is_reader_number (grammar_rows s ++ profile_rows e (pieces s)) refl

  byte_string_own : (s : List ℕ) → (reader_number e s ≡ 0 → ⊥) → is_byte_string_number (reader_number e s) ≡ true
  unfolding reader_number
  byte_string_own s = first_passes is_byte_string_number (grammar_rows s ++ profile_rows e (pieces s)) refl

  writer_own : (f : FieldSet) → (writer_number e f ≡ 0 → ⊥) → is_writer_number (writer_number e f) ≡ true
  unfolding writer_number
  writer_own f = first_passes is_writer_number (writer_rows e f) refl

  short_own : (k : ℕ) (salt output : List ℕ) → (short_writer_number e k salt output ≡ 0 → ⊥) → is_short_writer_number (short_writer_number e k salt output) ≡ true
  unfolding short_writer_number
  short_own k salt output = first_passes is_short_writer_number (short_rows e k salt output) refl

  -- a refused reading
  none_read : (s : List ℕ) → ((reading e s).number ≡ 0 → ⊥) → (is_reader_number (reading e s).number ≡ true) × (reading e s ≡ refused_reading (reading e s).number)
  none_read s n =
      let q = reading_number e s in
      let m : reader_number e s ≡ 0 → ⊥ = λ z. n (q ∙ z) in
      (ap is_reader_number q ∙ reader_own s m, sym (reading-refused e s (reading e s).number (sym q) n))

  none_meant : (s : List ℕ) → ((reading e s).number ≡ 0 → ⊥) → algorithm_version_of e (reading e s) ≡ record { number = (reading e s).number; version = 0 }
  none_meant s n = ap (algorithm_version_of e) (none_read s n).1

  pub demand_1 : Demand1 e
  unfolding algorithm_version decoded writing short_writing
  demand_1 =
      record {
        read = none_read;
        algorithm_version_lem = none_meant;
        byte_string = λ c s buffer at. after_refuses is_byte_string_number (reader_number e s) buffer at (chosen c (fields_of e s)) (byte_string_own s) refl;
        write = λ f buffer at. after_refuses is_writer_number (writer_number e f) buffer at (formatted e f) (writer_own f) refl;
        write_short = λ k salt output buffer at.
            after_refuses is_short_writer_number (short_writer_number e k salt output) buffer at (formatted e (short_fields e k salt output)) (short_own k salt output) refl;
        grammar = grammar_refusals;
      }
