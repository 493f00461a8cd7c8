-- What is proved of the directory's spelling, of document 01's table: the record `DirectoryClaims`, at the end; proofs/Claims.antt has its value.
-- Assumes nothing.
use Rattle.std.specs.Prelude.{ℕ, ◌≤◌, ◌<◌, ◌≡◌, Bool, true, false, List, [], ◌∷◌, ◌++◌, map, ◌↔◌, ◌≢◌, length}
use Prim.Native.String.{String}
use Rattle.std.proofs.Math.Option.{none, some}
use Rattle.text.specs.Text.{text, has}
use Rattle.text.specs.Place.{Refuses}
use Rattle.grammar.specs.Limits.{longest_string}
use Rattle.table.specs.Limits.{Profile, edition_two}
use Rattle.profile.specs.Fields.{FieldSet}
use Rattle.profile.specs.Reader.{reader_number}
use Rattle.profile.specs.Writer.{Permitted, writer_number, formatted}
use Rattle.profile.specs.Entries.{refused_reading}
use Rattle.profile.specs.Spelling.{Demand3, SpellingRules, rule_spelling, SpellingEntries, EntriesDemand3, EntriesAgree}
use Rattle.profile.specs.declared.fields.ByteString.{ByteString}
use Rattle.directory.specs.Braced.{dollar_string, braced_text, longest_braced}
use Rattle.directory.specs.Entries.{is_directory_id, is_id_alone, directory_number, directory_fields, directory_reading, directory_decoded, directory_writer_number, directory_formatted, directory_writing}
use Rattle.directory.specs.Examples.{braced_texts, field_examples}

-- ---- demand 1

-- the numbers of the reader, of the byte-string entry and of the writer. 2 and 8 are not among them: the id of the `$` string is one of the two,
-- and on writing 24 comes before 8
abbrev pub directory_reader_numbers : List ℕ
directory_reader_numbers = 1 ∷ 3 ∷ 4 ∷ 5 ∷ 6 ∷ 7 ∷ 9 ∷ 10 ∷ 11 ∷ 12 ∷ 13 ∷ 14 ∷ 15 ∷ 24 ∷ []

abbrev pub is_directory_reader_number : ℕ → Bool
is_directory_reader_number n = has n directory_reader_numbers

abbrev pub directory_byte_string_numbers : List ℕ
directory_byte_string_numbers = 17 ∷ directory_reader_numbers

abbrev pub is_directory_byte_string_number : ℕ → Bool
is_directory_byte_string_number n = has n directory_byte_string_numbers

abbrev pub directory_writer_numbers : List ℕ
directory_writer_numbers = 9 ∷ 11 ∷ 12 ∷ 14 ∷ 15 ∷ 16 ∷ 17 ∷ 24 ∷ []

abbrev pub is_directory_writer_number : ℕ → Bool
is_directory_writer_number n = has n directory_writer_numbers

-- demand 1, as the profile's `Demand1` has it. Of `read_all` the definitions that its contract cites say it at once (`refused_contents`, `put_after`)
pub record DirectoryDemand1 : Type 0 where
  pub read : (t : List ℕ) → (directory_reading edition_two t).number ≢ 0
      → (is_directory_reader_number (directory_reading edition_two t).number ≡ true) × (directory_reading edition_two t ≡ refused_reading (directory_reading edition_two t).number)
  pub byte_string : (c : ByteString) (t buffer : List ℕ) (at : ℕ) → Refuses is_directory_byte_string_number buffer (directory_decoded edition_two c t buffer at)
  pub write : (f : FieldSet) (buffer : List ℕ) (at : ℕ) → Refuses is_directory_writer_number buffer (directory_writing edition_two f buffer at)

-- ---- demand 3, 'over the fields that have one'

-- fields that have a braced text: permitted, of one of the two ids, and not written as the id alone
pub record HasSpelling (e : List Profile) (f : FieldSet) : Type 0 where
  pub permitted : Permitted e f
  pub id : is_directory_id f.numbers.id ≡ true
  pub more : is_id_alone e f ≡ false

abbrev pub directory_rules : List Profile → SpellingRules
directory_rules e = record { number = directory_number e; fields = directory_fields e; Permitted = HasSpelling e; formatted = directory_formatted e }

abbrev pub directory_entries : List Profile → SpellingEntries
directory_entries e = record { reading = directory_reading e; decoded = directory_decoded e; writing = directory_writing e }

-- ---- all

pub record DirectoryClaims : Type 0 where
  pub demand_1 : DirectoryDemand1
  pub demand_3 : Demand3 (rule_spelling (directory_rules edition_two))
  pub entries_demand_3 : EntriesDemand3 (directory_entries edition_two) (HasSpelling edition_two)
  pub entries_agree : EntriesAgree (directory_rules edition_two) (directory_entries edition_two)
  -- the `$` string of a braced text and the way back are inverse to each other, and of one length
  pub inverse : (t s : List ℕ) → (dollar_string t ≡ some s) ↔ (braced_text s ≡ some t)
  pub same_length : (t s : List ℕ) → dollar_string t ≡ some s → length t ≡ length s
  -- permitted fields have a spelling exactly where their string has a braced text, and it is the one written
  pub spelling : (f : FieldSet) → Permitted edition_two f → HasSpelling edition_two f ↔ (braced_text (formatted edition_two f) ≡ some (directory_formatted edition_two f))
  -- 24 exactly where there is no `$` string; and 1 where there is one of more than 2,896 bytes
  pub no_string : (t : List ℕ) → (directory_number edition_two t ≡ 24) ↔ (dollar_string t ≡ none)
  pub too_long : (t s : List ℕ) → dollar_string t ≡ some s → longest_string < length t → directory_number edition_two t ≡ 1
  -- fields of the two ids that are not permitted have the writer's number
  pub writer_row : (f : FieldSet) → is_directory_id f.numbers.id ≡ true → writer_number edition_two f ≢ 0
      → directory_writer_number edition_two f ≡ writer_number edition_two f
  -- 'the `$` reader still refuses braces with 1'; and the directory's reader refuses `$` strings with 24
  pub braces : (t : List ℕ) → reader_number edition_two (text "{" ++ t) ≡ 1
  pub dollars : (s : List ℕ) → directory_number edition_two (text "$" ++ s) ≡ 24
  -- no accepted braced text has more than 171 bytes, and none that is written
  pub longest : (t : List ℕ) → directory_number edition_two t ≡ 0 → length t ≤ longest_braced
  pub longest_written : (f : FieldSet) → HasSpelling edition_two f → length (directory_formatted edition_two f) ≤ longest_braced
  -- texts and fields on either side of a rule have their numbers
  pub numbers : map (λ (x : String × ℕ). directory_number edition_two (text x.0)) braced_texts ≡ map (λ (x : String × ℕ). x.1) braced_texts
  pub writer_numbers_lem : map (λ (x : FieldSet × ℕ). directory_writer_number edition_two x.0) field_examples ≡ map (λ (x : FieldSet × ℕ). x.1) field_examples
