-- The rows and the outcomes that the contracts of the directory's entries name. Of 24 'it comes first; after it the numbers are those of the `$`
-- string' (02). No rule of the profiles stands here.
-- Assumes nothing.
use Rattle.std.specs.Prelude.{ℕ, Bool, not, List, [], ◌∷◌, ◌++◌}
use Rattle.text.specs.Text.{within, same, maybe}
use Rattle.text.specs.Place.{Outcome, refused, put_after}
use Rattle.text.specs.Rows.{Row, row, first_number}
use Rattle.grammar.specs.Bytes.{dollar}
use Rattle.table.specs.Limits.{Profile, profile_of}
use Rattle.profile.specs.Fields.{FieldSet, field_set}
use Rattle.profile.specs.Reader.{reader_number, fields_of}
use Rattle.profile.specs.Writer.{writer_rows, formatted}
use Rattle.profile.specs.Entries.{no_fields, Reading, refused_reading, reading, decoded}
use Rattle.profile.specs.declared.fields.ByteString.{ByteString}
use Rattle.fast_path.specs.Contents.{ContentsAnswer, refused_contents, all_decoded, contents}
use Rattle.directory.specs.Braced.{dollar_string, braced_text}

-- ---- reading

-- 'for a text without one of the two prefixes, for an empty rest': the refusal; else what is said of its `$` string
abbrev pub of_dollar_string : {A : Type 0} → A → (List ℕ → A) → List ℕ → A
of_dollar_string refusal answer t = maybe refusal answer (dollar_string t)

unfoldable pub directory_number : List Profile → List ℕ → ℕ
directory_number e t = of_dollar_string 24 (reader_number e) t

-- Free answer: no fields where there is no `$` string
unfoldable pub directory_fields : List Profile → List ℕ → FieldSet
directory_fields e t = of_dollar_string (field_set no_fields [] [] [] []) (fields_of e) t

unfoldable pub directory_reading : List Profile → List ℕ → Reading
directory_reading e t = of_dollar_string (refused_reading 24) (reading e) t

unfoldable pub directory_decoded : List Profile → ByteString → List ℕ → List ℕ → ℕ → Outcome
directory_decoded e c t buffer at = of_dollar_string (refused 24 buffer) (λ (s : List ℕ). decoded e c s buffer at) t

-- all in one call, as the fast path has it
unfoldable pub directory_all_decoded : List Profile → List ℕ → List ℕ → ℕ → Outcome
directory_all_decoded e t buffer at = of_dollar_string (refused 24 buffer) (λ (s : List ℕ). all_decoded e s buffer at) t

unfoldable pub directory_contents : List Profile → List ℕ → List ℕ → ℕ → ContentsAnswer
directory_contents e t buffer at = of_dollar_string (refused_contents 24) (λ (s : List ℕ). contents e s buffer at) t

-- ---- writing

-- pbkdf2s2 and pbkdf2s3
abbrev pub is_directory_id : ℕ → Bool
is_directory_id k = within 4 5 k

-- the string of the fields is the id alone
abbrev pub is_id_alone : List Profile → FieldSet → Bool
is_id_alone e f = same (formatted e f) (dollar ∷ (profile_of e f.numbers.id).name)

-- 'on writing for another id or for fields that are written as the id alone': the writer's own rows stand between the two, since fields that are
-- not permitted are not written
abbrev pub directory_rows : List Profile → FieldSet → List Row
directory_rows e f = row 24 (not (is_directory_id f.numbers.id)) ∷ (writer_rows e f ++ (row 24 (is_id_alone e f) ∷ []))

unfoldable pub directory_writer_number : List Profile → FieldSet → ℕ
directory_writer_number e f = first_number (directory_rows e f)

-- the braced text of the string that fields are written to. Free answer: no text where that has none
unfoldable pub directory_formatted : List Profile → FieldSet → List ℕ
directory_formatted e f = maybe [] (λ (t : List ℕ). t) (braced_text (formatted e f))

unfoldable pub directory_writing : List Profile → FieldSet → List ℕ → ℕ → Outcome
directory_writing e f buffer at = put_after (directory_writer_number e f) buffer at (directory_formatted e f)
