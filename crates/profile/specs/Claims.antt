-- The promises: the record `Promises`, at the end, says what is proved of document 01's table, and proofs/Promises.antt has its one value. Its
-- parts stand above it, over any edition where they can be; `Demand3`, `EntriesDemand3` and
-- `EntriesAgree` stand in specs/Spelling.antt.
-- Assumes nothing.
use Rattle.std.specs.Prelude.{ℕ, ◌*◌, ◌≤◌, ◌≡◌, Bool, true, false, ◌||◌, List, [], ◌∷◌, map, ◌≢◌, eqb, length}
use Prim.Native.String.{String}
use Rattle.std.proofs.Math.Option.{none, some}
use Rattle.text.specs.Text.{text, within, all, has, empty, is_byte}
use Rattle.text.specs.Place.{Refuses}
use Rattle.grammar.specs.Claims.{GrammarRefusals}
use Rattle.grammar.specs.Pieces.{pieces}
use Rattle.table.specs.Limits.{Profile, edition_two}
use Rattle.table.specs.declared.version.Version.TheVariants.{Absent, Number}
use Rattle.profile.specs.Fields.{FieldSet, field_set}
use Rattle.profile.specs.Reader.{reader_number, fields_of}
use Rattle.profile.specs.Writer.{Permitted, formatted, short_fields, short_writer_number}
use Rattle.profile.specs.Entries.{refused_reading, reading, algorithm_version, decoded, writing, short_writing}
use Rattle.profile.specs.Spelling.{Demand3, SpellingRules, rule_spelling, SpellingEntries, EntriesDemand3, EntriesAgree}
use Rattle.profile.specs.Strings.{boundary_strings, extremes}
use Rattle.profile.specs.declared.fields.ByteString.{ByteString}

-- ---- demand 1

-- whether a number is one of the profile reader's, of the byte-string entry's, of the writer's, and of the short writer's
abbrev pub is_reader_number : ℕ → Bool
is_reader_number n = within 1 15 n

abbrev pub is_byte_string_number : ℕ → Bool
is_byte_string_number n = within 1 15 n || eqb n 17

abbrev pub writer_numbers : List ℕ
writer_numbers = 8 ∷ 9 ∷ 11 ∷ 12 ∷ 14 ∷ 15 ∷ 16 ∷ 17 ∷ []

abbrev pub is_writer_number : ℕ → Bool
is_writer_number n = has n writer_numbers

abbrev pub short_writer_numbers : List ℕ
short_writer_numbers = 8 ∷ 14 ∷ 15 ∷ 16 ∷ 17 ∷ []

abbrev pub is_short_writer_number : ℕ → Bool
is_short_writer_number n = has n short_writer_numbers

-- Demand 1: 'Bad input gets a number from document 01's list and an all-zero record; an entry that hands back a part hands back an empty one; no
-- byte of a lent buffer changes.' In 01's words, 'every refusal gives an all-zero record, version absent, and changes no buffer'; a refusal into a
-- buffer counts 0. Of the helpers, `read_all` and the listing the definitions that their contracts cite say it at once (`put`, `put_after`,
-- `decimal_answer`, `refused_contents`, `NoRoom`)
pub record Demand1 (e : List Profile) : Type 0 where
  pub read : (s : List ℕ) → (reading e s).number ≢ 0
      → (is_reader_number (reading e s).number ≡ true) × (reading e s ≡ refused_reading (reading e s).number)
  pub algorithm_version_lem : (s : List ℕ) → (reading e s).number ≢ 0 → algorithm_version e s ≡ record { number = (reading e s).number; version = 0 }
  pub byte_string : (c : ByteString) (s buffer : List ℕ) (at : ℕ) → Refuses is_byte_string_number buffer (decoded e c s buffer at)
  pub write : (f : FieldSet) (buffer : List ℕ) (at : ℕ) → Refuses is_writer_number buffer (writing e f buffer at)
  pub write_short : (k : ℕ) (salt output buffer : List ℕ) (at : ℕ) → Refuses is_short_writer_number buffer (short_writing e k salt output buffer at)
  -- the grammar reader, and the parts
  pub grammar : GrammarRefusals

-- ---- demand 2: no record here. It is the contracts: what a public entry gives is equated with a definition (specs/Entries.antt), over the rules of
-- specs/Reader.antt and specs/Writer.antt

-- ---- demand 3

-- the rules of an edition; and its profile reader, byte-string entry and writer
abbrev pub profile_rules : List Profile → SpellingRules
profile_rules e = record { number = reader_number e; fields = fields_of e; Permitted = Permitted e; formatted = formatted e }

abbrev pub profile_entries : List Profile → SpellingEntries
profile_entries e = record { reading = reading e; decoded = decoded e; writing = writing e }

-- ---- the short writer

-- the short writer gives what the writer gives for its defaults, no keyid and no data; and where it writes, these are permitted
pub record ShortAgrees (e : List Profile) : Type 0 where
  pub writes : (k : ℕ) (salt output buffer : List ℕ) (at : ℕ) → short_writing e k salt output buffer at ≡ writing e (short_fields e k salt output) buffer at
  pub permitted : (k : ℕ) (salt output : List ℕ) → short_writer_number e k salt output ≡ 0 → all is_byte salt ≡ true → all is_byte output ≡ true
      → Permitted e (short_fields e k salt output)

-- 'A short writer takes id, salt and output and uses version 19, m=65536, t=2, p=1 for Argon2, t=20,000 for pbkdf2, no keyid, no data': of the
-- ids 1 to 3, and 4 and 5
pub record ShortFields : Type 0 where
  pub argon2 : (salt output : List ℕ)
      → map (λ (k : ℕ). short_fields edition_two k salt output) (1 ∷ 2 ∷ 3 ∷ [])
      ≡ map (λ (k : ℕ). field_set (record { id = k; version = Number 19; m = 65536; t = 2; p = 1 }) [] [] salt output) (1 ∷ 2 ∷ 3 ∷ [])
  pub pbkdf2 : (salt output : List ℕ)
      → map (λ (k : ℕ). short_fields edition_two k salt output) (4 ∷ 5 ∷ [])
      ≡ map (λ (k : ℕ). field_set (record { id = k; version = Absent; m = 0; t = 20000; p = 0 }) [] [] salt output) (4 ∷ 5 ∷ [])

-- 'Asked which algorithm version an accepted Argon2 string means, the answer is the written number, or 19 where none is written; for pbkdf2 it is
-- 0'
pub record AlgorithmVersions : Type 0 where
  pub written : (s : List ℕ) (n : ℕ) → (reading edition_two s).number ≡ 0 → (reading edition_two s).fields.version ≡ Number n
      → algorithm_version edition_two s ≡ record { number = 0; version = n }
  pub argon2_absent : (s : List ℕ) → (reading edition_two s).number ≡ 0 → (reading edition_two s).fields.id ≤ 3 → (reading edition_two s).fields.version ≡ Absent
      → algorithm_version edition_two s ≡ record { number = 0; version = 19 }
  pub pbkdf2 : (s : List ℕ) → (reading edition_two s).number ≡ 0 → 4 ≤ (reading edition_two s).fields.id
      → algorithm_version edition_two s ≡ record { number = 0; version = 0 }
  -- 'The version field stays absent' (02)
  pub field_absent : (s : List ℕ) → (pieces s).version ≡ none → (reading edition_two s).fields.version ≡ Absent
  -- 'The short writer still writes `v=19`' (02), and its strings mean that
  pub short : (k : ℕ) (salt output : List ℕ) → Permitted edition_two (short_fields edition_two k salt output) → k ≤ 3
      → let s = formatted edition_two (short_fields edition_two k salt output) in
      ((pieces s).version ≡ some (text "v=19")) × (algorithm_version edition_two s ≡ record { number = 0; version = 19 })

-- every accepted Argon2 string has at least one lane, and eight kilobytes for each: p is at least 1, and m at least 8p; ids 1 to 3 are Argon2's
pub record Lanes : Type 0 where
  pub lane : (s : List ℕ) → (reading edition_two s).number ≡ 0 → (reading edition_two s).fields.id ≤ 3
      → (1 ≤ (reading edition_two s).fields.p) × (8 * (reading edition_two s).fields.p ≤ (reading edition_two s).fields.m)

-- 'Longest Argon2 string 265 bytes, shortest Argon2 hash string 49; for pbkdf2 hash strings 171 and 33': of the strings that permitted fields are
-- written to, which by demand 3 are the accepted ones
pub record Lengths : Type 0 where
  pub any_most : (f : FieldSet) → Permitted edition_two f → length (formatted edition_two f) ≤ 265
  pub argon2_least : (f : FieldSet) → Permitted edition_two f → f.numbers.id ≤ 3 → empty f.output ≡ false → 49 ≤ length (formatted edition_two f)
  pub pbkdf2_most : (f : FieldSet) → Permitted edition_two f → 4 ≤ f.numbers.id → length (formatted edition_two f) ≤ 171
  pub pbkdf2_least : (f : FieldSet) → Permitted edition_two f → 4 ≤ f.numbers.id → empty f.output ≡ false → 33 ≤ length (formatted edition_two f)

-- document 01's strings have their numbers; and accepted hash strings reach the bounds on lengths
pub record Examples : Type 0 where
  pub numbers : map (λ (x : String × ℕ). reader_number edition_two (text x.0)) boundary_strings ≡ map (λ (x : String × ℕ). x.1) boundary_strings
  pub reached : map {B = ℕ × ℕ × ℕ} (λ (x : String × ℕ). ((reading edition_two (text x.0)).number, (reading edition_two (text x.0)).kind, length (text x.0))) extremes
      ≡ map (λ (x : String × ℕ). (0, 3, x.1)) extremes

-- ---- the promises of document 01's table

pub record Promises : Type 0 where
  pub demand_1 : Demand1 edition_two
  pub demand_3 : Demand3 (rule_spelling (profile_rules edition_two))
  pub entries_demand_3 : EntriesDemand3 (profile_entries edition_two) (Permitted edition_two)
  pub entries_agree : EntriesAgree (profile_rules edition_two) (profile_entries edition_two)
  pub short_agrees : ShortAgrees edition_two
  pub short_fields_lem : ShortFields
  pub algorithm_versions : AlgorithmVersions
  pub lanes : Lanes
  pub lengths : Lengths
  pub examples : Examples
