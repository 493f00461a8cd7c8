-- The claims of specs/Claims.antt, proved.
-- Assumes nothing.
use Prim.Native.Nat.{ℕ, ◌≤◌}
use mathlib.Core.Bool.{Bool, true, false, not, cond, ◌||◌, or-true}
use mathlib.Core.List.{List, [], ◌∷◌, ◌++◌}
use mathlib.Core.Logic.{◌⊎◌, inl, inr}
use mathlib.Core.Option.{none, some}
use mathlib.Core.Path.{◌≡◌, refl, sym, ◌∙◌, ap, subst}
use native.Mathlib.Omega.{arith}
use lib.Dec.{leb, eqb}
use lib.ListN.{length, drop}
use Rattle.text.specs.Text.{text, maybe}
use Rattle.text.specs.Place.{refused, put_after, Refuses}
use Rattle.text.specs.Rows.{Row, row, first_number}
use Rattle.text.proofs.Rows.{first_passes}
use Rattle.text.proofs.Tests.{from_within}
use Rattle.text.proofs.Writing.{after_zero, after_refuses}
use Rattle.grammar.specs.Limits.{longest_string}
use Rattle.grammar.specs.Pieces.{OptionalText, pieces}
use Rattle.grammar.specs.Bytes.{is_name_byte, is_text}
use Rattle.grammar.specs.Rules.{breaks, bad_string, piece_rows}
use Rattle.grammar.specs.declared.places.Piece.TheVariants.{Id}
use Rattle.grammar.proofs.Reading.{number_bad_string}
use Rattle.table.specs.Limits.{profile_of, id_of, edition_two}
use Rattle.profile.specs.Fields.{FieldSet, field_set, chosen, write_bytes}
use Rattle.profile.specs.Reader.{profile_rows, reader_number, fields_of}
use Rattle.profile.specs.Writer.{Permitted, writer_rows, writer_number, formatted}
use Rattle.profile.specs.Entries.{no_fields, refused_reading, kind_of, reading, decoded}
use Rattle.profile.specs.Spelling.{EntriesAgree}
use Rattle.profile.specs.declared.fields.ByteString.{ByteString}
use Rattle.profile.proofs.Allows.{here, not_refused, permitted}
use Rattle.profile.proofs.SoundLaws.{edition_two-sound}
use Rattle.profile.proofs.ReadLaws.{answer_refused, reading_number, reading_fields}
use Rattle.profile.proofs.Written.{written}
use Rattle.profile.proofs.Accepted.{accepted}
use Rattle.profile.proofs.Promises.{promises}
use Rattle.profile.proofs.Demand3.{Inverse, demand_3_rules, Follows, writes_own, carries_written, demand_3_entries}
use Rattle.directory.specs.Braced.{dollar_string, braced_text, longest_braced}
use Rattle.directory.specs.Entries.{is_directory_id, is_id_alone, directory_number, directory_fields, directory_reading, directory_decoded, directory_writer_number, directory_formatted, directory_writing}
use Rattle.directory.specs.Claims.{HasSpelling, directory_rules, directory_entries, is_directory_reader_number, is_directory_byte_string_number, is_directory_writer_number, DirectoryClaims}
use Rattle.directory.proofs.Prefixes.{Differ, dollar_braced, braced_dollar, dollar_view, dollar-length}
use Rattle.directory.proofs.Texts.{which, at_most, name-length, alone_length}
use Rattle.directory.proofs.ReaderLaws.{of_string, of_none, prefix_id, short, number_long, read_number}
use Rattle.directory.proofs.WriterLaws.{number_row_lem, number_clear, formatted_is, NotRefused, number_zero, text_is, text-length, braced_most}
use Rattle.directory.proofs.Examples.{text_numbers, field_numbers}

-- ---- fields that have a spelling

unrefused : (f : FieldSet) → HasSpelling edition_two f → NotRefused f
unrefused f h = record { id = h.id; row = not_refused edition_two f h.permitted; more = h.more }

has-text : (f : FieldSet) → HasSpelling edition_two f → braced_text (formatted edition_two f) ≡ some (directory_formatted edition_two f)
has-text f h = text_is f (unrefused f h)

-- a string with a braced text is longer than the id alone
not_alone : (f : FieldSet) (t : List ℕ) → is_directory_id f.numbers.id ≡ true → braced_text (formatted edition_two f) ≡ some t → is_id_alone edition_two f ≡ false
not_alone f t h q = go (is_id_alone edition_two f) refl
  where
    go : (b : Bool) → is_id_alone edition_two f ≡ b → b ≡ false
    go true a =
        absurd (omega (arith, name-length f h, alone_length edition_two f a, dollar-length t (formatted edition_two f) (braced_dollar (formatted edition_two f) t q)))
    go false a = refl

text-has : (f : FieldSet) → Permitted edition_two f → (t : List ℕ) → braced_text (formatted edition_two f) ≡ some t → HasSpelling edition_two f
text-has f p t q =
    let d = braced_dollar (formatted edition_two f) t q in
    let i = subst (λ (g : FieldSet). is_directory_id g.numbers.id ≡ true) (written edition_two edition_two-sound f p).1 (prefix_id t (formatted edition_two f) d) in
    record { permitted = p; id = i; more = not_alone f t i q }

pub not-refused-text : (f : FieldSet) → HasSpelling edition_two f → directory_writer_number edition_two f ≡ 0
not-refused-text f h =
    number_clear edition_two f h.id (not_refused edition_two f h.permitted) ∙ ap (λ (b : Bool). cond b 24 0) h.more

-- ---- demand 3

accepted-text : (t : List ℕ) → directory_number edition_two t ≡ 0
    → HasSpelling edition_two (directory_fields edition_two t) × (directory_formatted edition_two (directory_fields edition_two t) ≡ t)
unfolding directory_number directory_fields
accepted-text t = go (dollar_string t) refl
  where
    go : (o : OptionalText) → dollar_string t ≡ o → maybe 24 (reader_number edition_two) o ≡ 0
        → HasSpelling edition_two (maybe (field_set no_fields [] [] [] []) (fields_of edition_two) o) × (directory_formatted edition_two (maybe (field_set no_fields [] [] [] []) (fields_of edition_two) o) ≡ t)
    go none q z = absurd (omega arith)
    go (some s) q z =
        let a = accepted edition_two edition_two-sound s z in
        let f = fields_of edition_two s in
        let b : braced_text (formatted edition_two f) ≡ some t = ap braced_text a.1 ∙ dollar_braced t s q in
        (text-has f a.0 t b, formatted_is edition_two f t b)

inverse : Inverse (directory_rules edition_two)
unfolding directory_number directory_fields
inverse =
    record {
      accepted = accepted-text;
      written = λ f h.
          let s = formatted edition_two f in
          let t = directory_formatted edition_two f in
          let d = braced_dollar s t (has-text f h) in
          let w = written edition_two edition_two-sound f h.permitted in
          (of_string 24 (reader_number edition_two) t s d ∙ w.0, of_string (field_set no_fields [] [] [] []) (fields_of edition_two) t s d ∙ w.1);
    }

module _ (t : List ℕ) where
  read_fields : directory_number edition_two t ≡ 0 → (directory_reading edition_two t).fields ≡ (directory_fields edition_two t).numbers
  unfolding directory_reading directory_number directory_fields
  read_fields = go (dollar_string t)
    where
      go : (o : OptionalText) → maybe 24 (reader_number edition_two) o ≡ 0
          → (maybe (refused_reading 24) (reading edition_two) o).fields ≡ (maybe (field_set no_fields [] [] [] []) (fields_of edition_two) o).numbers
      go none z = absurd (omega arith)
      go (some s) z = reading_fields edition_two s z

  module _ (c : ByteString) (buffer : List ℕ) (at : ℕ) where
    decoded_is : directory_decoded edition_two c t buffer at ≡ put_after (directory_number edition_two t) buffer at (chosen c (directory_fields edition_two t))
    unfolding directory_decoded directory_number directory_fields decoded put_after
    decoded_is = go (dollar_string t)
      where
        go : (o : OptionalText)
            → maybe (refused 24 buffer) (λ (s : List ℕ). decoded edition_two c s buffer at) o
            ≡ put_after (maybe 24 (reader_number edition_two) o) buffer at (chosen c (maybe (field_set no_fields [] [] [] []) (fields_of edition_two) o))
        go none = refl
        go (some s) = refl

follows : Follows (directory_rules edition_two) (directory_entries edition_two) (directory_writer_number edition_two)
unfolding directory_writing
follows =
    record {
      reading_number = read_number;
      reading_fields = read_fields;
      decoded_is = λ c t buffer at. decoded_is t c buffer at;
      writing_is = λ f buffer at. refl;
      not_refused = not-refused-text;
      short = λ f h. let l = at_most f h.id (not_refused edition_two f h.permitted) in omega (arith, text-length f (unrefused f h));
    }

-- ---- demand 1

-- the id of a `$` string keeps its rule and is known, so rows 2 and 8 never speak
record IdIs (s : List ℕ) : Type 0 where
  keeps : breaks (pieces s) Id ≡ false
  known : (profile_of edition_two (id_of edition_two (pieces s).id)).known ≡ true

id_is : (t s : List ℕ) → dollar_string t ≡ some s → IdIs s
unfolding pieces edition_two is_text is_name_byte
id_is t s d = go (dollar_view t s d)
  where
    go : Differ (text "{pbkdf2s2}") (text "$pbkdf2s2$") t s ⊎ Differ (text "{pbkdf2s3}") (text "$pbkdf2s3$") t s → IdIs s
    go (inl w) = record { keeps = rw w.right; known = rw w.right }
    go (inr w) = record { keeps = rw w.right; known = rw w.right }

module _ (t s : List ℕ) (d : dollar_string t ≡ some s) where
  -- the rows without these two
  other_rows : List Row
  other_rows = row 1 (bad_string s) ∷ (drop 1 (piece_rows (pieces s)) ++ drop 1 (profile_rows edition_two (pieces s)))

  by_others : reader_number edition_two s ≡ first_number other_rows
  unfolding reader_number other_rows
  by_others = let i = id_is t s d in rw (i.keeps, i.known)

  string_own : (reader_number edition_two s ≡ 0 → ⊥) → is_directory_reader_number (reader_number edition_two s) ≡ true
  unfolding other_rows
  string_own n = ap is_directory_reader_number by_others ∙ first_passes is_directory_reader_number other_rows refl (λ z. n (by_others ∙ z))

  -- so of the byte-string entry's too
  pub byte_string_own : (reader_number edition_two s ≡ 0 → ⊥) → is_directory_byte_string_number (reader_number edition_two s) ≡ true
  byte_string_own n = ap (λ (b : Bool). eqb 17 (reader_number edition_two s) || b) (string_own n) ∙ or-true (eqb 17 (reader_number edition_two s))

reader_own : (t : List ℕ) → ((directory_reading edition_two t).number ≡ 0 → ⊥)
    → (is_directory_reader_number (directory_reading edition_two t).number ≡ true) × (directory_reading edition_two t ≡ refused_reading (directory_reading edition_two t).number)
unfolding directory_reading
reader_own t = go (dollar_string t) refl
  where
    go : (o : OptionalText) → dollar_string t ≡ o
        → let r = maybe (refused_reading 24) (reading edition_two) o in
        (r.number ≡ 0 → ⊥) → (is_directory_reader_number r.number ≡ true) × (r ≡ refused_reading r.number)
    go none d n = (refl, refl)
    go (some s) d n =
        let q = reading_number edition_two s in
        (ap is_directory_reader_number q ∙ string_own t s d (λ z. n (q ∙ z)), (promises.demand_1.read s n).1)

bytes_own : (c : ByteString) (t buffer : List ℕ) (at : ℕ) → Refuses is_directory_byte_string_number buffer (directory_decoded edition_two c t buffer at)
unfolding directory_decoded decoded
bytes_own c t buffer at = go (dollar_string t) refl
  where
    go : (o : OptionalText) → dollar_string t ≡ o → Refuses is_directory_byte_string_number buffer (maybe (refused 24 buffer) (λ (s : List ℕ). decoded edition_two c s buffer at) o)
    go none d n = (refl, refl)
    go (some s) d n =
        after_refuses is_directory_byte_string_number (reader_number edition_two s) buffer at (chosen c (fields_of edition_two s)) (byte_string_own t s d) refl n

-- the two ids are known, so row 8 never speaks
pub known : (f : FieldSet) → is_directory_id f.numbers.id ≡ true → (here edition_two f).known ≡ true
unfolding edition_two
known f h = go (which f.numbers.id h)
  where
    go : (f.numbers.id ≡ 4) ⊎ (f.numbers.id ≡ 5) → (here edition_two f).known ≡ true
    go (inl q) = rw q
    go (inr q) = rw q

writer_own : (f : FieldSet) → (directory_writer_number edition_two f ≡ 0 → ⊥) → is_directory_writer_number (directory_writer_number edition_two f) ≡ true
unfolding directory_writer_number
writer_own f = go (is_directory_id f.numbers.id) refl
  where
    after_8 : List Row
    after_8 = drop 1 (writer_rows edition_two f) ++ (row 24 (is_id_alone edition_two f) ∷ [])

    go : (b : Bool) → is_directory_id f.numbers.id ≡ b
        → (cond (not b) 24 (first_number (writer_rows edition_two f ++ (row 24 (is_id_alone edition_two f) ∷ []))) ≡ 0 → ⊥)
        → is_directory_writer_number (cond (not b) 24 (first_number (writer_rows edition_two f ++ (row 24 (is_id_alone edition_two f) ∷ [])))) ≡ true
    go false q n = refl
    go true q n =
        let e : first_number (writer_rows edition_two f ++ (row 24 (is_id_alone edition_two f) ∷ [])) ≡ first_number after_8 = rw (known f q) in
        ap is_directory_writer_number e ∙ first_passes is_directory_writer_number after_8 refl (λ z. n (e ∙ z))

-- ---- braces, and lengths

braces_refused : (t : List ℕ) → reader_number edition_two (text "{" ++ t) ≡ 1
unfolding bad_string
braces_refused t =
    answer_refused edition_two (text "{" ++ t) 1 (number_bad_string (text "{" ++ t) (or-true (not (leb (length (text "{" ++ t)) longest_string)))) (λ z. omega arith)

at_most_longest : (t : List ℕ) → directory_number edition_two t ≡ 0 → length t ≤ longest_braced
unfolding directory_number
at_most_longest t = go (dollar_string t) refl
  where
    go : (o : OptionalText) → dollar_string t ≡ o → maybe 24 (reader_number edition_two) o ≡ 0 → length t ≤ longest_braced
    go none q z = absurd (omega arith)
    go (some s) q z = short t s q z

-- ---- 24

no_string_24 : (t : List ℕ) → dollar_string t ≡ none → directory_number edition_two t ≡ 24
unfolding directory_number
no_string_24 t d = of_none 24 (reader_number edition_two) t d

only_no_string : (t : List ℕ) → directory_number edition_two t ≡ 24 → dollar_string t ≡ none
unfolding directory_number
only_no_string t = go (dollar_string t)
  where
    go : (o : OptionalText) → maybe 24 (reader_number edition_two) o ≡ 24 → o ≡ none
    go none z = refl
    go (some s) z =
        let n = reading_number edition_two s ∙ z in
        absurd (omega (arith, n, from_within 1 15 (reading edition_two s).number (promises.demand_1.read s (λ y. omega arith)).0))

dollars_refused : (s : List ℕ) → directory_number edition_two (text "$" ++ s) ≡ 24
unfolding dollar_string
dollars_refused s = no_string_24 (text "$" ++ s) refl

-- ---- the entries by the rules

reads_back : (f : FieldSet) → HasSpelling edition_two f
    → directory_reading edition_two (directory_formatted edition_two f) ≡ record { number = 0; kind = kind_of (write_bytes f.salt) (write_bytes f.output); fields = f.numbers }
unfolding directory_reading
reads_back f h =
    let s = formatted edition_two f in
    let t = directory_formatted edition_two f in
    of_string (refused_reading 24) (reading edition_two) t s (braced_dollar s t (has-text f h)) ∙ promises.entries_agree.reads f h.permitted

agree : EntriesAgree (directory_rules edition_two) (directory_entries edition_two)
unfolding directory_writing
agree =
    record {
      writes = writes_own (directory_rules edition_two) (directory_entries edition_two) (directory_writer_number edition_two) follows;
      writes_only = λ f b buffer at z.
          let q = after_zero (directory_writer_number edition_two f) buffer at (directory_formatted edition_two f) z in
          let n = number_zero f q.0 in
          (record { permitted = permitted edition_two f n.row b; id = n.id; more = n.more }, q.1);
      reads = reads_back;
      carries = carries_written (directory_rules edition_two) (directory_entries edition_two) (directory_writer_number edition_two) follows inverse;
    }

pub directory_claims : DirectoryClaims
unfolding directory_writing
directory_claims =
    record {
      demand_1 =
          record {
            read = reader_own;
            byte_string = bytes_own;
            write = λ f buffer at. after_refuses is_directory_writer_number (directory_writer_number edition_two f) buffer at (directory_formatted edition_two f) (writer_own f) refl;
          };
      demand_3 = demand_3_rules (directory_rules edition_two) inverse;
      entries_demand_3 = demand_3_entries (directory_rules edition_two) (directory_entries edition_two) (directory_writer_number edition_two) follows inverse;
      entries_agree = agree;
      inverse = λ t s. (dollar_braced t s, braced_dollar s t);
      same_length = λ t s d. (dollar-length t s d).0;
      spelling = λ f p. (has-text f, text-has f p (directory_formatted edition_two f));
      no_string = λ t. (only_no_string t, no_string_24 t);
      too_long = λ t s d l. sym (number_long t s d l);
      writer_row = λ f h n. number_row_lem edition_two f h (writer_number edition_two f) refl n;
      braces = braces_refused;
      dollars = dollars_refused;
      longest = at_most_longest;
      longest_written = λ f h. braced_most f (not-refused-text f h);
      numbers = text_numbers;
      writer_numbers_lem = field_numbers;
    }
