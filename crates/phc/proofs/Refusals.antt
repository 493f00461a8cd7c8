-- What a refusal of an exported function is: its number, that it changes no byte, and that its answer is 1 to 99; and the writers never give 0.
-- Assumes nothing.
use Prim.Native.Nat.{ℕ, ◌*◌, ◌≤◌}
use mathlib.Core.Bool.{Bool, true, false, not, cond, ◌||◌}
use mathlib.Core.List.{List, ◌++◌}
use mathlib.Core.Option.{none, some}
use mathlib.Core.Path.{◌≡◌, refl, sym, ap, ◌∙◌}
use native.Mathlib.Omega.{arith}
use lib.Dec.{leb, eqb}
use lib.ListN.{length}
use borrow.Author.Tests.{eqb-true, eqb-false, leb-true, le-leb}
use Rattle.text.specs.Text.{within, all, has, maybe}
use Rattle.text.specs.Place.{Outcome, put_after, Refuses}
use Rattle.text.proofs.Tests.{from_within}
use Rattle.text.proofs.Lists.{all-has}
use Rattle.text.proofs.Writing.{put_refused, after_zero, after_done, after_refuses}
use Rattle.grammar.specs.Pieces.{OptionalText}
use Rattle.table.specs.Limits.{edition_two}
use Rattle.profile.specs.Fields.{FieldSet}
use Rattle.profile.specs.Reader.{fields_of}
use Rattle.profile.specs.Writer.{writer_number, formatted, short_fields}
use Rattle.profile.specs.Entries.{reading, algorithm_version, decoded, writing, short_writing}
use Rattle.profile.specs.Claims.{is_reader_number, is_byte_string_number, writer_numbers, is_writer_number, short_writer_numbers, is_short_writer_number}
use Rattle.profile.specs.declared.fields.ByteString.{ByteString}
use Rattle.profile.proofs.ReadLaws.{reading_number}
use Rattle.profile.proofs.Promises.{promises}
use Rattle.fast_path.specs.Contents.{joined_bytes, counted}
use Rattle.directory.specs.Braced.{dollar_string}
use Rattle.directory.specs.Entries.{directory_writer_number, directory_formatted, directory_writing}
use Rattle.directory.specs.Claims.{directory_byte_string_numbers, is_directory_byte_string_number, directory_writer_numbers, is_directory_writer_number}
use Rattle.directory.proofs.WriterLaws.{number_zero, text-length}
use Rattle.directory.proofs.Claims.{byte_string_own, directory_claims}
use Rattle.phc.specs.Records.{record_bytes, count_bytes, recorded, all_outcome, recorded_all, directory_recorded_all, code_of, coded, is_refusal}
use Rattle.phc.proofs.CodeLaws.{code_tells, number_tells}

-- ---- the numbers of an entry are at most 99

abbrev is_small : ℕ → Bool
is_small n = leb n 99

-- a number that is 0 or one of the entry's own
small : (own : ℕ → Bool) → ((k : ℕ) → own k ≡ true → k ≤ 99) → (n : ℕ) → ((n ≡ 0 → ⊥) → own n ≡ true) → n ≤ 99
small own h n p = go (eqb n 0) refl
  where
    go : (b : Bool) → eqb n 0 ≡ b → n ≤ 99
    go true e = omega (arith, eqb-true n 0 e)
    go false e = h n (p (eqb-false n 0 e))

listed : (ns : List ℕ) → all is_small ns ≡ true → (k : ℕ) → has k ns ≡ true → k ≤ 99
listed ns a k h = leb-true k 99 (all-has is_small k ns a h)

reader_small : (k : ℕ) → is_reader_number k ≡ true → k ≤ 99
reader_small k h = omega (arith, (from_within 1 15 k h).1)

byte_string_small : (k : ℕ) → is_byte_string_number k ≡ true → k ≤ 99
byte_string_small k h = go (within 1 15 k) refl h
  where
    go : (b : Bool) → within 1 15 k ≡ b → (b || eqb k 17) ≡ true → k ≤ 99
    go true e t = reader_small k e
    go false e t = omega (arith, eqb-true k 17 t)

after_small : (n : ℕ) (buffer : List ℕ) (at : ℕ) (bytes : List ℕ) → n ≤ 99 → (put_after n buffer at bytes).number ≤ 99
after_small n buffer at bytes h =
    small is_small (λ k e. leb-true k 99 e) (put_after n buffer at bytes).number
    (λ z. (after_refuses is_small n buffer at bytes (λ y. le-leb n 99 h) refl z).0)

reading_small : (s : List ℕ) → (reading edition_two s).number ≤ 99
reading_small s = small is_reader_number reader_small (reading edition_two s).number (λ z. (promises.demand_1.read s z).0)

recorded_small : (s «record» : List ℕ) → (recorded s «record»).number ≤ 99
unfolding recorded
recorded_small s «record» = after_small (reading edition_two s).number «record» 0 (record_bytes (reading edition_two s)) (reading_small s)

-- ---- the record, and all in one call

-- the reader's numbers are among the byte-string entry's
reading_own : (s : List ℕ) → ((reading edition_two s).number ≡ 0 → ⊥) → is_byte_string_number (reading edition_two s).number ≡ true
reading_own s z = rw (promises.demand_1.read s z).0

pub read_refuses : (s «record» : List ℕ) → Refuses is_byte_string_number «record» (recorded s «record»)
unfolding recorded
read_refuses s «record» = after_refuses is_byte_string_number (reading edition_two s).number «record» 0 (record_bytes (reading edition_two s)) (reading_own s) refl

module _ (s «record» buffer : List ℕ) where
  abbrev told : List ℕ
  told = record_bytes (reading edition_two s) ++ count_bytes (counted (reading edition_two s) (fields_of edition_two s))

  abbrev fits : ℕ
  fits = (put_after (reading edition_two s).number «record» 0 told).number

  abbrev bytes : Outcome
  bytes = put_after fits buffer 0 (joined_bytes (fields_of edition_two s))

  pub read_all_small : (recorded_all s «record» buffer).number ≤ 99
  unfolding recorded_all
  read_all_small =
      after_small fits buffer 0 (joined_bytes (fields_of edition_two s)) (after_small (reading edition_two s).number «record» 0 told (reading_small s))

  -- with numbers that the reader's are among, and 17
  module _ (own : ℕ → Bool) (h : ((reading edition_two s).number ≡ 0 → ⊥) → own (reading edition_two s).number ≡ true) (k : own 17 ≡ true) where
    bytes_refuse : Refuses own buffer bytes
    bytes_refuse =
        after_refuses own fits buffer 0 (joined_bytes (fields_of edition_two s))
        (λ z. (after_refuses own (reading edition_two s).number «record» 0 told h k z).0) k

    all_refuses : ((recorded_all s «record» buffer).number ≡ 0 → ⊥)
        → (own (recorded_all s «record» buffer).number ≡ true) × (recorded_all s «record» buffer ≡ all_outcome (recorded_all s «record» buffer).number «record» buffer)
    unfolding recorded_all
    all_refuses z =
        let b = bytes_refuse z in
        let r = put_refused «record» 0 told bytes.number bytes.number refl (omega (arith, z)) in
        (b.0, λ i. all_outcome bytes.number (sym r i).buffer (b.1 i).buffer)

  pub read_all_refuses : ((recorded_all s «record» buffer).number ≡ 0 → ⊥)
      → (is_byte_string_number (recorded_all s «record» buffer).number ≡ true) × (recorded_all s «record» buffer ≡ all_outcome (recorded_all s «record» buffer).number «record» buffer)
  read_all_refuses = all_refuses is_byte_string_number (reading_own s) refl

-- ---- the same of a braced text

pub directory_read_all_refuses : (t «record» buffer : List ℕ) → ((directory_recorded_all t «record» buffer).number ≡ 0 → ⊥)
    → (is_directory_byte_string_number (directory_recorded_all t «record» buffer).number ≡ true)
    × (directory_recorded_all t «record» buffer ≡ all_outcome (directory_recorded_all t «record» buffer).number «record» buffer)
unfolding directory_recorded_all
directory_read_all_refuses t «record» buffer = go (dollar_string t) refl
  where
    go : (o : OptionalText) → dollar_string t ≡ o
        → let all = maybe (all_outcome 24 «record» buffer) (λ (s : List ℕ). recorded_all s «record» buffer) o in
        (all.number ≡ 0 → ⊥) → (is_directory_byte_string_number all.number ≡ true) × (all ≡ all_outcome all.number «record» buffer)
    go none d n = (refl, refl)
    go (some s) d n =
        let q = reading_number edition_two s in
        all_refuses s «record» buffer is_directory_byte_string_number (λ z. ap is_directory_byte_string_number q ∙ byte_string_own t s d (λ y. z (q ∙ y))) refl n

-- ---- a string has a byte

not-empty : (f : FieldSet) → 1 ≤ length (formatted edition_two f)
unfolding formatted
not-empty f = omega arith

-- so what was put has one, and the answer is not 0
put_not_0 : (n : ℕ) (t : List ℕ) → (n ≡ 0 → 1 ≤ length t) → (buffer : List ℕ) → coded (put_after n buffer 0 t) ≡ 0 → ⊥
put_not_0 n t h buffer z = go (eqb (put_after n buffer 0 t).number 0) refl z
  where
    go : (b : Bool) → eqb (put_after n buffer 0 t).number 0 ≡ b → cond b (100 * (put_after n buffer 0 t).count) (put_after n buffer 0 t).number ≡ 0 → ⊥
    go true e z =
        let q = after_zero n buffer 0 t (eqb-true (put_after n buffer 0 t).number 0 e) in
        let c : (put_after n buffer 0 t).count ≡ length t = ap (λ (o : Outcome). o.count) (after_done n buffer 0 t q.0 q.1) in
        absurd (omega (arith, h q.0))
    go false e z = eqb-false (put_after n buffer 0 t).number 0 e z

pub write_not_0 : (f : FieldSet) (buffer : List ℕ) → coded (writing edition_two f buffer 0) ≡ 0 → ⊥
unfolding writing
write_not_0 f = put_not_0 (writer_number edition_two f) (formatted edition_two f) (λ z. not-empty f)

pub directory_write_not_0 : (f : FieldSet) (buffer : List ℕ) → coded (directory_writing edition_two f buffer 0) ≡ 0 → ⊥
unfolding directory_writing
directory_write_not_0 f =
    put_not_0 (directory_writer_number edition_two f) (directory_formatted edition_two f) (λ z. omega (arith, text-length f (number_zero f z), not-empty f))

pub write_short_not_0 : (k : ℕ) (salt output buffer : List ℕ) → coded (short_writing edition_two k salt output buffer 0) ≡ 0 → ⊥
write_short_not_0 k salt output buffer z =
    write_not_0 (short_fields edition_two k salt output) buffer (ap coded (sym (promises.short_agrees.writes k salt output buffer 0)) ∙ z)

-- ---- answers

pub read_answer : (s «record» : List ℕ) → is_refusal (recorded s «record»).number ≡ not (eqb (recorded s «record»).number 0)
read_answer s «record» = number_tells (recorded s «record»).number (recorded_small s «record»)

pub read_all_answer : (s «record» buffer : List ℕ) → is_refusal (recorded_all s «record» buffer).number ≡ not (eqb (recorded_all s «record» buffer).number 0)
read_all_answer s «record» buffer = number_tells (recorded_all s «record» buffer).number (read_all_small s «record» buffer)

pub algorithm_version_answer : (s : List ℕ)
    → is_refusal (code_of (algorithm_version edition_two s).number (algorithm_version edition_two s).version) ≡ not (eqb (algorithm_version edition_two s).number 0)
unfolding algorithm_version
algorithm_version_answer s = code_tells (reading edition_two s).number (algorithm_version edition_two s).version (reading_small s)

-- an outcome that refuses with the entry's own numbers
coded_answer : (own : ℕ → Bool) → ((k : ℕ) → own k ≡ true → k ≤ 99) → (buffer : List ℕ) (o : Outcome) → Refuses own buffer o
    → is_refusal (coded o) ≡ not (eqb o.number 0)
coded_answer own h buffer o r = code_tells o.number o.count (small own h o.number (λ z. (r z).0))

pub byte_string_answer : (c : ByteString) (s buffer : List ℕ)
    → is_refusal (coded (decoded edition_two c s buffer 0)) ≡ not (eqb (decoded edition_two c s buffer 0).number 0)
byte_string_answer c s buffer = coded_answer is_byte_string_number byte_string_small buffer (decoded edition_two c s buffer 0) (promises.demand_1.byte_string c s buffer 0)

pub write_answer : (f : FieldSet) (buffer : List ℕ) → is_refusal (coded (writing edition_two f buffer 0)) ≡ not (eqb (writing edition_two f buffer 0).number 0)
write_answer f buffer = coded_answer is_writer_number (listed writer_numbers refl) buffer (writing edition_two f buffer 0) (promises.demand_1.write f buffer 0)

pub write_short_answer : (k : ℕ) (salt output buffer : List ℕ)
    → is_refusal (coded (short_writing edition_two k salt output buffer 0)) ≡ not (eqb (short_writing edition_two k salt output buffer 0).number 0)
write_short_answer k salt output buffer =
    coded_answer is_short_writer_number (listed short_writer_numbers refl) buffer (short_writing edition_two k salt output buffer 0)
    (promises.demand_1.write_short k salt output buffer 0)

pub directory_read_all_answer : (t «record» buffer : List ℕ)
    → is_refusal (directory_recorded_all t «record» buffer).number ≡ not (eqb (directory_recorded_all t «record» buffer).number 0)
directory_read_all_answer t «record» buffer =
    number_tells (directory_recorded_all t «record» buffer).number
    (small is_directory_byte_string_number (listed directory_byte_string_numbers refl) (directory_recorded_all t «record» buffer).number (λ z. (directory_read_all_refuses t «record» buffer z).0))

pub directory_write_answer : (f : FieldSet) (buffer : List ℕ)
    → is_refusal (coded (directory_writing edition_two f buffer 0)) ≡ not (eqb (directory_writing edition_two f buffer 0).number 0)
directory_write_answer f buffer =
    coded_answer is_directory_writer_number (listed directory_writer_numbers refl) buffer (directory_writing edition_two f buffer 0)
    (directory_claims.demand_1.write f buffer 0)
