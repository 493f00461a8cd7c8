-- The reader of braced texts: its answers are those of the `$` string, which stands in the array that the code made.
-- Assumes nothing.
use Prim.Native.Nat.{ℕ, ◌≤◌, ◌<◌}
use mathlib.Core.Bool.{true, false}
use mathlib.Core.List.{List, [], append-nil}
use mathlib.Core.Logic.{◌⊎◌, inl, inr}
use mathlib.Core.Option.{none, some}
use mathlib.Core.Path.{◌≡◌, refl, sym, ◌∙◌, ap}
use native.Mathlib.Omega.{arith}
use lib.ListN.{length, set}
use borrow.Author.Tests.{ne_eqb}
use Rattle.std.specs.Prelude.{Result, Ok, Err}
use Rattle.std.specs.Result.{IsErr}
use Rattle.refusals.specs.Numbers.{number_of}
use Rattle.refusals.specs.declared.Refusal.{Refusal}
use Rattle.refusals.specs.declared.Refusal.TheVariants.{NoSpelling}
use Rattle.refusals.proofs.Numbers.{number_pos}
use Rattle.text.specs.Text.{text, maybe}
use Rattle.text.specs.Place.{refused}
use Rattle.text.proofs.Writing.{put_refused}
use Rattle.grammar.specs.Limits.{longest_string}
use Rattle.grammar.specs.Pieces.{OptionalText, pieces}
use Rattle.grammar.proofs.Reading.{bad_string_long, number_bad_string}
use Rattle.table.specs.Limits.{edition_two}
use Rattle.profile.specs.Fields.{chosen}
use Rattle.profile.specs.Reader.{reader_number, fields_of}
use Rattle.profile.specs.Entries.{Reading, read_answer, refused_reading, reading, decoded}
use Rattle.profile.specs.declared.fields.ByteString.{ByteString}
use Rattle.profile.specs.declared.fields.Record.{Record}
use Rattle.profile.proofs.SoundLaws.{edition_two-sound}
use Rattle.profile.proofs.JudgeLaws.{never_zero}
use Rattle.profile.proofs.Allows.{not_refused}
use Rattle.profile.proofs.Accepted.{accepted}
use Rattle.profile.proofs.ReadLaws.{answer_refused, reading-refused, reading_number}
use Rattle.fast_path.specs.Contents.{joined_bytes, refused_contents, all_decoded, contents}
use Rattle.directory.specs.Braced.{dollar_string, longest_braced}
use Rattle.directory.specs.Entries.{of_dollar_string, is_directory_id, directory_number, directory_reading, directory_decoded, directory_all_decoded, directory_contents}
use Rattle.directory.specs.BracedSteps.{is_braced, RefusedWith}
use Rattle.directory.proofs.Prefixes.{Differ, dollar_view, dollar-length, dollar-marked, braced_some, not_braced}
use Rattle.directory.proofs.Texts.{at_most}

-- ---- the `$` string

-- the text copied, and its prefix marked
pub held : (t copy left : List ℕ) → is_braced t ≡ true → copy ≡ t → left ≡ set (set copy 0 36) 9 36 → dollar_string t ≡ some left
held t copy left h e q =
    let (s, d) = braced_some t h in
    let m : left ≡ s = q ∙ ap (λ (y : List ℕ). set (set y 0 36) 9 36) (e ∙ sym (append-nil t)) ∙ dollar-marked t s d [] ∙ append-nil s in
    d ∙ ap some (sym m)

module _ {A : Type 0} (refusal : A) (answer : List ℕ → A) where
  pub of_string : (t s : List ℕ) → dollar_string t ≡ some s → of_dollar_string refusal answer t ≡ answer s
  of_string t s d = ap (maybe refusal answer) d

  pub of_none : (t : List ℕ) → dollar_string t ≡ none → of_dollar_string refusal answer t ≡ refusal
  of_none t d = ap (maybe refusal answer) d

-- ---- the number

-- the id of a string with one of the prefixes
pub prefix_id : (t s : List ℕ) → dollar_string t ≡ some s → is_directory_id (fields_of edition_two s).numbers.id ≡ true
unfolding fields_of pieces edition_two
prefix_id t s d = go (dollar_view t s d)
  where
    go : Differ (text "{pbkdf2s2}") (text "$pbkdf2s2$") t s ⊎ Differ (text "{pbkdf2s3}") (text "$pbkdf2s3$") t s
        → is_directory_id (fields_of edition_two s).numbers.id ≡ true
    go (inl w) = rw w.right
    go (inr w) = rw w.right

-- an accepted string with one of the prefixes is short
pub short : (t s : List ℕ) → dollar_string t ≡ some s → reader_number edition_two s ≡ 0 → length t ≤ longest_braced
short t s d z =
    let a = accepted edition_two edition_two-sound s z in
    let l = at_most (fields_of edition_two s) (prefix_id t s d) (not_refused edition_two (fields_of edition_two s) a.0) in
    omega (arith, ap length a.1, (dollar-length t s d).0)

-- past the longest string
pub number_long : (t s : List ℕ) → dollar_string t ≡ some s → longest_string < length t → 1 ≡ directory_number edition_two t
unfolding directory_number
number_long t s d l =
    let b = bad_string_long s (omega (arith, (dollar-length t s d).0)) in
    sym (of_string 24 (reader_number edition_two) t s d ∙ answer_refused edition_two s 1 (number_bad_string s b) (λ z. omega arith))

pub read_number : (t : List ℕ) → (directory_reading edition_two t).number ≡ directory_number edition_two t
unfolding directory_reading directory_number
read_number t = go (dollar_string t)
  where
    go : (o : OptionalText) → (maybe (refused_reading 24) (reading edition_two) o).number ≡ maybe 24 (reader_number edition_two) o
    go none = refl
    go (some s) = reading_number edition_two s

-- ---- the refusal that is known first

pub refused_none : (t : List ℕ) → is_braced t ≡ false → RefusedWith t NoSpelling
unfolding directory_number
refused_none t h = of_none 24 (reader_number edition_two) t (not_braced t h)

-- past the longest accepted text
pub refused_long : (t : List ℕ) → is_braced t ≡ true → longest_braced < length t → (r : Result Record Refusal) → read_answer r ≡ directory_reading edition_two t → IsErr r
unfolding directory_number
refused_long t h l (Ok r) e =
    let (s, d) = braced_some t h in
    let z : 0 ≡ reader_number edition_two s = ap (λ (x : Reading). x.number) e ∙ read_number t ∙ of_string 24 (reader_number edition_two) t s d in
    absurd (omega (arith, short t s d (sym z)))
refused_long t h l (Err r) e = refl

pub refused_with : (t : List ℕ) (r : Refusal) → refused_reading (number_of r) ≡ directory_reading edition_two t → RefusedWith t r
refused_with t r e = sym (ap (λ (x : Reading). x.number) e ∙ read_number t)

-- ---- read

module _ (t s : List ℕ) (d : dollar_string t ≡ some s) where
  pub read_string : reading edition_two s ≡ directory_reading edition_two t
  unfolding directory_reading
  read_string = sym (of_string (refused_reading 24) (reading edition_two) t s d)

  module _ (buffer : List ℕ) (at : ℕ) where
    pub decoded_string : (c : ByteString) → decoded edition_two c s buffer at ≡ directory_decoded edition_two c t buffer at
    unfolding directory_decoded
    decoded_string c = sym (of_string (refused 24 buffer) (λ (s : List ℕ). decoded edition_two c s buffer at) t s d)

    pub all_decoded_string : all_decoded edition_two s buffer at ≡ directory_all_decoded edition_two t buffer at
    unfolding directory_all_decoded
    all_decoded_string = sym (of_string (refused 24 buffer) (λ (s : List ℕ). all_decoded edition_two s buffer at) t s d)

    pub contents_string : contents edition_two s buffer at ≡ directory_contents edition_two t buffer at
    unfolding directory_contents
    contents_string = sym (of_string (refused_contents 24) (λ (s : List ℕ). contents edition_two s buffer at) t s d)

-- ---- refused

module _ (t : List ℕ) (r : Refusal) (h : RefusedWith t r) where
  pub read_refused : refused_reading (number_of r) ≡ directory_reading edition_two t
  unfolding directory_number directory_reading
  read_refused = go (dollar_string t) h
    where
      go : (o : OptionalText) → maybe 24 (reader_number edition_two) o ≡ number_of r → refused_reading (number_of r) ≡ maybe (refused_reading 24) (reading edition_two) o
      go none q = ap refused_reading (sym q)
      go (some s) q = reading-refused edition_two s (number_of r) q (never_zero r)

  module _ (buffer : List ℕ) (at : ℕ) where
    pub decoded-refused : (c : ByteString) → refused (number_of r) buffer ≡ directory_decoded edition_two c t buffer at
    unfolding directory_number directory_decoded decoded
    decoded-refused c = go (dollar_string t) h
      where
        go : (o : OptionalText) → maybe 24 (reader_number edition_two) o ≡ number_of r
            → refused (number_of r) buffer ≡ maybe (refused 24 buffer) (λ (s : List ℕ). decoded edition_two c s buffer at) o
        go none q = ap (λ (k : ℕ). refused k buffer) (sym q)
        go (some s) q = put_refused buffer at (chosen c (fields_of edition_two s)) (reader_number edition_two s) (number_of r) q (number_pos r)

    pub all-decoded-refused : refused (number_of r) buffer ≡ directory_all_decoded edition_two t buffer at
    unfolding directory_number directory_all_decoded all_decoded
    all-decoded-refused = go (dollar_string t) h
      where
        go : (o : OptionalText) → maybe 24 (reader_number edition_two) o ≡ number_of r
            → refused (number_of r) buffer ≡ maybe (refused 24 buffer) (λ (s : List ℕ). all_decoded edition_two s buffer at) o
        go none q = ap (λ (k : ℕ). refused k buffer) (sym q)
        go (some s) q = put_refused buffer at (joined_bytes (fields_of edition_two s)) (reader_number edition_two s) (number_of r) q (number_pos r)

    pub contents-refused : refused_contents (number_of r) ≡ directory_contents edition_two t buffer at
    unfolding directory_number directory_contents contents all_decoded
    contents-refused = go (dollar_string t) h
      where
        go : (o : OptionalText) → maybe 24 (reader_number edition_two) o ≡ number_of r
            → refused_contents (number_of r) ≡ maybe (refused_contents 24) (λ (s : List ℕ). contents edition_two s buffer at) o
        go none q = ap refused_contents (sym q)
        go (some s) q =
            let p = put_refused buffer at (joined_bytes (fields_of edition_two s)) (reader_number edition_two s) (number_of r) q (number_pos r) in
            rw (← p, ne_eqb (number_of r) 0 (never_zero r))
