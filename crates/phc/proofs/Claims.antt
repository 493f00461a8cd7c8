-- The claims of specs/Claims.antt, proved.
-- Assumes nothing.
use Prim.Native.Nat.{ℕ, ◌*◌, ◌≤◌}
use mathlib.Core.Bool.{Bool, true, false, not, cond}
use mathlib.Core.List.{List, ◌∷◌}
use mathlib.Core.Option.{none, some}
use mathlib.Core.Path.{◌≡◌, refl, sym, ap, ◌∙◌}
use native.Mathlib.Omega.{arith}
use lib.ListN.{length}
use borrow.Author.Tests.{ne_eqb}
use Rattle.text.specs.Text.{all, has, maybe}
use Rattle.text.specs.Place.{Outcome, outcome, over, put_after}
use Rattle.text.proofs.Tests.{is_false}
use Rattle.text.proofs.Table.{always}
use Rattle.text.proofs.Writing.{after_number}
use Rattle.grammar.specs.Pieces.{OptionalText}
use Rattle.table.specs.Limits.{Profile, no_profile, profile_of, edition_two, version_allowed}
use Rattle.table.specs.declared.version.Version.TheVariants.{Number}
use Rattle.profile.specs.Fields.{FieldSet}
use Rattle.profile.specs.Reader.{reader_number, fields_of}
use Rattle.profile.specs.Writer.{writer_number}
use Rattle.profile.specs.Entries.{refused_reading, reading, writing}
use Rattle.profile.proofs.ReadLaws.{reading_number}
use Rattle.fast_path.specs.Contents.{joined_bytes}
use Rattle.fast_path.specs.Claims.{most_bytes}
use Rattle.fast_path.proofs.Claims.{fast_path_agrees}
use Rattle.directory.specs.Braced.{dollar_string, longest_braced}
use Rattle.directory.specs.Entries.{is_directory_id, directory_reading, directory_writer_number, directory_writing}
use Rattle.directory.proofs.WriterLaws.{number_other, number_row_lem}
use Rattle.directory.proofs.Claims.{known}
use Rattle.phc.specs.Records.{record_all_length, all_outcome, recorded_all, directory_recorded_all, coded}
use Rattle.phc.specs.Writing.{handed, fields_in}
use Rattle.phc.specs.Claims.{PhcClaims}
use Rattle.phc.proofs.RecordAllLaws.{fits_number}
use Rattle.phc.proofs.WrittenBack.{written_back, directory_written_back}
use Rattle.phc.proofs.Refusals.{write_not_0, write_short_not_0, read_refuses, read_all_refuses, read_answer, read_all_answer, algorithm_version_answer, byte_string_answer, write_answer, write_short_answer, directory_write_not_0, directory_read_all_refuses, directory_read_all_answer, directory_write_answer}
use Rattle.phc.proofs.JudgeLaws.{judge_enough, judge_short, judge_refuses, judge_answer, judge_gives}

-- no profile permits the version 0
unnumbered : Profile → Bool
unnumbered r = not (has 0 r.versions)

all_unnumbered : all unnumbered (no_profile ∷ edition_two) ≡ true
unfolding unnumbered edition_two
all_unnumbered = refl

no_version_0 : (k : ℕ) → version_allowed (profile_of edition_two k).versions (Number 0) ≡ false
unfolding unnumbered
no_version_0 k = is_false (has 0 (profile_of edition_two k).versions) (always unnumbered no_profile (no_profile ∷ edition_two) refl all_unnumbered k)

flag_refused : (id flag version m t p : ℕ) (keyid «data» salt output : List ℕ) → 2 ≤ flag
    → writer_number edition_two (handed id flag version m t p keyid «data» salt output) ≡ cond (profile_of edition_two id).known 9 8
unfolding writer_number
flag_refused id flag version m t p keyid «data» salt output h = go (profile_of edition_two id).known refl
  where
    go : (b : Bool) → (profile_of edition_two id).known ≡ b
        → writer_number edition_two (handed id flag version m t p keyid «data» salt output) ≡ cond b 9 8
    go true e = rw (ne_eqb flag 0 (omega arith), ne_eqb flag 1 (omega arith), e, no_version_0 id)
    go false e = rw e

record_all_number : (s «record» buffer : List ℕ) → record_all_length ≤ length «record» → most_bytes ≤ length buffer
    → (recorded_all s «record» buffer).number ≡ (reading edition_two s).number
unfolding recorded_all
record_all_number s «record» buffer h k =
    ap (λ (n : ℕ). (put_after n buffer 0 (joined_bytes (fields_of edition_two s))).number) (fits_number s «record» buffer h)
    ∙ after_number (reader_number edition_two s) buffer (joined_bytes (fields_of edition_two s)) (λ z. omega (arith, fast_path_agrees.room s z))
    ∙ sym (reading_number edition_two s)

-- ---- of a braced text

directory_number_lem : (t «record» buffer : List ℕ) → record_all_length ≤ length «record» → most_bytes ≤ length buffer
    → (directory_recorded_all t «record» buffer).number ≡ (directory_reading edition_two t).number
unfolding directory_recorded_all directory_reading
directory_number_lem t «record» buffer h k = go (dollar_string t)
  where
    go : (o : OptionalText)
        → (maybe (all_outcome 24 «record» buffer) (λ (s : List ℕ). recorded_all s «record» buffer) o).number ≡ (maybe (refused_reading 24) (reading edition_two) o).number
    go none = refl
    go (some s) = record_all_number s «record» buffer h k

directory_flag_refused : (id flag version m t p : ℕ) (keyid «data» salt output : List ℕ) → 2 ≤ flag
    → directory_writer_number edition_two (handed id flag version m t p keyid «data» salt output) ≡ cond (is_directory_id id) 9 24
directory_flag_refused id flag version m t p keyid «data» salt output h = go (is_directory_id id) refl
  where
    f : FieldSet
    f = handed id flag version m t p keyid «data» salt output

    go : (b : Bool) → is_directory_id id ≡ b → directory_writer_number edition_two f ≡ cond b 9 24
    go true e =
        let n = flag_refused id flag version m t p keyid «data» salt output h ∙ ap (λ (b : Bool). cond b 9 8) (known f e) in
        number_row_lem edition_two f e 9 (sym n) (λ z. omega arith)
    go false e = number_other edition_two f e

-- ---- as a C program sees it

-- an outcome that wrote a text at the start
told : (out s : List ℕ) (w : Outcome) → w ≡ outcome 0 (length s) (over out 0 s) → (coded w ≡ 100 * length s) × (w.buffer ≡ over out 0 s)
told out s w e = (ap coded e, ap (λ (o : Outcome). o.buffer) e)

back_in_c : (s «record» buffer out : List ℕ) → (recorded_all s «record» buffer).number ≡ 0 → 265 ≤ length out
    → let written = writing edition_two (fields_in (recorded_all s «record» buffer).«record» (recorded_all s «record» buffer).buffer) out 0 in
    (coded written ≡ 100 * length s) × (written.buffer ≡ over out 0 s)
back_in_c s «record» buffer out z r =
    told out s (writing edition_two (fields_in (recorded_all s «record» buffer).«record» (recorded_all s «record» buffer).buffer) out 0) (written_back s «record» buffer z out r)

directory_back_in_c : (t «record» buffer out : List ℕ) → (directory_recorded_all t «record» buffer).number ≡ 0 → longest_braced ≤ length out
    → let written = directory_writing edition_two (fields_in (directory_recorded_all t «record» buffer).«record» (directory_recorded_all t «record» buffer).buffer) out 0 in
    (coded written ≡ 100 * length t) × (written.buffer ≡ over out 0 t)
directory_back_in_c t «record» buffer out z r =
    told out t (directory_writing edition_two (fields_in (directory_recorded_all t «record» buffer).«record» (directory_recorded_all t «record» buffer).buffer) out 0)
    (directory_written_back t «record» buffer out z r)

pub phc_claims : PhcClaims
phc_claims =
    record {
      enough = record_all_number;
      flag = flag_refused;
      written_back = back_in_c;
      write_not_0 = write_not_0;
      write_short_not_0 = write_short_not_0;
      read_refuses = read_refuses;
      read_all_refuses = read_all_refuses;
      read_answer = read_answer;
      read_all_answer = read_all_answer;
      algorithm_version_answer = algorithm_version_answer;
      byte_string_answer = byte_string_answer;
      write_answer = write_answer;
      write_short_answer = write_short_answer;
      directory_enough = directory_number_lem;
      directory_flag = directory_flag_refused;
      directory_written_back = directory_back_in_c;
      directory_write_not_0 = directory_write_not_0;
      directory_read_all_refuses = directory_read_all_refuses;
      directory_read_all_answer = directory_read_all_answer;
      directory_write_answer = directory_write_answer;
      judge_enough = judge_enough;
      judge_short = λ text from limit answers result h. sym (judge_short text from limit answers result h);
      judge_refuses = judge_refuses;
      judge_answer = judge_answer;
      judge_gives = judge_gives;
    }
