-- What is proved of the outcomes that the exported functions' contracts name. The value is in proofs/Claims.antt.
-- Assumes nothing.
use Rattle.std.specs.Prelude.{ℕ, ◌*◌, ◌≤◌, ◌<◌, ◌≡◌, true, not, cond, List, ◌≢◌, eqb, length}
use Rattle.text.specs.Place.{over, Refuses}
use Rattle.text.specs.Units.{largest_usize}
use Rattle.table.specs.Limits.{profile_of, edition_two}
use Rattle.profile.specs.Fields.{FieldSet}
use Rattle.profile.specs.Writer.{writer_number}
use Rattle.profile.specs.Entries.{reading, algorithm_version, decoded, writing, short_writing}
use Rattle.profile.specs.Claims.{is_byte_string_number}
use Rattle.profile.specs.declared.fields.ByteString.{ByteString}
use Rattle.fast_path.specs.Claims.{most_bytes}
use Rattle.directory.specs.Braced.{longest_braced}
use Rattle.directory.specs.Entries.{is_directory_id, directory_reading, directory_writer_number, directory_writing}
use Rattle.directory.specs.Claims.{is_directory_byte_string_number}
use Rattle.accounts.specs.Batches.{judged, batched}
use Rattle.phc.specs.Records.{recorded, record_all_length, all_outcome, recorded_all, directory_recorded_all, code_of, coded, is_refusal}
use Rattle.phc.specs.Writing.{handed, fields_in}
use Rattle.phc.specs.Batches.{number64, batch_length, judge_outcome, recorded_judging}

pub record PhcClaims : Type 0 where
  -- a record of 36 bytes and a buffer of 152 are enough for every string: the number is the reader's
  pub enough : (s «record» buffer : List ℕ) → record_all_length ≤ length «record» → most_bytes ≤ length buffer
      → (recorded_all s «record» buffer).number ≡ (reading edition_two s).number
  -- a flag other than 0 and 1 is 9, or 8 where the id is unknown, whatever the other fields are
  pub flag : (id flag version m t p : ℕ) (keyid «data» salt output : List ℕ) → 2 ≤ flag
      → writer_number edition_two (handed id flag version m t p keyid «data» salt output) ≡ cond (profile_of edition_two id).known 9 8
  -- the record and the bytes that `phc_read_all` gave of a string, handed to `phc_write` with 265 bytes of room: its answer is a hundred times the
  -- string's length, and the string stands at the buffer's start
  pub written_back : (s «record» buffer out : List ℕ)
      → let all = recorded_all s «record» buffer in
      let written = writing edition_two (fields_in all.«record» all.buffer) out 0 in
      all.number ≡ 0 → 265 ≤ length out → (coded written ≡ 100 * length s) × (written.buffer ≡ over out 0 s)
  -- the writers never give 0: every string has a byte
  pub write_not_0 : (f : FieldSet) (buffer : List ℕ) → coded (writing edition_two f buffer 0) ≢ 0
  pub write_short_not_0 : (k : ℕ) (salt output buffer : List ℕ) → coded (short_writing edition_two k salt output buffer 0) ≢ 0
  -- a refusal is one of the reader's numbers or 17, and changes no byte; of the byte strings and the writers `Demand1` of the
  -- profile says so, of `phc_directory_write` `DirectoryDemand1`
  pub read_refuses : (s «record» : List ℕ) → Refuses is_byte_string_number «record» (recorded s «record»)
  pub read_all_refuses : (s «record» buffer : List ℕ)
      → let all = recorded_all s «record» buffer in
      all.number ≢ 0 → (is_byte_string_number all.number ≡ true) × (all ≡ all_outcome all.number «record» buffer)
  -- an answer is 1 to 99 exactly where it is a refusal
  pub read_answer : (s «record» : List ℕ) → let number = (recorded s «record»).number in is_refusal number ≡ not (eqb number 0)
  pub read_all_answer : (s «record» buffer : List ℕ) → let number = (recorded_all s «record» buffer).number in is_refusal number ≡ not (eqb number 0)
  pub algorithm_version_answer : (s : List ℕ)
      → let v = algorithm_version edition_two s in
      is_refusal (code_of v.number v.version) ≡ not (eqb v.number 0)
  pub byte_string_answer : (c : ByteString) (s buffer : List ℕ) → let o = decoded edition_two c s buffer 0 in is_refusal (coded o) ≡ not (eqb o.number 0)
  pub write_answer : (f : FieldSet) (buffer : List ℕ) → let o = writing edition_two f buffer 0 in is_refusal (coded o) ≡ not (eqb o.number 0)
  pub write_short_answer : (k : ℕ) (salt output buffer : List ℕ)
      → let o = short_writing edition_two k salt output buffer 0 in
      is_refusal (coded o) ≡ not (eqb o.number 0)
  -- ---- the directory's spelling: the same of braced texts
  pub directory_enough : (t «record» buffer : List ℕ) → record_all_length ≤ length «record» → most_bytes ≤ length buffer
      → (directory_recorded_all t «record» buffer).number ≡ (directory_reading edition_two t).number
  pub directory_flag : (id flag version m t p : ℕ) (keyid «data» salt output : List ℕ) → 2 ≤ flag
      → directory_writer_number edition_two (handed id flag version m t p keyid «data» salt output) ≡ cond (is_directory_id id) 9 24
  -- 171 bytes are enough for every braced text that is written
  pub directory_written_back : (t «record» buffer out : List ℕ)
      → let all = directory_recorded_all t «record» buffer in
      let written = directory_writing edition_two (fields_in all.«record» all.buffer) out 0 in
      all.number ≡ 0 → longest_braced ≤ length out → (coded written ≡ 100 * length t) × (written.buffer ≡ over out 0 t)
  pub directory_write_not_0 : (f : FieldSet) (buffer : List ℕ) → coded (directory_writing edition_two f buffer 0) ≢ 0
  pub directory_read_all_refuses : (t «record» buffer : List ℕ)
      → let all = directory_recorded_all t «record» buffer in
      all.number ≢ 0 → (is_directory_byte_string_number all.number ≡ true) × (all ≡ all_outcome all.number «record» buffer)
  pub directory_read_all_answer : (t «record» buffer : List ℕ)
      → let number = (directory_recorded_all t «record» buffer).number in
      is_refusal number ≡ not (eqb number 0)
  pub directory_write_answer : (f : FieldSet) (buffer : List ℕ)
      → let o = directory_writing edition_two f buffer 0 in
      is_refusal (coded o) ≡ not (eqb o.number 0)
  -- ---- account text
  -- a result of 16 bytes is enough: the number is the batch's, so 17 exactly when the answers don't fit
  pub judge_enough : (text : List ℕ) (from limit : ℕ) (answers result : List ℕ) → batch_length ≤ length result
      → (recorded_judging text from limit answers result).number ≡ (batched text from limit answers).batch.number
  -- and a shorter one is refused, whatever room the answers have
  pub judge_short : (text : List ℕ) (from limit : ℕ) (answers result : List ℕ) → length result < batch_length
      → recorded_judging text from limit answers result ≡ judge_outcome 17 answers result
  -- a refusal is 17, and changes no byte
  pub judge_refuses : (text : List ℕ) (from limit : ℕ) (answers result : List ℕ)
      → let o = recorded_judging text from limit answers result in
      o.number ≢ 0 → o ≡ judge_outcome 17 answers result
  pub judge_answer : (text : List ℕ) (from limit : ℕ) (answers result : List ℕ)
      → let number = (recorded_judging text from limit answers result).number in
      is_refusal number ≡ not (eqb number 0)
  -- else the answers, and the place and the count that the result's first 16 bytes hold, are the batch's; no text is longer, and no limit larger,
  -- than the largest size_t
  pub judge_gives : (text : List ℕ) (from limit : ℕ) (answers result : List ℕ)
      → let o = recorded_judging text from limit answers result in
      o.number ≡ 0 → length text ≤ largest_usize → limit ≤ largest_usize
      → judged (number64 o.result 0) (number64 o.result 8) o.answers ≡ batched text from limit answers
