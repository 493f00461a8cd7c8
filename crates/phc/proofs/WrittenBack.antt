-- What `phc_read_all` gave are the fields that the string carries, and `phc_write` writes them back; so with braced texts.
-- Assumes nothing.
use Prim.Native.Nat.{ℕ, ◌+◌, ◌≤◌}
use mathlib.Core.Bool.{Bool, true, ◌&&◌}
use mathlib.Core.List.{List, [], ◌∷◌, ◌++◌, append_assoc}
use mathlib.Core.Option.{none, some}
use mathlib.Core.Path.{◌≡◌, refl, sym, ap, subst, ◌∙◌}
use native.Mathlib.Omega.{arith}
use lib.Dec.{leb}
use lib.ListN.{length, take, drop, length-append}
use lib.Seq.{take-append_seam, drop-append_seam}
use borrow.Author.Tests.{leb-true}
use Rattle.text.specs.Text.{all, maybe}
use Rattle.text.specs.Place.{Outcome, outcome, over, put_after}
use Rattle.text.proofs.Tests.{both, from_within}
use Rattle.text.proofs.Lists.{all-has}
use Rattle.text.proofs.Table.{always}
use Rattle.text.proofs.Over.{over_start}
use Rattle.text.proofs.LittleEndian.{back32}
use Rattle.text.proofs.Writing.{after_zero, after_done}
use Rattle.grammar.specs.Pieces.{OptionalText}
use Rattle.table.specs.Limits.{Profile, no_profile, profile_of, edition_two, largest32, lowest, highest, version_allowed}
use Rattle.table.specs.declared.version.Version.{Version}
use Rattle.table.specs.declared.version.Version.TheVariants.{Absent, Number}
use Rattle.profile.specs.Fields.{FieldSet, field_set}
use Rattle.profile.specs.Reader.{reader_number, fields_of}
use Rattle.profile.specs.Writer.{Permitted, formatted}
use Rattle.profile.specs.Entries.{no_fields, reading, writing}
use Rattle.profile.specs.declared.fields.NumberFields.{NumberFields}
use Rattle.profile.specs.Entries.{Reading}
use Rattle.profile.proofs.ReadLaws.{reading_number}
use Rattle.profile.proofs.Promises.{promises}
use Rattle.fast_path.specs.Contents.{joined_bytes, counted}
use Rattle.fast_path.proofs.Claims.{fast_path_agrees}
use Rattle.directory.specs.Braced.{dollar_string, longest_braced}
use Rattle.directory.specs.Entries.{directory_number, directory_fields, directory_writer_number, directory_formatted, directory_writing}
use Rattle.directory.proofs.ReaderLaws.{of_string}
use Rattle.directory.proofs.WriterLaws.{braced_most}
use Rattle.directory.proofs.Claims.{not-refused-text, directory_claims}
use Rattle.phc.specs.Records.{version_flag, version_number, record_bytes, count_bytes, all_outcome, recorded_all, directory_recorded_all}
use Rattle.phc.specs.Writing.{version_field, handed, fields_in}

-- ---- numbers of 32 bits

-- every number that a profile permits is one
word_sized : Profile → Bool
word_sized r =
    all (λ (v : ℕ). leb v largest32) r.versions
    && (leb (highest r.m) largest32 && (leb (highest r.t) largest32 && leb (highest r.p) largest32))

all_word_sized : all word_sized (no_profile ∷ edition_two) ≡ true
unfolding word_sized edition_two
all_word_sized = refl

record Words (f : NumberFields) : Type 0 where
  version : version_number f.version ≤ largest32
  m : f.m ≤ largest32
  t : f.t ≤ largest32
  p : f.p ≤ largest32

listed_word : (vs : List ℕ) → all (λ (v : ℕ). leb v largest32) vs ≡ true → (v : Version) → version_allowed vs v ≡ true → version_number v ≤ largest32
listed_word vs h Absent a = omega arith
listed_word vs h (Number n) a = leb-true n largest32 (all-has (λ (v : ℕ). leb v largest32) n vs h a)

words : (f : FieldSet) → Permitted edition_two f → Words f.numbers
unfolding word_sized
words f a =
    let r = profile_of edition_two f.numbers.id in
    let n = f.numbers in
    let h₀ = both (all (λ (v : ℕ). leb v largest32) r.versions) _ (always word_sized no_profile (no_profile ∷ edition_two) refl all_word_sized n.id) in
    let h₁ = both (leb (highest r.m) largest32) _ h₀.1 in
    let h₂ = both (leb (highest r.t) largest32) (leb (highest r.p) largest32) h₁.1 in
    record {
      version = listed_word r.versions h₀.0 n.version a.column.version;
      m = omega (arith, (from_within (lowest r.m) (highest r.m) n.m a.column.m).1, leb-true (highest r.m) largest32 h₁.0);
      t = omega (arith, (from_within (lowest r.t) (highest r.t) n.t a.column.t).1, leb-true (highest r.t) largest32 h₂.0);
      p = omega (arith, (from_within (lowest r.p) (highest r.p) n.p a.column.p).1, leb-true (highest r.p) largest32 h₂.1);
    }

-- ---- the version, and the byte strings one after the other

version_back : (v : Version) → version_field (version_flag v) (version_number v) ≡ v
version_back Absent = refl
version_back (Number n) = refl

front : (a x rest : List ℕ) → take (length a) ((a ++ x) ++ rest) ≡ a
front a x rest = ap (take (length a)) (append_assoc a x rest) ∙ take-append_seam a (x ++ rest)

behind : (a x rest : List ℕ) → drop (length a) ((a ++ x) ++ rest) ≡ x ++ rest
behind a x rest = ap (drop (length a)) (append_assoc a x rest) ∙ drop-append_seam a (x ++ rest)

-- ---- the fields, from the bytes

module _ (r : Reading) (f : FieldSet) (rest more : List ℕ) (w : Words r.fields) (small : length (joined_bytes f) ≤ largest32) where
  abbrev bytes : List ℕ
  bytes = joined_bytes f ++ more

  after_keyid_lem : drop (length f.keyid) bytes ≡ (f.«data» ++ (f.salt ++ f.output)) ++ more
  after_keyid_lem = behind f.keyid (f.«data» ++ (f.salt ++ f.output)) more

  after_data_lem : drop (length f.«data») (drop (length f.keyid) bytes) ≡ (f.salt ++ f.output) ++ more
  after_data_lem = ap (drop (length f.«data»)) after_keyid_lem ∙ behind f.«data» (f.salt ++ f.output) more

  after_salt_lem : drop (length f.salt) (drop (length f.«data») (drop (length f.keyid) bytes)) ≡ f.output ++ more
  after_salt_lem = ap (drop (length f.salt)) after_data_lem ∙ behind f.salt f.output more

  fields_back : fields_in ((record_bytes r ++ count_bytes (counted r f)) ++ rest) bytes ≡ field_set r.fields f.keyid f.«data» f.salt f.output
  fields_back =
      let n = r.fields in
      let l₁ = length-append f.keyid (f.«data» ++ (f.salt ++ f.output)) in
      let l₂ = length-append f.«data» (f.salt ++ f.output) in
      let l₃ = length-append f.salt f.output in
      let k = back32 (length f.keyid) (omega arith) in
      let d = back32 (length f.«data») (omega arith) in
      let s = back32 (length f.salt) (omega arith) in
      let o = back32 (length f.output) (omega arith) in
      let v = back32 (version_number n.version) w.version in
      let m = back32 n.m w.m in
      let t = back32 n.t w.t in
      let p = back32 n.p w.p in
      (λ i. handed n.id (version_flag n.version) (v i) (m i) (t i) (p i)
      (take (k i) bytes) (take (d i) (drop (k i) bytes)) (take (s i) (drop (d i) (drop (k i) bytes))) (take (o i) (drop (s i) (drop (d i) (drop (k i) bytes)))))
      ∙ (let keyid = front f.keyid (f.«data» ++ (f.salt ++ f.output)) more in
      let «data» = ap (take (length f.«data»)) after_keyid_lem ∙ front f.«data» (f.salt ++ f.output) more in
      let salt = ap (take (length f.salt)) after_data_lem ∙ front f.salt f.output more in
      let output = ap (take (length f.output)) after_salt_lem ∙ take-append_seam f.output more in
      λ i. field_set (record { id = n.id; version = version_back n.version i; m = n.m; t = n.t; p = n.p }) (keyid i) («data» i) (salt i) (output i))

-- ---- what `phc_read_all` gave

module _ (s «record» buffer : List ℕ) (z : (recorded_all s «record» buffer).number ≡ 0) where
  abbrev f : FieldSet
  f = fields_of edition_two s

  abbrev told : List ℕ
  told = record_bytes (reading edition_two s) ++ count_bytes (counted (reading edition_two s) f)

  abbrev fits : ℕ
  fits = (put_after (reading edition_two s).number «record» 0 told).number

  -- the byte strings fit, and before them the record, and before it the string is accepted
  clear : (fits ≡ 0) × (0 + length (joined_bytes f) ≤ length buffer)
  unfolding recorded_all
  clear = after_zero fits buffer 0 (joined_bytes f) z

  clear_record : ((reading edition_two s).number ≡ 0) × (0 + length told ≤ length «record»)
  clear_record = after_zero (reading edition_two s).number «record» 0 told clear.0

  pub is_accepted : reader_number edition_two s ≡ 0
  is_accepted = sym (reading_number edition_two s) ∙ clear_record.0

  back : Permitted edition_two f × (formatted edition_two f ≡ s)
  back = promises.demand_3.written_back s f (is_accepted, refl)

  numbers_are : (reading edition_two s).fields ≡ f.numbers
  numbers_are =
      ap (λ (u : List ℕ). (reading edition_two u).fields) (sym back.1) ∙ ap (λ (r : Reading). r.fields) (promises.entries_agree.reads f back.0)

  record_is : (recorded_all s «record» buffer).«record» ≡ told ++ drop (length told) «record»
  unfolding recorded_all
  record_is =
      ap (λ (o : Outcome). o.buffer) (after_done (recorded_all s «record» buffer).number «record» 0 told z clear_record.1) ∙ over_start «record» told

  buffer_is : (recorded_all s «record» buffer).buffer ≡ joined_bytes f ++ drop (length (joined_bytes f)) buffer
  unfolding recorded_all
  buffer_is = ap (λ (o : Outcome). o.buffer) (after_done fits buffer 0 (joined_bytes f) clear.0 clear.1) ∙ over_start buffer (joined_bytes f)

  pub handed_on : fields_in (recorded_all s «record» buffer).«record» (recorded_all s «record» buffer).buffer ≡ f
  handed_on =
      let w = subst Words (sym numbers_are) (words f back.0) in
      let l : length (joined_bytes f) ≤ largest32 = omega (arith, fast_path_agrees.room s is_accepted) in
      (λ i. fields_in (record_is i) (buffer_is i))
      ∙ fields_back (reading edition_two s) f (drop (length told) «record») (drop (length (joined_bytes f)) buffer) w l
      ∙ ap (λ (n : NumberFields). field_set n f.keyid f.«data» f.salt f.output) numbers_are

  pub written_back : (out : List ℕ) → 265 ≤ length out
      → writing edition_two (fields_in (recorded_all s «record» buffer).«record» (recorded_all s «record» buffer).buffer) out 0 ≡ outcome 0 (length s) (over out 0 s)
  written_back out r =
      let l = promises.lengths.any_most f back.0 in
      ap (λ (g : FieldSet). writing edition_two g out 0) handed_on
      ∙ promises.entries_agree.writes f back.0 out 0 (omega arith)
      ∙ ap (λ (u : List ℕ). outcome 0 (length u) (over out 0 u)) back.1

-- ---- what `phc_directory_read_all` gave

pub directory_written_back : (t «record» buffer out : List ℕ) → (directory_recorded_all t «record» buffer).number ≡ 0 → longest_braced ≤ length out
    → directory_writing edition_two (fields_in (directory_recorded_all t «record» buffer).«record» (directory_recorded_all t «record» buffer).buffer) out 0
    ≡ outcome 0 (length t) (over out 0 t)
unfolding directory_recorded_all directory_number directory_fields directory_writing
directory_written_back t «record» buffer out z l = go (dollar_string t) refl z
  where
    go : (o : OptionalText) → dollar_string t ≡ o
        → let all = maybe (all_outcome 24 «record» buffer) (λ (s : List ℕ). recorded_all s «record» buffer) o in
        all.number ≡ 0 → directory_writing edition_two (fields_in all.«record» all.buffer) out 0 ≡ outcome 0 (length t) (over out 0 t)
    go none q z = absurd (omega arith)
    go (some s) q z =
        let g = fields_of edition_two s in
        let n = of_string 24 (reader_number edition_two) t s q ∙ is_accepted s «record» buffer z in
        let k = of_string (field_set no_fields [] [] [] []) (fields_of edition_two) t s q in
        let b = directory_claims.demand_3.written_back t g (n, k) in
        let y = not-refused-text g b.0 in
        let m = braced_most g y in
        ap (λ (f : FieldSet). directory_writing edition_two f out 0) (handed_on s «record» buffer z)
        ∙ after_done (directory_writer_number edition_two g) out 0 (directory_formatted edition_two g) y (omega arith)
        ∙ ap (λ (u : List ℕ). outcome 0 (length u) (over out 0 u)) b.1
