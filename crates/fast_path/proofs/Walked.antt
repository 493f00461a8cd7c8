-- The walk finds the fields of each accepted string, and nothing in any other, in every edition that passes the test `sound`.
-- Assumes nothing.
use Rattle.std.proofs.Common.{◌≡◌, ℕ, Bool, true, false, cond, not, ◌&&◌, eqb, List, [], ◌∷◌, ◌++◌, length, sym, refl, ap, ◌∙◌, true≢false, take_at, drop_at, eq-eqb, eqb-true}
use mathlib.Core.Bool.{false≢true}
use mathlib.Core.Option.{Option, none, some}
use Rattle.text.specs.Text.{text, all, has, empty, is_byte, starts_with}
use Rattle.text.proofs.Lists.{not_in, has-append}
use Rattle.text.proofs.Starts.{Begins, find_behind}
use Rattle.b64.specs.B64.{sextet, in_alphabet, encode}
use Rattle.grammar.specs.Bytes.{is_name_byte, is_value_byte}
use Rattle.grammar.proofs.ItemLaws.{name_free}
use Rattle.table.specs.Limits.{Profile}
use Rattle.profile.specs.Fields.{FieldSet, write_number, write_bytes, write_version}
use Rattle.profile.specs.Reader.{reader_number, fields_of}
use Rattle.profile.specs.Sound.{sound}
use Rattle.profile.specs.Writer.{Permitted, formatted}
use Rattle.profile.specs.PieceTexts.{tagged}
use Rattle.profile.proofs.Texts.{formatted_is}
use Rattle.profile.proofs.Allows.{here}
use Rattle.profile.proofs.SoundLaws.{SoundColumn, sound-column_at}
use Rattle.profile.proofs.Written.{written}
use Rattle.profile.proofs.Accepted.{accepted}
use Rattle.fast_path.specs.Walk.{taken, version_in, numbers_in, pair_in, keys_in, hashes_in, head_in, fields_after_id, walked, WalkAgrees}
use Rattle.fast_path.proofs.Closed.{Separator}
use Rattle.fast_path.proofs.ItemTexts.{closed_items, Named, separator_after, items, separators, begins_tagged, begins_items, separator_after_lem, separators_separator, Behind, starts_fresh, cost_items, key_items, five_items, hashes_text, rest_text, pieces-row}
use Rattle.fast_path.proofs.Taken.{encode_alphabet, bytes_reads, version_reads, number_item, bytes-item}
use Rattle.fast_path.proofs.Found.{walk_sound}

-- a text of bytes has no equals sign
plain-tagged : (bs rest : List ℕ) → all is_byte bs ≡ true → has 61 rest ≡ false → has 61 (tagged (text "$") (write_bytes bs) ++ rest) ≡ false
unfolding sextet
plain-tagged [] rest a h = h
plain-tagged (b ∷ bs) rest a h =
    let x = b ∷ bs in
    has-append 61 (encode x) rest (not_in in_alphabet 61 refl (encode x) (encode_alphabet x a)) h

-- `$` is a separator
dollar : Separator 36
dollar f p q = p

-- without a salt there is no output, so no `$`
no_dollar : (salt output : List ℕ) → (empty salt && not (empty output)) ≡ false → empty salt ≡ true
    → starts_with (text "$") (tagged (text "$") (write_bytes output) ++ []) ≡ false
no_dollar [] [] h e = refl
no_dollar [] (b ∷ output) h e = absurd (true≢false h)
no_dollar (b ∷ salt) output h e = absurd (false≢true e)

-- the string of permitted fields, whose column passes the test
module _ (e : List Profile) (f : FieldSet) (E : SoundColumn e f.numbers.id (here e f)) (P : Permitted e f) where
  abbrev keys : List Named
  keys = key_items f.keyid f.«data»

  abbrev five : List Named
  five = five_items (here e f) f.numbers f.keyid f.«data»

  abbrev hashes : List ℕ
  hashes = hashes_text f.salt f.output

  -- the separator behind the numbers
  abbrev next : ℕ
  next = separators 36 (cost_items (here e f) f.numbers)

  -- ---- how the parts of the string begin

  -- the salt and the output begin with `$`
  begins_hashes : (Q : ℕ → Type 0) → Q 36 → Begins Q hashes
  begins_hashes Q q = begins_tagged Q 36 [] (write_bytes f.salt) _ q (begins_tagged Q 36 [] (write_bytes f.output) [] q tt)

  -- and so does all that stands behind the id
  begins_rest : (Q : ℕ → Type 0) → Q 36 → Begins Q (rest_text (here e f) f)
  begins_rest Q q = begins_tagged Q 36 [] (write_version f.numbers.version) _ q (begins_items Q 36 five hashes q (begins_hashes Q q))

  behind_items : Behind hashes
  behind_items =
      let b = P.bytes in
      record {
        closed = begins_hashes Separator dollar;
        plain = plain-tagged f.salt _ b.2 (plain-tagged f.output [] b.3 refl);
      }

  -- ---- each part is read back, and the next is left

  version_read : version_in (here e f).versions (rest_text (here e f) f) ≡ some (taken f.numbers.version 36 (items 36 five hashes))
  version_read =
      version_reads (here e f).versions f.numbers.version (items 36 five hashes) E.versions P.column.version
      (closed_items 36 five hashes dollar behind_items) (starts_fresh 36 36 (text "v=") five hashes behind_items refl)

  numbers_read : numbers_in (here e f) f.numbers.id f.numbers.version (items 36 five hashes) ≡ some (taken f.numbers next (items next keys hashes))
  unfolding numbers_in
  numbers_read =
      let n = f.numbers in
      let r = here e f in
      let m = write_number r.m n.m in
      let t = write_number r.t n.t in
      let p = write_number r.p n.p in
      let d₂ = separator_after_lem 36 m dollar in
      let d₃ = separator_after_lem (separator_after 36 m) t d₂ in
      rw (
        number_item (text "m=") 36 ((text "t=", t) ∷ (text "p=", p) ∷ keys) hashes dollar behind_items refl r.m n.m E.m P.column.m,
        number_item (text "t=") (separator_after 36 m) ((text "p=", p) ∷ keys) hashes d₂ behind_items refl r.t n.t E.t P.column.t,
        number_item (text "p=") (separator_after (separator_after 36 m) t) keys hashes d₃ behind_items refl r.p n.p E.p P.column.p,
        P.column.lanes,
      )

  keys_read : keys_in (here e f) next (items next keys hashes) ≡ some (taken (record { first = f.keyid; second = f.«data» }) (separators next keys) hashes)
  unfolding pair_in
  keys_read =
      let n = f.numbers in
      let r = here e f in
      let b = P.bytes in
      let k = write_bytes f.keyid in
      let d = write_bytes f.«data» in
      let c = separators_separator 36 (cost_items (here e f) n) dollar in
      rw (
        bytes-item (text "keyid=") next ((text "data=", d) ∷ []) hashes c behind_items refl r.keyid f.keyid P.column.keyid b.0,
        bytes-item (text "data=") (separator_after next k) [] hashes (separator_after_lem next k c) behind_items refl r.«data» f.«data» P.column.«data» b.1,
      )

  hashes_read : hashes_in (here e f) hashes ≡ some (taken (record { first = f.salt; second = f.output }) (separator_after 36 (write_bytes f.output)) [])
  unfolding pair_in
  hashes_read =
      let r = here e f in
      let b = P.bytes in
      let o = tagged (text "$") (write_bytes f.output) ++ [] in
      rw (
        bytes_reads r.salt f.salt [] 36 o P.column.salt b.2 (begins_tagged Separator 36 [] (write_bytes f.output) [] dollar tt) (no_dollar f.salt f.output P.column.output_with_salt),
        bytes_reads r.output f.output [] 36 [] P.column.output b.3 tt (λ z. refl),
      )

  rest_read : fields_after_id (here e f) f.numbers.id (rest_text (here e f) f) ≡ some f
  unfolding head_in
  rest_read = rw (P.column.id, version_read, numbers_read, keys_read, hashes_read)

  string_read : walked e ((36 ∷ (here e f).name) ++ rest_text (here e f) f) ≡ some f
  unfolding walked is_name_byte is_value_byte
  string_read =
      let name = (here e f).name in
      let u = rest_text (here e f) f in
      rw (
        find_behind 36 name u (name_free 36 refl refl name E.named) (begins_rest (λ c. c ≡ 36) refl),
        take_at name u (length name) refl,
        drop_at name u (length name) refl,
        E.found,
      ) rest_read

module _ (e : List Profile) (ok : sound e ≡ true) where
  -- permitted fields are found in the string that they are written to
  walk_written : (f : FieldSet) → Permitted e f → walked e (formatted e f) ≡ some f
  walk_written f P =
      let r = here e f in
      ap (walked e) (formatted_is e f ∙ pieces-row r f) ∙ string_read e f (sound-column_at e ok f.numbers.id P.column.id) P

  pub walk_complete : (s : List ℕ) → reader_number e s ≡ 0 → walked e s ≡ some (fields_of e s)
  walk_complete s z =
      let a = accepted e ok s z in
      ap (walked e) (sym a.1) ∙ walk_written (fields_of e s) a.0

  -- nothing is found in a string that is not accepted
  walk_refuses : (s : List ℕ) (o : Option FieldSet) → walked e s ≡ o → eqb (reader_number e s) 0 ≡ false → o ≡ none
  walk_refuses s none q z = refl
  walk_refuses s (some f) q z =
      let h = walk_sound e ok s f q in
      let a = ap (reader_number e) (sym h.1) ∙ (written e ok f h.0).0 in
      absurd (true≢false (sym (eq-eqb (reader_number e s) 0 a) ∙ z))

  pub walk_agrees : WalkAgrees e
  walk_agrees s = go (eqb (reader_number e s) 0) refl
    where
      go : (b : Bool) → eqb (reader_number e s) 0 ≡ b → walked e s ≡ cond b (some (fields_of e s)) none
      go true z = walk_complete s (eqb-true (reader_number e s) 0 z)
      go false z = walk_refuses s (walked e s) refl z
