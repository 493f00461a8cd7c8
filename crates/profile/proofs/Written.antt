-- Permitted fields are written to a string that is accepted and carries them, in every edition that passes the test `sound`.
-- Assumes nothing.
use Prim.Native.Nat.{ℕ, ◌≤◌}
use mathlib.Core.Bool.{Bool, true, false, not, ◌&&◌, ◌||◌, and-false, true≢false, false≢true}
use mathlib.Core.List.{List, [], ◌∷◌, ◌++◌, map, append_assoc}
use mathlib.Core.Option.{none, some}
use mathlib.Core.Path.{◌≡◌, refl, sym, ◌∙◌, ap, subst}
use native.Mathlib.Omega.{arith}
use lib.Dec.{leb, eqb}
use lib.ListN.{length}
use borrow.Author.Tests.{le-leb}
use Rattle.text.specs.Text.{text, all, has, same, empty, list_of, violates, NoneHas, Fails, Fits}
use Rattle.text.proofs.Tests.{both, and-true, neither, or-false, not_of_true, is_true, is_false}
use Rattle.text.proofs.Rows.{Clear, zero_of, clear_append}
use Rattle.text.proofs.Lists.{not_in, has_middle}
use Rattle.text.proofs.Joining.{marked, join-marked, join_free}
use Rattle.b64.specs.B64.{canonical}
use Rattle.decimal.specs.Decimal.{digits}
use Rattle.grammar.specs.Bytes.{is_name_byte, is_value_byte, is_text}
use Rattle.grammar.specs.Limits.{longest_value, longest_output, most_items}
use Rattle.grammar.specs.Pieces.{OptionalText, Pieces, is_version_piece, belongs, pieces, string}
use Rattle.grammar.specs.Items.{Item, item_text, items_of, params_text}
use Rattle.grammar.specs.Rules.{is_name, is_value, is_item, is_params, piece_rows, grammar_rows, is_output}
use Rattle.grammar.specs.Claims.{Sorts}
use Rattle.grammar.specs.declared.places.Piece.TheVariants.{Version as Piece-as-Version, Params, Salt, Output}
use Rattle.grammar.proofs.ItemLaws.{joined, items_params, item_free, items_free, name_free, value_free}
use Rattle.grammar.proofs.PieceLaws.{pieces_string}
use Rattle.grammar.proofs.Reading.{bad_string-first}
use Rattle.grammar.proofs.Longest.{at_most}
use Rattle.grammar.proofs.ValueBytes.{canonical-values}
use Rattle.table.specs.Limits.{Profile, version_allowed, profile_of, memory_too_little}
use Rattle.table.specs.declared.limits.BytesRule.{BytesRule}
use Rattle.table.specs.declared.version.Version.{Version}
use Rattle.table.specs.declared.version.Version.TheVariants.{Absent, Number}
use Rattle.profile.specs.Fields.{FieldSet, write_number, write_bytes, write_version}
use Rattle.profile.specs.Reader.{parameter_names, named_values, unmatched_items, rows_for, profile_rows, reader_number, fields_for, fields_of_pieces, fields_of}
use Rattle.profile.specs.Writer.{Permitted, item_list, field_values, field_pieces, formatted}
use Rattle.profile.specs.Sound.{sound}
use Rattle.profile.proofs.Codecs.{digits-values, NumberWritten, number_forth, BytesWritten, bytes_forth, written_value, written_output, VersionWritten, version_forth}
use Rattle.profile.proofs.NamedValues.{values_list}
use Rattle.profile.proofs.SoundLaws.{SoundColumn, sound-column_at}

-- ---- the items keep the grammar's rule

-- what is there is a value
abbrev pub Goods : List OptionalText → Type 0
Goods [] = Unit {0}
Goods (v ∷ vs) = (violates is_value v ≡ false) × Goods vs

abbrev good_name : List ℕ → Bool
good_name n = is_name n && not (same n (text "v"))

all_good : (ns : List (List ℕ)) (vs : List OptionalText) → all good_name ns ≡ true → Goods vs → all is_item (item_list ns vs) ≡ true
unfolding is_item
all_good [] vs e g = refl
all_good (n ∷ ns) [] e g = refl
all_good (n ∷ ns) (none ∷ vs) e g = all_good ns vs (both (good_name n) (all good_name ns) e).1 g.1
all_good (n ∷ ns) (some v ∷ vs) e g =
    let q = both (good_name n) (all good_name ns) e in
    and-true (and-true q.0 (is_true (is_value v) g.0)) (all_good ns vs q.1 g.1)

names_good : all good_name parameter_names ≡ true
unfolding is_name_byte is_text
names_good = refl

few : (ns : List (List ℕ)) (vs : List OptionalText) → length (item_list ns vs) ≤ length ns
few [] vs = omega arith
few (n ∷ ns) [] = omega arith
few (n ∷ ns) (none ∷ vs) = let h = few ns vs in omega arith
few (n ∷ ns) (some v ∷ vs) = let h = few ns vs in omega arith

params_good : (is : List Item) → all is_item is ≡ true → length is ≤ most_items → violates is_params (params_text is) ≡ false
unfolding is_params
params_good [] e h = refl
params_good (i ∷ is) e h =
    not_of_true
    (subst (λ (l : List Item). (leb (length l) most_items && all is_item l) ≡ true) (sym (items_params (i ∷ is) e))
    (and-true (le-leb (length (i ∷ is)) most_items h) e))

-- ---- how pieces begin

version_has : (s : List ℕ) → has 61 s ≡ false → is_version_piece s ≡ false
version_has [] e = refl
version_has (c ∷ []) e = refl
version_has (c ∷ d ∷ s) e = rw ((neither (eqb d 61) (has 61 s) (neither (eqb c 61) (eqb d 61 || has 61 s) e).1).0, and-false)

-- what begins with an item is no version piece: no name is v, or has an equals sign
item_begins : (n u : List ℕ) → good_name n ≡ true → is_version_piece (n ++ 61 ∷ u) ≡ false
unfolding is_name_byte is_value_byte is_text
item_begins [] u e = absurd (false≢true e)
item_begins (c ∷ []) u e = is_false (same (c ∷ []) (text "v")) (both (is_name (c ∷ [])) (not (same (c ∷ []) (text "v"))) e).1
item_begins (c ∷ d ∷ n) u e =
    version_has (c ∷ d ∷ n) (name_free 61 refl refl (c ∷ d ∷ n) (both (is_name (c ∷ d ∷ n)) (not (same (c ∷ d ∷ n) (text "v"))) e).0)

joined_begins : (i : Item) (is : List Item) → joined i is ≡ i.0 ++ 61 ∷ (i.1 ++ marked 44 (map item_text is))
joined_begins i is = join-marked 44 (item_text i) (map item_text is) ∙ append_assoc i.0 (61 ∷ i.1) (marked 44 (map item_text is))

-- ---- the pieces sort as they stand

-- an output only after a salt
abbrev pub After : OptionalText → OptionalText → Type 0
After none none = Unit {0}
After none (some o) = ⊥
After (some s) o = Unit {0}

after : (salt output : List ℕ) → (empty salt && not (empty output)) ≡ false → After (write_bytes salt) (write_bytes output)
after [] [] e = tt
after [] (o ∷ os) e = absurd (true≢false e)
after (s ∷ ss) os e = tt

no_version : (is : List Item) (salt output : OptionalText) → all is_item is ≡ true → violates is_value salt ≡ false → After salt output
    → Fails (belongs Piece-as-Version) (list_of (params_text is) ++ (list_of salt ++ (list_of output ++ [])))
unfolding is_name_byte is_value_byte is_item
no_version [] none none e v a = tt
no_version [] none (some o) e v a = absurd a
no_version [] (some s) o e v a = version_has s (value_free 61 refl refl s (is_true (is_value s) v))
no_version (i ∷ is) salt output e v a =
    ap is_version_piece (joined_begins i is)
    ∙ item_begins i.0 (i.1 ++ marked 44 (map item_text is)) (both (good_name i.0) (is_value i.1) (both (is_item i) (all is_item is) e).0).0

version_fit : (v : Version) (l : List (List ℕ)) → Fails (belongs Piece-as-Version) l → Fits (belongs Piece-as-Version) (write_version v) l
version_fit Absent l h = h
version_fit (Number n) l h = refl

params_fit : (is : List Item) (salt output : OptionalText) → violates is_value salt ≡ false → After salt output
    → Fits (belongs Params) (params_text is) (list_of salt ++ (list_of output ++ []))
unfolding is_name_byte is_value_byte
params_fit [] none none v a = tt
params_fit [] none (some o) v a = absurd a
params_fit [] (some s) o v a = value_free 61 refl refl s (is_true (is_value s) v)
params_fit (i ∷ is) salt output v a = ap (has 61) (joined_begins i is) ∙ has_middle 61 i.0 (i.1 ++ marked 44 (map item_text is))

salt_fit : (salt output : OptionalText) → After salt output → Fits (belongs Salt) salt (list_of output ++ [])
salt_fit none none a = tt
salt_fit none (some o) a = absurd a
salt_fit (some s) o a = refl

output_fit : (output : OptionalText) → Fits (belongs Output) output []
output_fit none = tt
output_fit (some o) = refl

-- ---- none of them has a `$`

abbrev Free : OptionalText → Type 0
Free none = Unit {0}
Free (some t) = has 36 t ≡ false

add_free : (s : OptionalText) (l : List (List ℕ)) → Free s → NoneHas 36 l → NoneHas 36 (list_of s ++ l)
add_free none l h k = k
add_free (some t) l h k = (h, k)

version_free : (v : Version) → Free (write_version v)
unfolding is_value_byte
version_free Absent = tt
version_free (Number n) = not_in is_value_byte 36 refl (digits n) (digits-values n)

params_free : (is : List Item) → all is_item is ≡ true → Free (params_text is)
unfolding is_name_byte is_value_byte
params_free [] e = tt
params_free (i ∷ is) e =
    let q = both (is_item i) (all is_item is) e in
    join_free 36 44 refl (item_text i) (map item_text is) (item_free 36 refl refl refl i q.0) (items_free 36 refl refl refl is q.1)

value_optional_free : (s : OptionalText) → violates is_value s ≡ false → Free s
unfolding is_name_byte is_value_byte
value_optional_free none e = tt
value_optional_free (some s) e = value_free 36 refl refl s (is_true (is_value s) e)

canonical_free : (s : OptionalText) → violates canonical s ≡ false → Free s
unfolding is_value_byte
canonical_free none e = tt
canonical_free (some s) e = not_in is_value_byte 36 refl s (canonical-values s (is_true (canonical s) e))

module _ (e : List Profile) (ok : sound e ≡ true) where
  -- ---- what holds of permitted fields and of the texts they are written to

  record Facts (f : FieldSet) (r : Profile) : Type 0 where
    known : (profile_of e f.numbers.id).known ≡ true
    column : SoundColumn e f.numbers.id r
    version : VersionWritten f.numbers.version (write_version f.numbers.version)
    allowed : version_allowed r.versions f.numbers.version ≡ true
    m : NumberWritten r.m f.numbers.m (write_number r.m f.numbers.m)
    t : NumberWritten r.t f.numbers.t (write_number r.t f.numbers.t)
    p : NumberWritten r.p f.numbers.p (write_number r.p f.numbers.p)
    lanes : memory_too_little f.numbers.m f.numbers.p ≡ false
    keyid : BytesWritten longest_value r.keyid f.keyid (write_bytes f.keyid)
    «data» : BytesWritten longest_value r.«data» f.«data» (write_bytes f.«data»)
    salt : BytesWritten longest_value r.salt f.salt (write_bytes f.salt)
    output : BytesWritten longest_output.0 r.output f.output (write_bytes f.output)
    order : After (write_bytes f.salt) (write_bytes f.output)

  -- keyid, data and salt are values, and the output is one
  value : {r : BytesRule} {bs : List ℕ} {s : OptionalText} → BytesWritten longest_value r bs s → violates is_value s ≡ false
  value {r} {bs} {s} h = written_value s h.counted h.text_is

  output_is : {r : BytesRule} {bs : List ℕ} {s : OptionalText} → BytesWritten longest_output.0 r bs s → violates is_output s ≡ false
  output_is {r} {bs} {s} h = written_output s h.counted h.text_is

  facts : (f : FieldSet) → Permitted e f → Facts f (profile_of e f.numbers.id)
  facts f permitted =
      let h = permitted.column in
      let n = f.numbers in
      let r = profile_of e n.id in
      let E = sound-column_at e ok n.id h.id in
      let b = permitted.bytes in
      record {
        known = h.id;
        column = E;
        version = version_forth r.versions n.version E.versions h.version;
        allowed = h.version;
        m = number_forth r.m n.m E.m h.m;
        t = number_forth r.t n.t E.t h.t;
        p = number_forth r.p n.p E.p h.p;
        lanes = h.lanes;
        keyid = bytes_forth longest_value r.keyid f.keyid E.keyid b.0 h.keyid;
        «data» = bytes_forth longest_value r.«data» f.«data» E.«data» b.1 h.«data»;
        salt = bytes_forth longest_value r.salt f.salt E.salt b.2 h.salt;
        output = bytes_forth longest_output.0 r.output f.output E.output b.3 h.output;
        order = after f.salt f.output h.output_with_salt;
      }

  items_good : (f : FieldSet) (r : Profile) → Facts f r → all is_item (item_list parameter_names (field_values r f)) ≡ true
  items_good f r h =
      all_good parameter_names (field_values r f) names_good
      (h.m.good, (h.t.good, (h.p.good, (value h.keyid, (value h.«data», tt)))))

  -- ---- the grammar's side

  sorts : (f : FieldSet) → Facts f (profile_of e f.numbers.id) → Sorts (field_pieces e f)
  unfolding field_pieces is_name_byte is_value_byte
  sorts f h =
      let r = profile_of e f.numbers.id in
      let is = item_list parameter_names (field_values r f) in
      let g = items_good f r h in
      let salt = write_bytes f.salt in
      let output = write_bytes f.output in
      record {
        version_fits = version_fit f.numbers.version _ (no_version is salt output g (value h.salt) h.order);
        params_fits = params_fit is salt output (value h.salt) h.order;
        salt_fits = salt_fit salt output h.order;
        output_fits = output_fit output;
        id_free = name_free 36 refl refl r.name h.column.named;
        others_free =
            add_free (write_version f.numbers.version) _ (version_free f.numbers.version)
            (add_free (params_text is) _ (params_free is g)
            (add_free salt _ (value_optional_free salt (value h.salt)) (add_free output _ (canonical_free output h.output.text_is) tt)));
      }

  grammar_clear : (f : FieldSet) → Facts f (profile_of e f.numbers.id) → Clear (piece_rows (field_pieces e f))
  unfolding field_pieces
  grammar_clear f h =
      let r = profile_of e f.numbers.id in
      let is = item_list parameter_names (field_values r f) in
      let k = few parameter_names (field_values r f) in (
        not_of_true h.column.named,
        (
          h.version.version,
          (params_good is (items_good f r h) (omega arith), (value h.salt, (output_is h.output, (refl, tt)))),
        ),
      )

  -- ---- the profile's side

  -- the rows, at what the pieces are read as
  rows_clear : (f : FieldSet) → Facts f (profile_of e f.numbers.id)
      → Clear (rows_for (profile_of e f.numbers.id) f.numbers.version (field_values (profile_of e f.numbers.id) f) false (write_bytes f.salt) (write_bytes f.output))
  rows_clear f h =
      let n = f.numbers in (
        not_of_true h.known,
        (
          not_of_true h.allowed,
          (
            or-false (or-false (or-false (or-false h.m.placed h.t.placed) h.p.placed) h.keyid.placed) h.«data».placed,
            (
              h.m.number,
              (
                h.t.number,
                (
                  h.p.number,
                  (
                    rw (h.m.reads, h.p.reads) h.lanes,
                    (h.keyid.bytes, (h.«data».bytes, (h.m.short, (h.t.short, (h.p.short, (h.salt.bytes, (h.output.sized, tt))))))),
                  ),
                ),
              ),
            ),
          ),
        ),
      )

  -- what the pieces are read as
  read_as : (f : FieldSet) (r : Profile) → Facts f r
      → (named_values parameter_names (items_of (params_text (item_list parameter_names (field_values r f)))) ≡ field_values r f)
      × (unmatched_items parameter_names (items_of (params_text (item_list parameter_names (field_values r f)))) ≡ [])
  read_as f r h =
      let q = items_params (item_list parameter_names (field_values r f)) (items_good f r h) in
      let k = values_list parameter_names (field_values r f) refl tt in
      (ap (named_values parameter_names) q ∙ k.0, ap (unmatched_items parameter_names) q ∙ k.1)

  profile_clear : (f : FieldSet) → Facts f (profile_of e f.numbers.id) → Clear (profile_rows e (field_pieces e f))
  unfolding field_pieces
  profile_clear f h =
      let r = profile_of e f.numbers.id in
      let q = read_as f r h in
      subst Clear
      (λ i. rows_for (profile_of e (sym h.column.found i)) (sym h.version.reads i) (sym q.0 i) (not (empty (sym q.1 i))) (write_bytes f.salt) (write_bytes f.output))
      (rows_clear f h)

  carried_back : (f : FieldSet) → Facts f (profile_of e f.numbers.id) → fields_of_pieces e (field_pieces e f) ≡ f
  unfolding field_pieces
  carried_back f h =
      let n = f.numbers in
      let r = profile_of e n.id in
      let q = read_as f r h in
      let same-pieces : fields_of_pieces e (field_pieces e f) ≡ fields_for r n.id n.version (field_values r f) (write_bytes f.salt) (write_bytes f.output) =
      λ i. fields_for (profile_of e (h.column.found i)) (h.column.found i) (h.version.reads i) (q.0 i) (write_bytes f.salt) (write_bytes f.output) in
      let same-fields : fields_for r n.id n.version (field_values r f) (write_bytes f.salt) (write_bytes f.output) ≡ f =
      λ i. record {
        numbers = record { id = n.id; version = n.version; m = h.m.reads i; t = h.t.reads i; p = h.p.reads i };
        keyid = h.keyid.reads i;
        «data» = h.«data».reads i;
        salt = h.salt.reads i;
        output = h.output.reads i;
      } in
      same-pieces ∙ same-fields

  -- the pieces of the string that fields are written to
  pub pieces_of : (f : FieldSet) → Permitted e f → pieces (formatted e f) ≡ field_pieces e f
  unfolding formatted
  pieces_of f permitted = pieces_string (field_pieces e f) (sorts f (facts f permitted))

  pub written : (f : FieldSet) → Permitted e f → (reader_number e (formatted e f) ≡ 0) × (fields_of e (formatted e f) ≡ f)
  unfolding reader_number fields_of formatted
  written f permitted =
      let h = facts f permitted in
      let p = field_pieces e f in
      let s = string p in
      let q = pieces_of f permitted in
      let g = subst (λ (p : Pieces). Clear (piece_rows p)) (sym q) (grammar_clear f h) in
      let k = subst (λ (p : Pieces). Clear (profile_rows e p)) (sym q) (profile_clear f h) in
      let w = bad_string-first s (omega arith) (at_most p (zero_of (piece_rows p) (grammar_clear f h))) in (
        zero_of (grammar_rows s ++ profile_rows e (pieces s)) (clear_append (grammar_rows s) (profile_rows e (pieces s)) (w, g) k),
        ap (fields_of_pieces e) q ∙ carried_back f h,
      )
