-- One reading of a string that the grammar accepts: its optional texts, its rows and its fields, by the places of its pieces.
-- Assumes nothing.
use Prim.Native.Nat.{ℕ}
use mathlib.Core.Bool.{Bool, true, false, not, cond}
use mathlib.Core.List.{List, []}
use mathlib.Core.Option.{none, some}
use mathlib.Core.Path.{◌≡◌, refl, sym, ◌∙◌, ap}
use native.Mathlib.Omega.{arith}
use lib.Dec.{eqb}
use lib.ListN.{length}
use borrow.Author.Tests.{eqb-true, eqb-false, ne_eqb}
use Rattle.text.specs.Text.{within, all, empty, violates}
use Rattle.text.specs.Place.{refused, put_after}
use Rattle.text.specs.Rows.{first_number}
use Rattle.refusals.specs.Numbers.{number, number_of}
use Rattle.refusals.specs.declared.Refusal.{Refusal}
use Rattle.std.specs.Prelude.{Result, Ok, Err}
use Rattle.text.proofs.Tests.{both, is_true}
use Rattle.text.proofs.Writing.{put_refused}
use Rattle.text.proofs.Rows.{Clear, clear, rows_stop, rows_pass}
use Rattle.b64.specs.B64.{sextet, low_bits_zero, canonical, decode, decode_number, decoding}
use Rattle.grammar.specs.Limits.{longest_output}
use Rattle.grammar.specs.Pieces.{OptionalText, pieces, piece_in}
use Rattle.grammar.specs.Items.{Item, items, items_of}
use Rattle.grammar.specs.Rules.{is_item, is_output, grammar_rows, grammar_number}
use Rattle.grammar.specs.Layout.{places_of, span_of, layout, LayoutAnswer, layout_answer}
use Rattle.grammar.specs.declared.pieces.Layout.{Layout}
use Rattle.grammar.specs.Parts.{part_at, text_of}
use Rattle.grammar.specs.declared.places.Piece.{Piece}
use Rattle.grammar.specs.declared.places.Piece.TheVariants.{Id, Params, Version as Piece-as-Version, Salt as Piece-as-Salt, Output as Piece-as-Output}
use Rattle.grammar.specs.declared.places.Span.{Span}
use Rattle.grammar.specs.declared.places.Places.{Places}
use Rattle.grammar.proofs.Reading.{layout_number, layout-accepted, accepted_rows, accepted_starts, optional_absent, optional_present, piece_part}
use Rattle.table.specs.Limits.{Profile, id_of, profile_of, edition_two}
use Rattle.table.specs.declared.limits.BytesRule.{BytesRule}
use Rattle.table.specs.declared.version.Version.{Version}
use Rattle.profile.specs.Fields.{chosen, is_decoded_size, is_bytes, read_bytes, read_version}
use Rattle.profile.specs.Reader.{parameter_names, named_values, unmatched_items, value_at, rows_for, profile_rows, reader_number, fields_of}
use Rattle.profile.specs.Entries.{refused_reading, kind_number, kind_of, reading, decoded}
use Rattle.profile.specs.ReaderSteps.{span_text, span_texts, ValuesAre, Answers, costs_read, chosen_text, ParsedIs}
use Rattle.profile.specs.declared.fields.NumberFields.{NumberFields}
use Rattle.profile.specs.declared.fields.Kind.{Kind}
use Rattle.profile.specs.Entries.{Reading}
use Rattle.profile.specs.declared.fields.ByteString.{ByteString}
use Rattle.profile.specs.declared.fields.ByteString.TheVariants.{Keyid, Data, Salt, Output}
use Rattle.profile.specs.declared.judge.Costs.{Costs}
use Rattle.profile.specs.declared.values.Values.{Values}
use Rattle.profile.specs.declared.parsed.ParsedString.{ParsedString}
use Rattle.profile.proofs.Accepted.{params_all}
use Rattle.profile.proofs.JudgeLaws.{never_zero}
use Rattle.profile.proofs.OptionalTextLaws.{optional_none, optional_some}

pub answer_rows : (e : List Profile) (s : List ℕ) → grammar_number s ≡ 0 → reader_number e s ≡ first_number (profile_rows e (pieces s))
unfolding reader_number
answer_rows e s z = rows_pass (grammar_rows s) (profile_rows e (pieces s)) (accepted_rows s z)

-- the number of a string that the grammar refuses
pub answer_refused : (e : List Profile) (s : List ℕ) (n : ℕ) → grammar_number s ≡ n → (n ≡ 0 → ⊥) → reader_number e s ≡ n
unfolding reader_number grammar_number
answer_refused e s n q z = rows_stop (grammar_rows s) (profile_rows e (pieces s)) n (sym q) z

pub reading-refused : (e : List Profile) (s : List ℕ) (n : ℕ) → reader_number e s ≡ n → (n ≡ 0 → ⊥) → refused_reading n ≡ reading e s
unfolding reading
reading-refused e s n q z = rw (q, ne_eqb n 0 z)

-- by the layout that the grammar gives
pub grammar-refused : (s : List ℕ) (e : Refusal) → layout_answer (Err e) ≡ layout s → ParsedIs s (Err e)
grammar-refused s e k =
    let n : number_of e ≡ grammar_number s = ap (λ (x : LayoutAnswer). x.number) k ∙ layout_number s in
    record { number_is = sym (answer_refused edition_two s (number_of e) (sym n) (never_zero e)); accepted = tt }

pub grammar-accepted : (s : List ℕ) (l : Layout) → layout_answer (Ok l) ≡ layout s → (grammar_number s ≡ 0) × (l.places ≡ places_of (pieces s))
grammar-accepted s l k =
    let z : grammar_number s ≡ 0 = sym (ap (λ (x : LayoutAnswer). x.number) k ∙ layout_number s) in
    (z, ap (λ (x : LayoutAnswer). x.places) (k ∙ layout-accepted s z))

-- ---- the optional texts at the places of the pieces

module _ (s : List ℕ) (z : grammar_number s ≡ 0) where
  pub optional_piece : (w : Piece) → span_text s (span_of (places_of (pieces s)) w) ≡ piece_in (pieces s) w
  optional_piece w = go (eqb v.at 0) refl
    where
      v : Span
      v = span_of (places_of (pieces s)) w

      go : (b : Bool) → eqb v.at 0 ≡ b → span_text s v ≡ piece_in (pieces s) w
      go true e = optional_none s v (eqb-true v.at 0 e) ∙ sym (optional_absent s (accepted_starts s z) w (eqb-true v.at 0 e))
      go false e = optional_some s v (eqb-false v.at 0 e) ∙ sym (optional_present s (accepted_starts s z) w (eqb-false v.at 0 e))

  -- the items of the parameter piece, where there is one
  pub items_there : cond (not (eqb (places_of (pieces s)).params.at 0)) (items (part_at s (places_of (pieces s)).params)) [] ≡ items_of (pieces s).params
  items_there = go (eqb (places_of (pieces s)).params.at 0) refl
    where
      go : (b : Bool) → eqb (places_of (pieces s)).params.at 0 ≡ b
          → cond (not b) (items (part_at s (places_of (pieces s)).params)) [] ≡ items_of (pieces s).params
      go true e = ap items_of (sym (optional_absent s (accepted_starts s z) Params (eqb-true _ 0 e)))
      go false e = ap items_of (sym (optional_present s (accepted_starts s z) Params (eqb-false _ 0 e)))

  -- and they keep their rule
  pub items_good : all is_item (items_of (pieces s).params) ≡ true
  items_good = (params_all (pieces s).params (accepted_rows s z).1.1.1.0).0

-- the items of the text at the parameters' place, where there is one, keep their rule
pub part_items : (s : List ℕ) → grammar_number s ≡ 0 → (places : Places) → places ≡ places_of (pieces s) → (t : List ℕ) → t ≡ part_at s places.params
    → not (eqb places.params.at 0) ≡ true → all is_item (items t) ≡ true
part_items s z places e t q b =
    let same : cond (not (eqb places.params.at 0)) (items (part_at s places.params)) [] ≡ items_of (pieces s).params =
    ap (λ (x : Places). cond (not (eqb x.params.at 0)) (items (part_at s x.params)) []) e ∙ items_there s z in
    let here : items (part_at s places.params) ≡ items_of (pieces s).params = rw b at same in
    ap (λ (l : List ℕ). all is_item (items l)) q ∙ ap (all is_item) here ∙ items_good s z

-- ---- a byte string by its optional text

canonical-none : canonical [] ≡ true
unfolding canonical low_bits_zero sextet
canonical-none = refl

canonical_optional : (r : BytesRule) (o : OptionalText) → violates (is_bytes r) o ≡ false → canonical (text_of o) ≡ true
canonical_optional r none e = canonical-none
canonical_optional r (some t) e = (both (canonical t) (is_decoded_size r t) (is_true (is_bytes r t) e)).0

canonical_output : (o : OptionalText) → violates is_output o ≡ false → canonical (text_of o) ≡ true
unfolding is_output
canonical_output none e = canonical-none
canonical_output (some t) e = (both (within 1 longest_output.0 (length t)) (canonical t) (is_true (is_output t) e)).1

decode_optional : (o : OptionalText) → decode (text_of o) ≡ read_bytes o
unfolding decode
decode_optional none = refl
decode_optional (some t) = refl

-- ---- what is found at the places of an accepted string's pieces

-- by the texts of the id and of the parameters, and the profile r of the id
module _ (s : List ℕ) (z : grammar_number s ≡ 0) (places : Places) (e : places ≡ places_of (pieces s)) {id_text params : List ℕ} {values : Values}
    {id : ℕ} {version : Version} {r : Profile} (n : id_text ≡ part_at s places.id) (i : id ≡ id_of edition_two id_text)
    (v : version ≡ read_version (span_text s places.version)) (q : params ≡ part_at s places.params)
    (w : ValuesAre params (cond (not (eqb places.params.at 0)) (items params) []) values) (p : r ≡ profile_of edition_two id) where
  id_is : id ≡ id_of edition_two (pieces s).id
  id_is = i ∙ ap (id_of edition_two) (n ∙ ap (λ (x : Places). part_at s x.id) e ∙ piece_part s (accepted_starts s z) Id)

  version_is : version ≡ read_version (pieces s).version
  version_is = v ∙ ap (λ (x : Places). read_version (span_text s x.version)) e ∙ ap read_version (optional_piece s z Piece-as-Version)

  profile_is : r ≡ profile_of edition_two (id_of edition_two (pieces s).id)
  profile_is = p ∙ ap (profile_of edition_two) id_is

  same_items : cond (not (eqb places.params.at 0)) (items params) [] ≡ items_of (pieces s).params
  same_items =
      ap (λ (t : List ℕ). cond (not (eqb places.params.at 0)) (items t) []) q
      ∙ ap (λ (x : Places). cond (not (eqb x.params.at 0)) (items (part_at s x.params)) []) e
      ∙ items_there s z

  values_are : span_texts params values ≡ named_values parameter_names (items_of (pieces s).params)
  values_are = w.found ∙ ap (named_values parameter_names) same_items

  unmatched_is : values.unmatched ≡ not (empty (unmatched_items parameter_names (items_of (pieces s).params)))
  unmatched_is = w.unmatched_is ∙ ap (λ (is : List Item). not (empty (unmatched_items parameter_names is))) same_items

  salt_is : span_text s places.salt ≡ (pieces s).salt
  salt_is = ap (λ (x : Places). span_text s x.salt) e ∙ optional_piece s z Piece-as-Salt

  output_is : span_text s places.output ≡ (pieces s).output
  output_is = ap (λ (x : Places). span_text s x.output) e ∙ optional_piece s z Piece-as-Output

  -- the judge's answer to what was found
  abbrev pub Judged : Result Costs Refusal → Type 0
  Judged j =
      Answers (rows_for r version (span_texts params values) values.unmatched (span_text s places.salt) (span_text s places.output))
      (costs_read r (span_texts params values)) j

  same_rows : rows_for r version (span_texts params values) values.unmatched (span_text s places.salt) (span_text s places.output)
      ≡ profile_rows edition_two (pieces s)
  same_rows = λ i. rows_for (profile_is i) (version_is i) (values_are i) (unmatched_is i) (salt_is i) (output_is i)

  judged_number : (j : Result Costs Refusal) → Judged j → number j ≡ reader_number edition_two s
  judged_number j d = d.number_is ∙ ap first_number same_rows ∙ sym (answer_rows edition_two s z)

  pub parsed_refused : (e : Refusal) → Judged (Err e) → ParsedIs s (Err e)
  parsed_refused e d = record { number_is = judged_number (Err e) d; accepted = tt }

  -- the numbers and the kind of an accepted string
  accepted-reading : (c : Costs) → Judged (Ok c) → (k : Kind) → ((t : List ℕ) → kind_number k ≡ kind_of (span_text t places.salt) (span_text t places.output))
      → ◌≡◌ {A = Reading} (record { number = 0; kind = kind_number k; fields = record { id = id; version = version; m = c.m; t = c.t; p = c.p } }) (reading edition_two s)
  unfolding reading fields_of
  accepted-reading c d k kinds =
      let a : reader_number edition_two s ≡ 0 = sym (judged_number (Ok c) d) in
      let n : c ≡ costs_read (profile_of edition_two (id_of edition_two (pieces s).id)) (named_values parameter_names (items_of (pieces s).params)) =
      d.value_is ∙ (λ i. costs_read (profile_is i) (values_are i)) in
      let o : kind_number k ≡ kind_of (pieces s).salt (pieces s).output = kinds s ∙ (λ i. kind_of (salt_is i) (output_is i)) in
      rw a (λ i. record { number = 0; kind = o i; fields = record { id = id_is i; version = version_is i; m = (n i).m; t = (n i).t; p = (n i).p } })

  -- the texts of the four byte strings of an accepted string
  accepted_texts : reader_number edition_two s ≡ 0 → (k : Kind) (n : NumberFields) (c : ByteString)
      → let x : ParsedString = record { reading = record { kind = k; fields = n }; places = places; values = values } in
      (canonical (chosen_text s x c) ≡ true) × (decode (chosen_text s x c) ≡ chosen c (fields_of edition_two s))
  unfolding fields_of
  accepted_texts a k n c = pick c
    where
      rows : Clear (profile_rows edition_two (pieces s))
      rows = clear (profile_rows edition_two (pieces s)) refl (sym (answer_rows edition_two s z) ∙ a)

      vs : List OptionalText
      vs = named_values parameter_names (items_of (pieces s).params)

      column : Profile
      column = profile_of edition_two (id_of edition_two (pieces s).id)

      -- the rows of keyid and data, and of the salt
      keyid_row : violates (is_bytes column.keyid) (value_at vs 3) ≡ false
      keyid_row = rows.1.1.1.1.1.1.1.0

      data_row : violates (is_bytes column.«data») (value_at vs 4) ≡ false
      data_row = rows.1.1.1.1.1.1.1.1.0

      salt_row : violates (is_bytes column.salt) (pieces s).salt ≡ false
      salt_row = rows.1.1.1.1.1.1.1.1.1.1.1.1.0

      -- an optional text that is the one of the rules
      by : (o u : OptionalText) → o ≡ u → canonical (text_of u) ≡ true → (canonical (text_of o) ≡ true) × (decode (text_of o) ≡ read_bytes u)
      by o u g h = (ap (λ (y : OptionalText). canonical (text_of y)) g ∙ h, decode_optional o ∙ ap read_bytes g)

      at : (k : ℕ) → value_at (span_texts (part_at s places.params) values) k ≡ value_at vs k
      at k = ap (λ (l : List OptionalText). value_at l k) (ap (λ (t : List ℕ). span_texts t values) (sym q) ∙ values_are)

      x : ParsedString
      x = record { reading = record { kind = k; fields = n }; places = places; values = values }

      pick : (c : ByteString) → (canonical (chosen_text s x c) ≡ true) × (decode (chosen_text s x c) ≡ chosen c (fields_of edition_two s))
      pick Keyid = by _ (value_at vs 3) (at 3) (canonical_optional column.keyid (value_at vs 3) keyid_row)
      pick Data = by _ (value_at vs 4) (at 4) (canonical_optional column.«data» (value_at vs 4) data_row)
      pick Salt = by _ (pieces s).salt salt_is (canonical_optional column.salt (pieces s).salt salt_row)
      pick Output = by _ (pieces s).output output_is (canonical_output (pieces s).output (accepted_rows s z).1.1.1.1.1.0)

  pub parsed_accepted : (c : Costs) → Judged (Ok c) → (k : Kind) → ((t : List ℕ) → kind_number k ≡ kind_of (span_text t places.salt) (span_text t places.output))
      → ParsedIs s (Ok (record { reading = record { kind = k; fields = record { id = id; version = version; m = c.m; t = c.t; p = c.p } }; places = places; values = values }))
  parsed_accepted c d k kinds =
      record {
        number_is = judged_number (Ok c) d;
        accepted = record { reading_is = accepted-reading c d k kinds; texts = accepted_texts (sym (judged_number (Ok c) d)) k (record { id = id; version = version; m = c.m; t = c.t; p = c.p }) };
      }

-- ---- what a reading leaves to the entries

pub reading_fields : (e : List Profile) (s : List ℕ) → reader_number e s ≡ 0 → (reading e s).fields ≡ (fields_of e s).numbers
unfolding reading
reading_fields e s z = rw z

pub reading_number : (e : List Profile) (s : List ℕ) → (reading e s).number ≡ reader_number e s
unfolding reading
reading_number e s = go (eqb (reader_number e s) 0) refl
  where
    go : (b : Bool) → eqb (reader_number e s) 0 ≡ b
        → (cond b (record { number = 0; kind = kind_of (pieces s).salt (pieces s).output; fields = (fields_of e s).numbers }) (refused_reading (reader_number e s))).number ≡ reader_number e s
    go true q = sym (eqb-true (reader_number e s) 0 q)
    go false q = refl

module _ (s : List ℕ) (c : ByteString) (buffer : List ℕ) (at : ℕ) where
  pub bytes-refused : (e : Refusal) → ParsedIs s (Err e) → refused (number_of e) buffer ≡ decoded edition_two c s buffer at
  unfolding decoded
  bytes-refused e h =
      put_refused buffer at (chosen c (fields_of edition_two s)) (reader_number edition_two s) (number_of e) (sym h.number_is) (omega (arith, never_zero e))

  pub bytes-decoded : (w : ParsedString) → ParsedIs s (Ok w) → (t : List ℕ) → t ≡ chosen_text s w c → decoding t buffer at ≡ decoded edition_two c s buffer at
  unfolding decoded
  bytes-decoded w h t q =
      let k = h.accepted.texts c in
      let n : decode_number t ≡ reader_number edition_two s = ap decode_number q ∙ ap (λ (b : Bool). cond b 0 12) k.0 ∙ h.number_is in
      let d : decode t ≡ chosen c (fields_of edition_two s) = ap decode q ∙ k.1 in
      λ i. put_after (n i) buffer at (d i)
