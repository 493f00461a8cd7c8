-- An accepted string carries permitted fields, and they are written back to exactly that string, in every edition that passes the
-- test `sound`.
-- Assumes nothing.
use Prim.Native.Nat.{ℕ}
use mathlib.Core.Bool.{Bool, true, false, not, cond, ◌&&◌}
use mathlib.Core.List.{List, [], ◌∷◌, ◌++◌}
use mathlib.Core.Option.{Option, none, some}
use mathlib.Core.Path.{◌≡◌, refl, sym, ◌∙◌, ap}
use native.Mathlib.Omega.{arith}
use lib.Dec.{leb}
use lib.ListN.{length}
use Rattle.text.specs.Text.{within, all, empty, split, head_if, tail_if, violates}
use Rattle.text.proofs.Tests.{both, and-true, neither, not_of_true, is_true}
use Rattle.text.proofs.Rows.{Clear, clear}
use Rattle.text.proofs.Lists.{empty-nil, head_passes}
use Rattle.b64.specs.B64.{canonical, decode}
use Rattle.grammar.specs.Limits.{longest_output, most_items}
use Rattle.grammar.specs.Pieces.{OptionalText, Pieces, is_version_piece, belongs, after_first, pieces, string}
use Rattle.grammar.specs.Items.{Item, items, items_of, params_text}
use Rattle.grammar.specs.Rules.{is_value, is_item, is_params, is_output, piece_rows, grammar_rows}
use Rattle.grammar.specs.declared.places.Piece.TheVariants.{Version, Params, Salt, Output}
use Rattle.grammar.proofs.ItemLaws.{item-value, params_items}
use Rattle.grammar.proofs.PieceLaws.{string_pieces}
use Rattle.grammar.proofs.Reading.{bad_string_begins}
use Rattle.table.specs.Limits.{Profile, id_of, profile_of, version_allowed}
use Rattle.table.specs.declared.limits.BytesRule.{BytesRule}
use Rattle.profile.specs.Fields.{is_decoded_size, is_bytes, read_bytes, write_bytes, read_version}
use Rattle.profile.specs.Reader.{parameter_names, named, item_value, named_values, unmatched_items, value_at, missing_or_unknown, profile_rows, reader_number, fields_of_pieces, fields_of}
use Rattle.profile.specs.Writer.{Permitted, item_list, field_values, field_pieces, formatted}
use Rattle.profile.specs.Sound.{sound}
use Rattle.profile.proofs.Codecs.{number_back, bytes_back, value_filled, output_filled, version_back}
use Rattle.profile.proofs.NamedValues.{list_values}
use Rattle.profile.proofs.SoundLaws.{sound-column_at, name_of}
use Rattle.profile.proofs.Written.{Goods, After}

-- ---- what the sorting tells

version_begins : (s : List ℕ) → violates is_version_piece (pieces s).version ≡ false
unfolding pieces
version_begins s = head_passes (belongs Version) (split 36 (after_first s)).1

salt_before : (l : List (List ℕ)) → After (head_if (belongs Salt) l) (head_if (belongs Output) (tail_if (belongs Salt) l))
salt_before [] = tt
salt_before (x ∷ l) = tt

salt_first : (s : List ℕ) → After (pieces s).salt (pieces s).output
unfolding pieces
salt_first s = salt_before (tail_if (belongs Params) (tail_if (belongs Version) (split 36 (after_first s)).1))

-- ---- what the grammar's rows tell

values_good : (ns : List (List ℕ)) (is : List Item) → all is_item is ≡ true → Goods (named_values ns is)
values_good [] is e = tt
values_good (n ∷ ns) [] e = (refl, values_good ns [] refl)
values_good (n ∷ ns) (i ∷ is) e =
    (first (named n i), values_good ns (tail_if (named n) (i ∷ is)) (others (named n i)))
  where
    q : (is_item i ≡ true) × (all is_item is ≡ true)
    q = both (is_item i) (all is_item is) e

    first : (b : Bool) → violates is_value (item_value (cond {A = Option Item} b (some i) none)) ≡ false
    first true = not_of_true (item-value i q.0)
    first false = refl

    others : (b : Bool) → all is_item (cond b is (i ∷ is)) ≡ true
    others true = q.1
    others false = e

pub params_all : (s : OptionalText) → violates is_params s ≡ false → (all is_item (items_of s) ≡ true) × (params_text (items_of s) ≡ s)
unfolding is_params
params_all none e = (refl, refl)
params_all (some s) e =
    let q = both (leb (length (items s)) most_items) (all is_item (items s)) (is_true (is_params s) e) in
    (q.1, params_items s q.1)

-- an output is canonical by the grammar, and of a permitted size by the profile
output_bytes : (r : BytesRule) (s : OptionalText) → violates is_output s ≡ false → violates (is_decoded_size r) s ≡ false → violates (is_bytes r) s ≡ false
unfolding is_output
output_bytes r none o e = refl
output_bytes r (some t) o e =
    let q = both (within 1 longest_output.0 (length t)) (canonical t) (is_true (is_output t) o) in
    not_of_true (and-true q.1 (is_true (is_decoded_size r t) e))

-- no output without a salt: a salt that is there has a byte
ordered : (salt output : OptionalText) → After salt output → write_bytes (read_bytes salt) ≡ salt → (empty (read_bytes salt) && not (empty (read_bytes output))) ≡ false
ordered none none a w = refl
ordered none (some o) a w = absurd a
ordered (some s) output a w = go (decode s) w
  where
    go : (l : List ℕ) → write_bytes l ≡ some s → (empty l && not (empty (read_bytes output))) ≡ false
    go [] w = let z : ◌≡◌ {A = ℕ} 0 1 = cc in absurd (omega arith)
    go (b ∷ l) w = refl

module _ (e : List Profile) (ok : sound e ≡ true) where
  -- what is read of the pieces is permitted, and is written to the same pieces
  back : (p : Pieces) → violates is_version_piece p.version ≡ false → After p.salt p.output
      → Clear (piece_rows p) → Clear (profile_rows e p)
      → Permitted e (fields_of_pieces e p) × (field_pieces e (fields_of_pieces e p) ≡ p)
  unfolding field_pieces
  back p v a (g2, (g3, (g4, (g5, (g6, (g7, g)))))) (r8, (r9, (r10, (m₁, (t₁, (p₁, (lanes, (keyid₁, (ad₁, (m₂, (t₂, (p₂, (r14, (r15, u)))))))))))))) =
      let is = items_of p.params in
      let vs = named_values parameter_names is in
      let k = id_of e p.id in
      let r = profile_of e k in
      let known = is_true r.known r8 in
      let E = sound-column_at e ok k known in
      let P = params_all p.params g4 in
      let G = values_good parameter_names is P.0 in
      let s10 = neither (not (empty (unmatched_items parameter_names is))) (missing_or_unknown r vs) r10 in
      let place₄ = neither _ _ s10.1 in
      let place₃ = neither _ _ place₄.0 in
      let place₂ = neither _ _ place₃.0 in
      let place₁ = neither _ _ place₂.0 in
      let m = number_back r.m (value_at vs 0) E.m place₁.0 m₁ m₂ in
      let t = number_back r.t (value_at vs 1) E.t place₁.1 t₁ t₂ in
      let l = number_back r.p (value_at vs 2) E.p place₂.1 p₁ p₂ in
      let keyid = bytes_back r.keyid (value_at vs 3) (value_filled (value_at vs 3) G.1.1.1.0) keyid₁ in
      let «data» = bytes_back r.«data» (value_at vs 4) (value_filled (value_at vs 4) G.1.1.1.1.0) ad₁ in
      let salt = bytes_back r.salt p.salt (value_filled p.salt g5) r14 in
      let output = bytes_back r.output p.output (output_filled p.output g6) (output_bytes r.output p.output g6 r15) in
      let left = empty-nil (unmatched_items parameter_names is) (is_true (empty (unmatched_items parameter_names is)) s10.0) in
      let same-values : field_values r (fields_of_pieces e p) ≡ vs = λ i. m.1 i ∷ t.1 i ∷ l.1 i ∷ keyid.1 i ∷ «data».1 i ∷ [] in
      let same_params : params_text (item_list parameter_names (field_values r (fields_of_pieces e p))) ≡ p.params =
      ap (λ (x : List OptionalText). params_text (item_list parameter_names x)) same-values ∙ ap params_text (list_values parameter_names is left) ∙ P.1 in
      let same_version = version_back p.version v g3 in
      let same_more = sym (empty-nil p.more (is_true (empty p.more) g7)) in (
        record {
          column = record {
            id = known;
            version = is_true (version_allowed r.versions (read_version p.version)) r9;
            m = m.0;
            t = t.0;
            p = l.0;
            lanes = lanes;
            keyid = keyid.0;
            «data» = «data».0;
            salt = salt.0;
            output = output.0;
            output_with_salt = ordered p.salt p.output a salt.1;
          };
          bytes = (keyid.2, «data».2, salt.2, output.2);
        },
        λ i. record { id = name_of e p.id known i; version = same_version i; params = same_params i; salt = salt.1 i; output = output.1 i; more = same_more i },
      )

  pub accepted : (s : List ℕ) → reader_number e s ≡ 0 → Permitted e (fields_of e s) × (formatted e (fields_of e s) ≡ s)
  unfolding reader_number fields_of formatted
  accepted s z =
      let p = pieces s in
      let (g1, (g2, (g3, (g4, (g5, (g6, (g7, r))))))) = clear (grammar_rows s ++ profile_rows e p) refl z in
      let b = back p (version_begins s) (salt_first s) (g2, (g3, (g4, (g5, (g6, (g7, tt)))))) r in
      (b.0, ap string b.1 ∙ string_pieces s (bad_string_begins s g1))
