-- What fields of the two ids are written to: the id alone, or a string that has a braced text. No string ends with its second `$`.
-- Assumes nothing.
use Prim.Native.Nat.{ℕ, zero, suc, ◌+◌, ◌≤◌, ◌<◌}
use mathlib.Core.Bool.{Bool, true, false, true≢false}
use mathlib.Core.List.{List, [], ◌∷◌, ◌++◌}
use mathlib.Core.Logic.{◌⊎◌, inl, inr}
use mathlib.Core.Option.{none, some}
use mathlib.Core.Path.{◌≡◌, refl, sym, ◌∙◌, ap}
use native.Mathlib.Omega.{arith}
use lib.Dec.{eqb}
use lib.ListN.{length, length-append}
use borrow.Author.Tests.{eqb-true, eqb-false, lt-leb}
use Rattle.text.specs.Text.{text, same, empty, join}
use Rattle.text.proofs.Tests.{from_within}
use Rattle.text.proofs.Lists.{same_eq, same_refl, length_filled}
use Rattle.b64.proofs.B64Laws.{length_encode}
use Rattle.grammar.specs.Bytes.{dollar}
use Rattle.grammar.specs.Pieces.{OptionalText, after_id}
use Rattle.table.specs.Limits.{Profile, edition_two}
use Rattle.table.specs.declared.version.Version.{Version}
use Rattle.table.specs.declared.version.Version.TheVariants.{Absent, Number}
use Rattle.profile.specs.Fields.{FieldSet, write_bytes, write_number, write_version}
use Rattle.profile.specs.Writer.{writer_number, field_pieces, formatted}
use Rattle.profile.specs.PieceTexts.{tagged_length}
use Rattle.profile.proofs.Allows.{here, allowed}
use Rattle.profile.proofs.Texts.{formatted-length}
use Rattle.profile.proofs.Lengths.{bounds_two}
use Rattle.directory.specs.Braced.{braced_text, longest_braced}
use Rattle.directory.specs.Entries.{is_directory_id, is_id_alone}

-- ---- no piece is empty, so none adds its `$` alone

abbrev NotOne : ℕ → Type 0
NotOne n = n ≡ 1 → ⊥

add-not-one : (x y : ℕ) → NotOne x → NotOne y → NotOne (x + y)
add-not-one zero y a b e = b (omega arith)
add-not-one (suc x) y a b e = a (omega arith)

tag_not_one : (tag : ℕ) → 2 ≤ tag → (o : OptionalText) → NotOne (tagged_length tag o)
tag_not_one tag h none e = omega arith
tag_not_one tag h (some t) e = omega arith

version_not_one : (v : Version) → NotOne (tagged_length 1 (write_version v))
version_not_one Absent e = omega arith
version_not_one (Number n) e = omega arith

bytes-not-one : (bs : List ℕ) → NotOne (tagged_length 1 (write_bytes bs))
bytes-not-one [] e = omega arith
bytes-not-one (b ∷ bs) e = omega (arith, length_encode (b ∷ bs))

module _ (e : List Profile) (f : FieldSet) where
  abbrev name : List ℕ
  name = (here e f).name

  one_more : length (formatted e f) ≡ length name + 2 → ⊥
  one_more q =
      let r = here e f in
      let n = f.numbers in
      let v = tagged_length 1 (write_version n.version) in
      let m = tagged_length 3 (write_number r.m n.m) in
      let t = tagged_length 3 (write_number r.t n.t) in
      let p = tagged_length 3 (write_number r.p n.p) in
      let keyid = tagged_length 7 (write_bytes f.keyid) in
      let «data» = tagged_length 6 (write_bytes f.«data») in
      let salt = tagged_length 1 (write_bytes f.salt) in
      let output = tagged_length 1 (write_bytes f.output) in
      let h₁ = add-not-one (m + t) p (add-not-one m t (tag_not_one 3 (omega arith) (write_number r.m n.m)) (tag_not_one 3 (omega arith) (write_number r.t n.t))) (tag_not_one 3 (omega arith) (write_number r.p n.p)) in
      let h₂ = add-not-one v (m + t + p) (version_not_one n.version) h₁ in
      let h₃ = add-not-one keyid «data» (tag_not_one 7 (omega arith) (write_bytes f.keyid)) (tag_not_one 6 (omega arith) (write_bytes f.«data»)) in
      let h₄ = add-not-one salt output (bytes-not-one f.salt) (bytes-not-one f.output) in
      let h₅ = add-not-one (v + (m + t + p)) (keyid + «data») h₂ h₃ in
      add-not-one (v + (m + t + p) + (keyid + «data»)) (salt + output) h₅ h₄ (omega (arith, formatted-length e f))

  -- ---- the id alone, or more

  pieces_after : formatted e f ≡ dollar ∷ join dollar name (after_id (field_pieces e f))
  unfolding formatted field_pieces
  pieces_after = refl

  pub record GoesOn : Type 0 where
    pub rest : List ℕ
    pub more : empty rest ≡ false
    pub string : formatted e f ≡ dollar ∷ (name ++ dollar ∷ rest)

  pub goes_on : is_id_alone e f ≡ false → GoesOn
  goes_on h = go (after_id (field_pieces e f)) pieces_after
    where
      go : (qs : List (List ℕ)) → formatted e f ≡ dollar ∷ join dollar name qs → GoesOn
      go [] q = absurd (true≢false (sym (same_refl (dollar ∷ name)) ∙ ap (λ (s : List ℕ). same s (dollar ∷ name)) (sym q) ∙ h))
      go (p ∷ ps) q =
          let r = join dollar p ps in
          let l = ap length q in
          let k = length-append name (dollar ∷ r) in
          record { rest = r; more = length_filled r (λ z. one_more (omega arith)); string = q }

  pub alone_length : is_id_alone e f ≡ true → length (formatted e f) ≡ suc (length name)
  alone_length h = ap length (same_eq (formatted e f) (dollar ∷ name) h)

  pub more_length : is_id_alone e f ≡ false → length name + 2 < length (formatted e f)
  more_length h =
      let g = goes_on h in
      let l = ap length g.string in
      let k = length-append name (dollar ∷ g.rest) in
      omega (arith, one_more)

-- ---- the two ids of edition two

pub which : (k : ℕ) → is_directory_id k ≡ true → (k ≡ 4) ⊎ (k ≡ 5)
which k h = go (eqb k 4) refl
  where
    go : (b : Bool) → eqb k 4 ≡ b → (k ≡ 4) ⊎ (k ≡ 5)
    go true q = inl (eqb-true k 4 q)
    go false q = inr (omega (arith, eqb-false k 4 q, from_within 4 5 k h))

module _ (f : FieldSet) (h : is_directory_id f.numbers.id ≡ true) where
  pub name-length : length (here edition_two f).name ≡ 8
  unfolding edition_two
  name-length = go (which f.numbers.id h)
    where
      go : (f.numbers.id ≡ 4) ⊎ (f.numbers.id ≡ 5) → length (here edition_two f).name ≡ 8
      go (inl q) = rw q
      go (inr q) = rw q

  pub spelled : is_id_alone edition_two f ≡ false → (t : List ℕ) × (braced_text (formatted edition_two f) ≡ some t)
  unfolding braced_text edition_two
  spelled a = go (which f.numbers.id h) (goes_on edition_two f a)
    where
      go : (f.numbers.id ≡ 4) ⊎ (f.numbers.id ≡ 5) → GoesOn edition_two f → (t : List ℕ) × (braced_text (formatted edition_two f) ≡ some t)
      go (inl q) g =
          let n : (here edition_two f).name ≡ text "pbkdf2s2" = rw q in
          (text "{pbkdf2s2}" ++ g.rest, rw (g.string, n, g.more))
      go (inr q) g =
          let n : (here edition_two f).name ≡ text "pbkdf2s3" = rw q in
          (text "{pbkdf2s3}" ++ g.rest, rw (g.string, n, g.more))

  pub at_most : writer_number edition_two f ≡ 0 → length (formatted edition_two f) ≤ longest_braced
  at_most z = rw (lt-leb f.numbers.id 3 (omega (arith, from_within 4 5 f.numbers.id h))) at (bounds_two f (allowed edition_two f z)).0
