-- The walk's fields as the entries' outcomes: what the reader gives, and all that a string carries.
-- Assumes nothing.
use Rattle.std.proofs.Common.{◌≡◌, ℕ, ◌-◌, ◌<◌, Bool, true, false, cond, eqb, List, [], ◌∷◌, ◌++◌, length, take, drop, sym, refl, ap, ◌∙◌, arith, length-append, ne_eqb, eqb-true}
use mathlib.Core.Option.{Option, none, some}
use lib.Seq.{take-append_seam}
use Rattle.text.specs.Place.{refused, over, put, put_after}
use Rattle.text.proofs.Over.{over_start}
use Rattle.text.proofs.Writing.{put_clear, put_refused}
use Rattle.table.specs.Limits.{edition_two, longest_permitted}
use Rattle.profile.specs.Fields.{FieldSet, write_bytes}
use Rattle.profile.specs.Reader.{reader_number, fields_of}
use Rattle.profile.specs.Entries.{Reading, kind_of, read_answer, reading}
use Rattle.refusals.specs.declared.Refusal.{Refusal}
use Rattle.profile.specs.declared.fields.Record.{Record}
use Rattle.std.specs.Prelude.{Result, Ok, Err}
use Rattle.std.specs.Result.{IsErr}
use Rattle.profile.proofs.SoundLaws.{edition_two-sound}
use Rattle.profile.proofs.Accepted.{accepted}
use Rattle.profile.proofs.ReadLaws.{reading_number}
use Rattle.profile.proofs.Claims.{lengths, entries_agree_two}
use Rattle.fast_path.specs.Contents.{joined_bytes, ContentsAnswer, counted, refused_contents, all_decoded, contents}
use Rattle.fast_path.specs.Walk.{walked}
use Rattle.fast_path.specs.WalkSteps.{kind_for, contents_of, StoredAll, total, StoredIs}
use Rattle.fast_path.proofs.Found.{walk_sound}
use Rattle.fast_path.proofs.Walked.{walk_agrees}

-- ---- what the walk says of the rules

-- a string in which nothing is found is refused
pub not-walked : (s : List ℕ) → walked edition_two s ≡ none → reader_number edition_two s ≡ 0 → ⊥
not-walked s e z =
    let q : ◌≡◌ {A = Option FieldSet} none (some (fields_of edition_two s)) = sym e ∙ walk_agrees edition_two edition_two-sound s ∙ rw z in
    let n : ◌≡◌ {A = ℕ} 0 1 = cc in
    omega arith

module _ (s : List ℕ) (f : FieldSet) (e : walked edition_two s ≡ some f) where
  pub walked_answer : reader_number edition_two s ≡ 0
  walked_answer = go (eqb (reader_number edition_two s) 0) refl (sym e ∙ walk_agrees edition_two edition_two-sound s)
    where
      go : (b : Bool) → eqb (reader_number edition_two s) 0 ≡ b → some f ≡ cond b (some (fields_of edition_two s)) none → reader_number edition_two s ≡ 0
      go true t q = eqb-true (reader_number edition_two s) 0 t
      go false t q = let n : ◌≡◌ {A = ℕ} 0 1 = cc in absurd (omega arith)

  pub walked-fields : f ≡ fields_of edition_two s
  walked-fields =
      let z = walked_answer in
      let q : some f ≡ some (fields_of edition_two s) = sym e ∙ walk_agrees edition_two edition_two-sound s ∙ rw z in
      cc

-- nothing is found in a string that is longer than any permitted one
pub walked_long : (s : List ℕ) → longest_permitted < length s → walked edition_two s ≡ none
walked_long s h = walk_agrees edition_two edition_two-sound s ∙ go (eqb (reader_number edition_two s) 0) refl
  where
    go : (b : Bool) → eqb (reader_number edition_two s) 0 ≡ b → cond b (some (fields_of edition_two s)) none ≡ none
    go true t =
        let a = accepted edition_two edition_two-sound s (eqb-true (reader_number edition_two s) 0 t) in
        absurd (omega (arith, lengths.any_most (fields_of edition_two s) a.0, ap length a.1))
    go false t = refl

-- ---- the reader

kind_lengths : (a b : List ℕ) → kind_for (length a) (length b) ≡ kind_of (write_bytes a) (write_bytes b)
kind_lengths [] [] = refl
kind_lengths [] (y ∷ b) = rw (ne_eqb (length (y ∷ b)) 0 (λ h. omega arith))
kind_lengths (x ∷ a) [] = rw (ne_eqb (length (x ∷ a)) 0 (λ h. omega arith))
kind_lengths (x ∷ a) (y ∷ b) = rw (ne_eqb (length (y ∷ b)) 0 (λ h. omega arith))

pub walked-reading : (s : List ℕ) (f : FieldSet) → walked edition_two s ≡ some f → (contents_of f).reading ≡ reading edition_two s
walked-reading s f e =
    let (h, q) = walk_sound edition_two edition_two-sound s f e in
    let k = kind_lengths f.salt f.output in
    (λ i. record { number = 0; kind = k i; fields = f.numbers }) ∙ sym (entries_agree_two.reads f h) ∙ ap (reading edition_two) q

-- ---- all that a string carries

pub all-refused : (s buf : List ℕ) (at : ℕ) → walked edition_two s ≡ none → (c : ContentsAnswer) (r : Reading) → r ≡ reading edition_two s → c ≡ refused_contents r.number
    → (c ≡ contents edition_two s buf at) × (buf ≡ (all_decoded edition_two s buf at).buffer)
unfolding contents all_decoded
all-refused s buf at e c r q w =
    let n = reader_number edition_two s in
    let z = not-walked s e in
    let k : r.number ≡ n = ap (λ (x : Reading). x.number) q ∙ reading_number edition_two s in
    let p : refused n buf ≡ put_after n buf at (joined_bytes (fields_of edition_two s)) = put_refused buf at (joined_bytes (fields_of edition_two s)) n n refl (omega (arith, z)) in (
      w ∙ rw (k, ← p, ne_eqb n 0 z),
      rw (← p),
    )

-- the profile's reader refuses it too
pub refused_too : (s : List ℕ) → walked edition_two s ≡ none → (r : Result Record Refusal) → read_answer r ≡ reading edition_two s → IsErr r
refused_too s e (Ok r) q = absurd (not-walked s e (sym (ap (λ (x : Reading). x.number) q ∙ reading_number edition_two s)))
refused_too s e (Err f) q = refl

-- the bytes that are counted are those of the fields
counted-bytes : (f : FieldSet) (out₀ out : List ℕ) → out ≡ over out₀ 0 (joined_bytes f) → (total (contents_of f) ≡ length (joined_bytes f)) × (take (total (contents_of f)) out ≡ joined_bytes f)
counted-bytes f out₀ out e =
    let l : total (contents_of f) ≡ length (joined_bytes f) =
    omega (
      arith,
      length-append f.keyid (f.«data» ++ (f.salt ++ f.output)),
      length-append f.«data» (f.salt ++ f.output),
      length-append f.salt f.output,
    ) in
    (l, rw (l, e, over_start out₀ (joined_bytes f)) (take-append_seam (joined_bytes f) (drop (length (joined_bytes f)) out₀)))

module _ (s out₀ out : List ℕ) (c : ContentsAnswer) (x : StoredAll (walked edition_two s) out₀ out c) where
  pub found_reading : c.reading ≡ reading edition_two s
  found_reading = ap (λ (y : ContentsAnswer). y.reading) x.contents_are ∙ walked-reading s x.fields x.found

  found_contents : c ≡ counted (reading edition_two s) (fields_of edition_two s)
  found_contents =
      let f = walked-fields s x.fields x.found in
      let r = found_reading in
      let a = x.contents_are in
      λ i. record {
        reading = r i;
        keyid = (ap (λ (y : ContentsAnswer). y.keyid) a ∙ ap (λ (y : FieldSet). record { 0 = length y.keyid }) f) i;
        «data» = (ap (λ (y : ContentsAnswer). y.«data») a ∙ ap (λ (y : FieldSet). record { 0 = length y.«data» }) f) i;
        salt = (ap (λ (y : ContentsAnswer). y.salt) a ∙ ap (λ (y : FieldSet). record { 0 = length y.salt }) f) i;
        output = (ap (λ (y : ContentsAnswer). y.output) a ∙ ap (λ (y : FieldSet). record { 0 = length y.output }) f) i;
      }

  pub all_found : (buf₀ : List ℕ) (at : ℕ) (buf : List ℕ) (r : ContentsAnswer) → StoredIs c out buf₀ at buf r
      → (r ≡ contents edition_two s buf₀ at) × (buf ≡ (all_decoded edition_two s buf₀ at).buffer)
  unfolding contents all_decoded
  all_found buf₀ at buf r w =
      let f = walked-fields s x.fields x.found in
      let b : take (total c) out ≡ joined_bytes (fields_of edition_two s) =
      ap (λ (y : ContentsAnswer). take (total y) out) x.contents_are ∙ (counted-bytes x.fields out₀ out x.stored).1 ∙ ap joined_bytes f in
      let p = put_clear buf₀ at (joined_bytes (fields_of edition_two s)) (reader_number edition_two s) (walked_answer s x.fields x.found) in (
        w.answer ∙ rw (p, b) (ap (λ (y : ContentsAnswer). cond (eqb (put buf₀ at (joined_bytes (fields_of edition_two s))).number 0) y (refused_contents (put buf₀ at (joined_bytes (fields_of edition_two s))).number)) found_contents),
        w.buffer ∙ rw (p, b),
      )
