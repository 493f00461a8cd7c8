-- Byte strings, one after the other: what the walk finds, and what stands in the buffer.
-- Assumes nothing.
use Rattle.std.proofs.Common.{◌≡◌, ℕ, ◌+◌, ◌-◌, ◌<◌, ◌≤◌, Bool, true, false, cond, not, ◌&&◌, leb, List, [], ◌∷◌, ◌++◌, length, drop, sym, refl, ap, ◌∙◌, append_assoc, arith, length-append, length-drop, drop-drop, leb-true}
use mathlib.Core.Bool.{and-false}
use mathlib.Core.Option.{none, some}
use lib.Seq.{drop-length}
use borrow.Author.Tests.{lt-leb}
use Rattle.text.specs.Text.{all, empty, starts_with}
use Rattle.text.specs.Place.{over}
use Rattle.text.proofs.Tests.{from_within}
use Rattle.text.proofs.Table.{always}
use Rattle.text.proofs.Over.{over-nil, over_after}
use Rattle.text.proofs.Runs.{run_length}
use Rattle.text.proofs.Lists.{length-empty, length_filled}
use Rattle.b64.specs.B64.{in_alphabet, canonical, decode}
use Rattle.b64.specs.Runs.{run_at, is_complete}
use Rattle.b64.proofs.RunLaws.{Ran, not_whole}
use Rattle.table.specs.Limits.{Profile, is_size, no_profile, profile_of, edition_two}
use Rattle.table.specs.declared.limits.BytesRule.{BytesRule}
use Rattle.table.specs.declared.limits.BytesRule.TheVariants.{Sized, Forbidden}
use Rattle.profile.specs.Fields.{FieldSet, field_set}
use Rattle.profile.specs.declared.fields.NumberFields.{NumberFields}
use Rattle.fast_path.specs.Walk.{taken, written_bytes, bytes_in, pair_in, keys_in, hashes_in, with_strings}
use Rattle.fast_path.specs.WalkSteps.{most, Stored, StoredTwo, contents_for, roomy, StoredAll}
use Rattle.fast_path.specs.Claims.{most_bytes}
use Rattle.fast_path.specs.Contents.{ContentsAnswer}
use Rattle.fast_path.proofs.Chains.{bytes_absent}

-- ---- one byte string

-- the bytes of the characters at a place
abbrev bytes_at : List ℕ → ℕ → List ℕ
bytes_at s at = decode (run_at s at)

pub small : (r : BytesRule) (n : ℕ) → is_size r n ≡ true → n ≤ most r
small (Sized low high) n e = (from_within low.0 high.0 n e).1
small Forbidden n e = let z : ◌≡◌ {A = ℕ} 0 1 = cc in absurd (omega arith)

large : (r : BytesRule) (n : ℕ) → most r < n → is_size r n ≡ false
large (Sized low high) n h = rw (lt-leb n high.0 h) (and-false (leb low.0 n))
large Forbidden n h = refl

module _ (r : BytesRule) (s : List ℕ) (at : ℕ) (out₀ : List ℕ) (from : ℕ) where
  -- the run is no text of so few bytes
  pub bytes_no : from + most r ≤ length out₀ → is_complete (length out₀) from (run_at s at) ≡ false → written_bytes r (drop at s) ≡ none
  bytes_no room h = go (canonical (run_at s at)) refl
    where
      go : (b : Bool) → canonical (run_at s at) ≡ b
          → cond (b && (not (empty (bytes_at s at)) && is_size r (length (bytes_at s at)))) (some (taken (bytes_at s at) 44 (drop (length (run_at s at)) (drop at s)))) none ≡ none
      go true e =
          let l = not_whole (length out₀) from (run_at s at) h e in
          rw (large r (length (bytes_at s at)) (omega arith), and-false)
      go false e = refl

  module _ (out : List ℕ) (next end : ℕ) (k : Ran s at out₀ from out next end) where
    pub bytes-empty : end - from ≡ 0 → written_bytes r (drop at s) ≡ none
    bytes-empty z =
        let l : length (bytes_at s at) ≡ 0 = omega (arith, k.end_is) in
        rw (k.canonical_is, length-empty (bytes_at s at) l)

    pub bytes_unsized : is_size r (end - from) ≡ false → written_bytes r (drop at s) ≡ none
    bytes_unsized z =
        let l : end - from ≡ length (bytes_at s at) = omega (arith, k.end_is) in
        rw (k.canonical_is, rw l at z, and-false)

    pub bytes-sized : at ≤ length s → (end - from ≡ 0 → ⊥) → is_size r (end - from) ≡ true → Stored (written_bytes r (drop at s)) (most r) s out₀ from out next end 44
    bytes-sized h z e =
        let l : end - from ≡ length (bytes_at s at) = omega (arith, k.end_is) in
        let q : is_size r (length (bytes_at s at)) ≡ true = rw l at e in
        record {
          bytes = bytes_at s at;
          found = rw (k.canonical_is, length_filled (bytes_at s at) (λ y. z (omega arith)), q, k.next_is, drop-drop);
          inside = omega (arith, k.next_is, run_length in_alphabet (drop at s), length-drop at s);
          small = small r (length (bytes_at s at)) q;
          end_is = k.end_is;
          stored = k.stored;
        }

-- none stands there
pub bytes-none : (r : BytesRule) (name : List ℕ) (separator : ℕ) (s : List ℕ) (at : ℕ) (out : List ℕ) (from : ℕ) → at ≤ length s
    → starts_with (separator ∷ name) (drop at s) ≡ false → Stored (bytes_in r name separator (drop at s)) (most r) s out from out at from separator
bytes-none r name separator s at out from h e =
    record {
      bytes = [];
      found = bytes_absent r name separator s at e;
      inside = h;
      small = omega arith;
      end_is = omega arith;
      stored = sym (over-nil out from);
    }

-- ---- two byte strings

module _ (a : BytesRule) (a-name : List ℕ) (b : BytesRule) (b-name : List ℕ) (pieces : Bool) (separator : ℕ) (s : List ℕ) (at : ℕ) (out₀ : List ℕ) (from : ℕ) where
  pub no_first : bytes_in a a-name separator (drop at s) ≡ none → pair_in a a-name b b-name pieces separator (drop at s) ≡ none
  unfolding pair_in
  no_first e = rw e

  module _ (out₁ : List ℕ) (next middle then : ℕ) (x : Stored (bytes_in a a-name separator (drop at s)) (most a) s out₀ from out₁ next middle then) (second : ℕ) (q : second ≡ cond pieces 36 then) where
    pub no_second : bytes_in b b-name second (drop next s) ≡ none → pair_in a a-name b b-name pieces separator (drop at s) ≡ none
    unfolding pair_in
    no_second e = rw (x.found, ← q, e)

    pub both_strings : from ≤ length out₀ → (out₂ : List ℕ) (last end m : ℕ) → Stored (bytes_in b b-name second (drop next s)) (most b) s out₁ middle out₂ last end m
        → StoredTwo (pair_in a a-name b b-name pieces separator (drop at s)) (most a + most b) s out₀ from out₂ last middle end
    unfolding pair_in
    both_strings h out₂ last end m y =
        record {
          pair = record { first = x.bytes; second = y.bytes };
          separator = m;
          found = rw (x.found, ← q, y.found);
          inside = y.inside;
          small = omega (arith, x.small, y.small);
          middle_is = x.end_is;
          end_is = y.end_is;
          stored = over_after out₀ out₁ out₂ from middle x.bytes y.bytes h x.stored x.end_is y.stored;
        }

-- ---- all four

module _ (r : Profile) (f : NumberFields) (separator : ℕ) (s : List ℕ) (at : ℕ) (out₀ : List ℕ) where
  module _ (out₁ : List ℕ) (next k d : ℕ) (x : StoredTwo (keys_in r separator (drop at s)) (most r.keyid + most r.«data») s out₀ 0 out₁ next k d) where
    module _ (out₂ : List ℕ) (last e g : ℕ) (y : StoredTwo (hashes_in r (drop next s)) (most r.salt + most r.output) s out₁ d out₂ last e g) where
      found : FieldSet
      found = field_set f x.pair.first x.pair.second y.pair.first y.pair.second

      pub all_strings : roomy r ≤ length out₀ → last ≡ length s → (c : ContentsAnswer) → c ≡ contents_for f k (d - k) (e - d) (g - e)
          → StoredAll (with_strings r (taken f separator (drop at s))) out₀ out₂ c
      unfolding found
      all_strings room h c q =
          let z : drop last s ≡ [] = ap (λ (i : ℕ). drop i s) h ∙ drop-length s in
          let a : k ≡ length x.pair.first = omega (arith, x.middle_is) in
          let b : d - k ≡ length x.pair.second = omega (arith, x.end_is) in
          let i : e - d ≡ length y.pair.first = omega (arith, y.middle_is) in
          let j : g - e ≡ length y.pair.second = omega (arith, y.end_is) in
          let n = length-append x.pair.first x.pair.second in
          record {
            fields = found;
            found = rw (x.found, y.found, z);
            contents_are = q ∙ (λ t. contents_for f (a t) (b t) (i t) (j t));
            room =
                omega (
                  arith,
                  length-append x.pair.first (x.pair.second ++ (y.pair.first ++ y.pair.second)),
                  length-append x.pair.second (y.pair.first ++ y.pair.second),
                  length-append y.pair.first y.pair.second,
                  x.small,
                  y.small,
                );
            stored =
                over_after out₀ out₁ out₂ 0 d (x.pair.first ++ x.pair.second) (y.pair.first ++ y.pair.second) (omega arith) x.stored
                (omega (arith, x.middle_is, x.end_is)) y.stored
                ∙ ap (over out₀ 0) (append_assoc x.pair.first x.pair.second (y.pair.first ++ y.pair.second));
          }

-- the byte strings of every profile of edition two fit
fits-most : Profile → Bool
fits-most r = leb (roomy r) (most_bytes)

all_fit : all fits-most (no_profile ∷ edition_two) ≡ true
unfolding fits-most edition_two
all_fit = refl

pub roomy-two : (k : ℕ) → roomy (profile_of edition_two k) ≤ most_bytes
unfolding fits-most
roomy-two k = leb-true (roomy (profile_of edition_two k)) (most_bytes) (always fits-most no_profile (no_profile ∷ edition_two) refl all_fit k)
