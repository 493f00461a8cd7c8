-- The steps of the walk, one after the other: what each leaf finds makes up what the whole finds.
-- Assumes nothing.
use Rattle.std.proofs.Common.{◌≡◌, ℕ, suc, ◌+◌, ◌-◌, ◌<◌, true, false, List, [], ◌∷◌, length, get_or, take, drop, refl, arith, drop-drop, ne_eqb}
use mathlib.Core.Option.{none, some}
use Rattle.text.specs.Text.{text, find, next_at, starts_with, and_then}
use Rattle.text.proofs.Prefixes.{rest_at}
use Rattle.table.specs.Limits.{Profile, id_of, profile_of}
use Rattle.table.specs.declared.limits.NumberRule.{NumberRule}
use Rattle.table.specs.declared.limits.BytesRule.{BytesRule}
use Rattle.table.specs.declared.version.Version.{Version}
use Rattle.table.specs.declared.version.Version.TheVariants.{Absent, Number}
use Rattle.fast_path.specs.Walk.{taken, leading_number, written_number, omitted_number, number_in, written_bytes, bytes_in, allowed, version_in, numbers_in, head_in, fields_after_id, walked}

-- ---- a number

module _ (r : NumberRule) (name : List ℕ) (separator : ℕ) (s : List ℕ) (at : ℕ) where
  pub number_there : starts_with (separator ∷ name) (drop at s) ≡ true
      → number_in r name separator (drop at s) ≡ and_then (leading_number (drop (at + 1 + length name) s)) (written_number r)
  unfolding number_in
  number_there e = rw (e, rest_at s name at)

  pub number_absent : starts_with (separator ∷ name) (drop at s) ≡ false → number_in r name separator (drop at s) ≡ omitted_number r separator (drop at s)
  unfolding number_in
  number_absent e = rw e

-- ---- a byte string

module _ (r : BytesRule) (name : List ℕ) (separator : ℕ) (s : List ℕ) (at : ℕ) where
  pub bytes_there : starts_with (separator ∷ name) (drop at s) ≡ true → bytes_in r name separator (drop at s) ≡ written_bytes r (drop (at + 1 + length name) s)
  unfolding bytes_in
  bytes_there e = rw (e, rest_at s name at)

  pub bytes_absent : starts_with (separator ∷ name) (drop at s) ≡ false → bytes_in r name separator (drop at s) ≡ some (taken [] separator (drop at s))
  unfolding bytes_in
  bytes_absent e = rw e

-- ---- the version

module _ (vs s : List ℕ) (at : ℕ) (e : starts_with (text "$v=") (drop at s) ≡ true) where
  pub version_none : leading_number (drop (at + 3) s) ≡ none → version_in vs (drop at s) ≡ none
  unfolding version_in
  version_none q = rw (e, drop-drop 3 at s, q)

  pub version_there : (n : ℕ) (t : List ℕ) → leading_number (drop (at + 3) s) ≡ some (n, t) → version_in vs (drop at s) ≡ allowed vs (Number n) t
  unfolding version_in
  version_there n t q = rw (e, drop-drop 3 at s, q)

module _ (vs s : List ℕ) (at : ℕ) where
  pub version_absent : starts_with (text "$v=") (drop at s) ≡ false → version_in vs (drop at s) ≡ allowed vs Absent (drop at s)
  unfolding version_in
  version_absent e = rw e

-- ---- version and numbers

module _ (r : Profile) (k : ℕ) (s : List ℕ) where
  pub head_none : version_in r.versions s ≡ none → head_in r k s ≡ none
  unfolding head_in
  head_none q = rw q

  pub head_some : (v : Version) (a : ℕ) (t : List ℕ) → version_in r.versions s ≡ some (taken v a t) → head_in r k s ≡ numbers_in r k v t
  unfolding head_in
  head_some v a t q = rw q

-- ---- the whole

-- no `$` stands first
pub walked_other : (e : List Profile) (s : List ℕ) → (0 < length s → get_or s 0 0 ≡ 36 → ⊥) → walked e s ≡ none
unfolding walked
walked_other e [] n = refl
walked_other e (c ∷ s) n = rw (ne_eqb c 36 (n (omega arith)))

pub walked_id : (e : List Profile) (s : List ℕ) (end : ℕ) → 0 < length s → get_or s 0 0 ≡ 36 → end ≡ next_at 36 s 1
    → let k = id_of e (take (end - 1) (drop 1 s)) in walked e s ≡ fields_after_id (profile_of e k) k (drop end s)
unfolding walked
walked_id e [] end h n q = absurd (omega arith)
walked_id e (c ∷ s) end h n q =
    let a : end - 1 ≡ find 36 s = omega arith in
    let b : end ≡ suc (find 36 s) = omega arith in
    rw (n, a, b)
