-- What the tests of specs/Sound.antt say of a column; and the ids of an edition: the number of an id text and the column at a number.
-- Assumes nothing.
use Prim.Native.Nat.{ℕ, zero, suc, ◌<◌}
use mathlib.Core.Bool.{Bool, true, false, not, cond, ◌&&◌, false≢true}
use mathlib.Core.List.{List, [], ◌∷◌}
use mathlib.Core.Path.{◌≡◌, refl, sym, subst}
use native.Mathlib.Omega.{arith}
use lib.ListN.{get_or, length}
use borrow.Author.Tests.{eqb-true}
use Rattle.text.specs.Text.{same, every}
use Rattle.text.proofs.Tests.{both, implied, is_false}
use Rattle.text.proofs.Lists.{same_eq}
use Rattle.text.proofs.Table.{every_at}
use Rattle.grammar.specs.Bytes.{is_name_byte, is_text}
use Rattle.grammar.specs.Rules.{is_name}
use Rattle.table.specs.Limits.{Profile, in_range, version_allowed, next, id_of, no_profile, profile_of, edition_two, memory_too_little}
use Rattle.profile.specs.Sound.{sound_number, sound_bytes, sound_output, sound_versions, sound_at, sound, defaults_at, defaults_sound}

-- ---- a test on each column

-- only a column of the table is known
known_inside : (rs : List Profile) (k : ℕ) → (get_or rs k no_profile).known ≡ true → k < length rs
known_inside [] k h = absurd (false≢true h)
known_inside (r ∷ rs) zero h = omega arith
known_inside (r ∷ rs) (suc k) h = let q = known_inside rs k h in omega arith

pub at_id : (f : ℕ → Profile → Bool) (e : List Profile) → every f 1 e ≡ true → (k : ℕ) → (profile_of e k).known ≡ true → f k (profile_of e k) ≡ true
at_id f e t zero h = absurd (false≢true h)
at_id f e t (suc k) h = subst (λ (i : ℕ). f i (get_or e k no_profile) ≡ true) (omega arith) (every_at f no_profile e 1 t k (known_inside e k h))

-- ---- the tests of an edition

-- what the test says of the column r at k
pub record SoundColumn (e : List Profile) (k : ℕ) (r : Profile) : Type 0 where
  pub found : id_of e r.name ≡ k
  pub named : is_name r.name ≡ true
  pub versions : sound_versions r.versions ≡ true
  pub m : sound_number r.m ≡ true
  pub t : sound_number r.t ≡ true
  pub p : sound_number r.p ≡ true
  pub keyid : sound_bytes r.keyid ≡ true
  pub «data» : sound_bytes r.«data» ≡ true
  pub salt : sound_bytes r.salt ≡ true
  pub output : sound_output r.output ≡ true

sound-column : (e : List Profile) (k : ℕ) (r : Profile) → r.known ≡ true → sound_at e k r ≡ true → SoundColumn e k r
sound-column e k r known h₀ =
    let h₁ = both _ _ (implied _ _ h₀ known) in
    let h₂ = both _ _ h₁.1 in
    let h₃ = both _ _ h₂.1 in
    let h₄ = both _ _ h₃.1 in
    let h₅ = both _ _ h₄.1 in
    let h₆ = both _ _ h₅.1 in
    let h₇ = both _ _ h₆.1 in
    let h₈ = both _ _ h₇.1 in
    let h₉ = both (sound_bytes r.salt) (sound_output r.output) h₈.1 in
    record {
      found = eqb-true (id_of e r.name) k h₁.0;
      named = h₂.0;
      versions = h₃.0;
      m = h₄.0;
      t = h₅.0;
      p = h₆.0;
      keyid = h₇.0;
      «data» = h₈.0;
      salt = h₉.0;
      output = h₉.1;
    }

pub sound-column_at : (e : List Profile) → sound e ≡ true → (k : ℕ) → (profile_of e k).known ≡ true → SoundColumn e k (profile_of e k)
unfolding sound
sound-column_at e s k h = sound-column e k (profile_of e k) h (at_id (sound_at e) e s k h)

-- what the second test says: the short writer's numbers are permitted
pub record SoundDefaults (r : Profile) : Type 0 where
  pub version : version_allowed r.versions r.defaults.version ≡ true
  pub m : in_range r.m r.defaults.m ≡ true
  pub t : in_range r.t r.defaults.t ≡ true
  pub p : in_range r.p r.defaults.p ≡ true
  pub lanes : memory_too_little r.defaults.m r.defaults.p ≡ false

sound_defaults : (k : ℕ) (r : Profile) → r.known ≡ true → defaults_at k r ≡ true → SoundDefaults r
sound_defaults k r known h₀ =
    let u = r.defaults in
    let h₁ = both (version_allowed r.versions u.version) _ (implied r.known _ h₀ known) in
    let h₂ = both (in_range r.m u.m) _ h₁.1 in
    let h₃ = both (in_range r.t u.t) _ h₂.1 in
    let h₄ = both (in_range r.p u.p) (not (memory_too_little u.m u.p)) h₃.1 in
    record { version = h₁.0; m = h₂.0; t = h₃.0; p = h₄.0; lanes = is_false (memory_too_little u.m u.p) h₄.1 }

pub defaults_at_lem : (e : List Profile) → defaults_sound e ≡ true → (k : ℕ) → (profile_of e k).known ≡ true → SoundDefaults (profile_of e k)
unfolding defaults_sound
defaults_at_lem e s k h = sound_defaults k (profile_of e k) h (at_id defaults_at e s k h)

-- ---- ids and their numbers

-- an id text whose column is known is the name of that column
pub name_of : (e : List Profile) (s : List ℕ) → (profile_of e (id_of e s)).known ≡ true → (profile_of e (id_of e s)).name ≡ s
name_of [] s h = absurd (false≢true h)
name_of (r ∷ rs) s h = go (r.known && same s r.name) refl (id_of rs s) h (name_of rs s)
  where
    go : (b : Bool) → (r.known && same s r.name) ≡ b → (k : ℕ) → (profile_of (r ∷ rs) (cond b 1 (next k))).known ≡ true
        → ((profile_of rs k).known ≡ true → (profile_of rs k).name ≡ s) → (profile_of (r ∷ rs) (cond b 1 (next k))).name ≡ s
    go true q k h f = sym (same_eq s r.name (both r.known (same s r.name) q).1)
    go false q zero h f = absurd (false≢true h)
    go false q (suc k) h f = f h

pub edition_two-sound : sound edition_two ≡ true
unfolding sound edition_two is_name_byte is_text
edition_two-sound = refl

pub edition_two_defaults : defaults_sound edition_two ≡ true
unfolding defaults_sound edition_two
edition_two_defaults = refl
