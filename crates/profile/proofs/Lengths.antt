-- The length of the string that fields are written to, the most that a column allows, and the least of a hash string.
-- Assumes nothing.
use Prim.Native.Nat.{ℕ, ◌+◌, ◌/◌, ◌≤◌, max}
use mathlib.Core.Bool.{Bool, true, false, not, cond, ◌&&◌, ◌||◌, true≢false, false≢true}
use mathlib.Core.List.{List, [], ◌∷◌}
use mathlib.Core.Option.{none, some}
use mathlib.Core.Path.{◌≡◌, refl, ap}
use native.Mathlib.Omega.{arith}
use lib.Dec.{leb, eqb}
use lib.ListN.{length}
use borrow.Author.Tests.{leb-true, eqb-true}
use Rattle.text.specs.Text.{has, empty, every}
use Rattle.text.proofs.Tests.{both, from_within}
use Rattle.b64.specs.Lengths.{chars_of}
use Rattle.b64.proofs.B64Laws.{length_encode}
use Rattle.decimal.specs.Decimal.{digits_within, digits}
use Rattle.decimal.proofs.DecimalLaws.{by_tens, length_small, length_step, length_pos}
use Rattle.table.specs.Limits.{Profile, in_range, version_allowed, edition_two, longest_permitted}
use Rattle.table.specs.declared.limits.NumberRule.{NumberRule}
use Rattle.table.specs.declared.limits.NumberRule.TheVariants.{Required, Defaulted, Constant}
use Rattle.table.specs.declared.limits.BytesRule.{BytesRule}
use Rattle.table.specs.declared.limits.BytesRule.TheVariants.{Sized, Forbidden}
use Rattle.table.specs.declared.version.Version.{Version}
use Rattle.table.specs.declared.version.Version.TheVariants.{Absent, Number}
use Rattle.profile.specs.Fields.{FieldSet, write_number, write_bytes, write_version}
use Rattle.profile.specs.Writer.{bytes_allowed, Allows, formatted}
use Rattle.profile.specs.PieceTexts.{tagged_length}
use Rattle.profile.proofs.SoundLaws.{at_id}
use Rattle.profile.proofs.Allows.{here}
use Rattle.profile.proofs.Texts.{formatted-length}

-- ---- the bounds of each text, by its rule

-- a larger number has no fewer digits
digits_longer : (n high : ℕ) → n ≤ high → length (digits n) ≤ length (digits high)
digits_longer =
    by_tens (λ n. (high : ℕ) → n ≤ high → length (digits n) ≤ length (digits high))
    (λ n h high l. omega (arith, length_small n h, length_pos high))
    (λ n h longer high l. omega (arith, length_step n h, length_step high (omega arith), longer (high / 10) (omega arith)))

abbrev most_number : ℕ → NumberRule → ℕ
most_number before (Required low high) = before + length (digits high)
most_number before (Defaulted low high default) = before + length (digits high)
most_number before (Constant value) = 0

abbrev least_number : ℕ → NumberRule → ℕ
least_number before (Required low high) = before + length (digits low)
least_number before (Defaulted low high default) = 0
least_number before (Constant value) = 0

number_cost : (before : ℕ) (r : NumberRule) (n : ℕ) → in_range r n ≡ true
    → (tagged_length before (write_number r n) ≤ most_number before r) × (least_number before r ≤ tagged_length before (write_number r n))
number_cost before (Required low high) n e =
    let w = from_within low high n e in
    (omega (arith, digits_longer n high w.1), omega (arith, digits_longer low n w.0))
number_cost before (Defaulted low high default) n e = (go (eqb n default), omega arith)
  where
    go : (b : Bool) → tagged_length before (cond b none (some (digits n))) ≤ before + length (digits high)
    go true = omega arith
    go false = omega (arith, digits_longer n high (from_within low high n e).1)
number_cost before (Constant value) n e = (omega arith, omega arith)

abbrev most_bytes : ℕ → BytesRule → ℕ
most_bytes before (Sized low high) = before + chars_of high.0
most_bytes before Forbidden = 0

abbrev least_bytes : ℕ → BytesRule → ℕ
least_bytes before (Sized low high) = before + chars_of low.0
least_bytes before Forbidden = 0

-- the least is of one that is there
bytes_cost : (before : ℕ) (r : BytesRule) (bs : List ℕ) → bytes_allowed r bs ≡ true
    → (tagged_length before (write_bytes bs) ≤ most_bytes before r) × (empty bs ≡ false → least_bytes before r ≤ tagged_length before (write_bytes bs))
bytes_cost before r [] e = (omega arith, λ h. absurd (true≢false h))
bytes_cost before (Sized low high) (b ∷ bs) e =
    let w = from_within low.0 high.0 (length (b ∷ bs)) e in
    let l = length_encode (b ∷ bs) in
    (omega arith, λ h. omega arith)
bytes_cost before Forbidden (b ∷ bs) e = absurd (false≢true e)

abbrev most_version : List ℕ → ℕ
most_version [] = 0
most_version (v ∷ vs) = max (3 + length (digits v)) (most_version vs)

listed-most : (vs : List ℕ) (n : ℕ) → has n vs ≡ true → 3 + length (digits n) ≤ most_version vs
listed-most [] n e = absurd (false≢true e)
listed-most (v ∷ vs) n e = go (eqb v n) refl e (listed-most vs n)
  where
    go : (b : Bool) → eqb v n ≡ b → (b || has n vs) ≡ true → (has n vs ≡ true → 3 + length (digits n) ≤ most_version vs)
        → 3 + length (digits n) ≤ max (3 + length (digits v)) (most_version vs)
    go true q e h = let k : length (digits v) ≡ length (digits n) = ap (λ (i : ℕ). length (digits i)) (eqb-true v n q) in omega arith
    go false q e h = let k = h e in omega arith

version_most : (r : Profile) (v : Version) → version_allowed r.versions v ≡ true → tagged_length 1 (write_version v) ≤ most_version r.versions
version_most r Absent e = omega arith
version_most r (Number n) e = let h = listed-most r.versions n e in omega arith

-- ---- the bounds of a string, by its column

unfoldable pub longest : Profile → ℕ
longest r =
    1 + length r.name + most_version r.versions
    + most_number 3 r.m + most_number 3 r.t + most_number 3 r.p
    + most_bytes 7 r.keyid + most_bytes 6 r.«data»
    + most_bytes 1 r.salt + most_bytes 1 r.output

-- of a hash string
unfoldable pub shortest : Profile → ℕ
shortest r =
    1 + length r.name
    + least_number 3 r.m + least_number 3 r.t + least_number 3 r.p
    + least_bytes 1 r.salt + least_bytes 1 r.output

-- an output stands after a salt
salted : (salt output : List ℕ) → (empty salt && not (empty output)) ≡ false → empty output ≡ false → empty salt ≡ false
salted [] output e h = absurd (true≢false (rw h at e))
salted (b ∷ bs) output e h = refl

pub bounds : (e : List Profile) (f : FieldSet) → Allows (here e f) f
    → (length (formatted e f) ≤ longest (here e f)) × (empty f.output ≡ false → shortest (here e f) ≤ length (formatted e f))
unfolding longest shortest
bounds e f h =
    let n = f.numbers in
    let r = here e f in
    let l = formatted-length e f in
    let v = version_most r n.version h.version in
    let m = number_cost 3 r.m n.m h.m in
    let t = number_cost 3 r.t n.t h.t in
    let p = number_cost 3 r.p n.p h.p in
    let keyid = bytes_cost 7 r.keyid f.keyid h.keyid in
    let «data» = bytes_cost 6 r.«data» f.«data» h.«data» in
    let salt = bytes_cost 1 r.salt f.salt h.salt in
    let output = bytes_cost 1 r.output f.output h.output in
    (omega arith, λ o. omega (arith, salt.1 (salted f.salt f.output h.output_with_salt o), output.1 o))

-- ---- numbers for the bounds, where a test of the edition's columns shows them

-- the column at k keeps to them
abbrev pub keeps_to : (ℕ → ℕ) → (ℕ → ℕ) → ℕ → Profile → Bool
keeps_to most least k r = leb (longest r) (most k) && leb (least k) (shortest r)

pub bounds_at : (e : List Profile) (most least : ℕ → ℕ) → every (keeps_to most least) 1 e ≡ true → (f : FieldSet) → Allows (here e f) f
    → (length (formatted e f) ≤ most f.numbers.id) × (empty f.output ≡ false → least f.numbers.id ≤ length (formatted e f))
bounds_at e most least kept f h =
    let k = f.numbers.id in
    let r = here e f in
    let q = both (leb (longest r) (most k)) (leb (least k) (shortest r)) (at_id (keeps_to most least) e kept k h.id) in
    let b = bounds e f h in
    (omega (arith, leb-true (longest r) (most k) q.0), λ o. omega (arith, leb-true (least k) (shortest r) q.1, b.1 o))

-- edition two: ids 1 to 3 are Argon2's
abbrev pub most_two : ℕ → ℕ
most_two k = cond (leb k 3) longest_permitted 171

abbrev pub least_two : ℕ → ℕ
least_two k = cond (leb k 3) 49 33

kept_two : every (keeps_to most_two least_two) 1 edition_two ≡ true
unfolding edition_two longest shortest digits digits_within
kept_two = refl

pub bounds_two : (f : FieldSet) → Allows (here edition_two f) f
    → (length (formatted edition_two f) ≤ most_two f.numbers.id) × (empty f.output ≡ false → least_two f.numbers.id ≤ length (formatted edition_two f))
bounds_two = bounds_at edition_two most_two least_two kept_two

-- every string that the writer does not refuse fits the room
pub most_room : (f : FieldSet) → Allows (here edition_two f) f → length (formatted edition_two f) ≤ longest_permitted
most_room f h = go (leb f.numbers.id 3) (bounds_two f h).0
  where
    go : (b : Bool) → length (formatted edition_two f) ≤ cond b longest_permitted 171 → length (formatted edition_two f) ≤ longest_permitted
    go true l = l
    go false l = omega arith
