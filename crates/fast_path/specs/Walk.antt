-- The walk: an accepted string read from its first byte to its last, each text taken as it stands next. What it finds is what the rules say
-- (`WalkAgrees`), so no public contract cites the walk itself.
-- Assumes nothing.
use Rattle.std.specs.Prelude.{◌≡◌, ℕ, suc, Bool, true, false, cond, not, ◌&&◌, List, [], ◌∷◌, length, take, drop, ◌==◌, nat_le}
use Rattle.std.proofs.Math.Option.{Option, none, some}
use Rattle.text.specs.Text.{text, empty, find, run, starts_with, and_then}
use Rattle.b64.specs.B64.{in_alphabet, canonical, decode}
use Rattle.decimal.specs.Decimal.{is_digit, is_unsigned, value}
use Rattle.grammar.specs.Bytes.{dollar, comma}
use Rattle.table.specs.Limits.{Profile, in_range, memory_too_little, is_size, version_allowed, id_of, profile_of, largest32, is_required, default_of, is_omitted}
use Rattle.table.specs.declared.limits.NumberRule.{NumberRule}
use Rattle.table.specs.declared.limits.BytesRule.{BytesRule}
use Rattle.table.specs.declared.version.Version.{Version}
use Rattle.table.specs.declared.version.Version.TheVariants.{Absent, Number}
use Rattle.profile.specs.Fields.{FieldSet, field_set}
use Rattle.profile.specs.Reader.{reader_number, fields_of}
use Rattle.profile.specs.declared.fields.NumberFields.{NumberFields}

-- what was taken, the separator that stands before the next item, `$` before the first and a comma before the others, and the text after it
pub record Taken (A : Type 0) : Type 0 where
  pub found : A
  pub separator : ℕ
  pub rest : List ℕ

abbrev pub taken : {A : Type 0} → A → ℕ → List ℕ → Taken A
taken found separator rest = record { found = found; separator = separator; rest = rest }

-- ---- one number

-- the digits at the start, where they are a decimal of 32 bits; and the text after them
unfoldable pub leading_number : List ℕ → Option (ℕ × List ℕ)
leading_number t = let d = run is_digit t in cond (is_unsigned d && nat_le (value d) largest32) (some (value d, drop (length d) t)) none

-- a number that is in range and not to be left out
abbrev pub written_number : NumberRule → ℕ × List ℕ → Option (Taken ℕ)
written_number r x = cond (in_range r x.0 && not (is_omitted r x.0)) (some (taken x.0 comma x.1)) none

-- a number that doesn't stand in the string
abbrev pub omitted_number : NumberRule → ℕ → List ℕ → Option (Taken ℕ)
omitted_number r separator t = cond (is_required r) none (some (taken (default_of r) separator t))

-- a number after its separator and its name, or left out
unfoldable pub number_in : NumberRule → List ℕ → ℕ → List ℕ → Option (Taken ℕ)
number_in r name separator t =
    cond (starts_with (separator ∷ name) t) (and_then (leading_number (drop (suc (length name)) t)) (written_number r)) (omitted_number r separator t)

-- ---- one byte string

-- the characters at the start, where they are the text of bytes of a permitted size, and at least one
abbrev pub written_bytes : BytesRule → List ℕ → Option (Taken (List ℕ))
written_bytes r t =
    let u = run in_alphabet t in
    cond (canonical u && (not (empty (decode u)) && is_size r (length (decode u)))) (some (taken (decode u) comma (drop (length u) t))) none

-- a byte string after its separator and its name, or none
unfoldable pub bytes_in : BytesRule → List ℕ → ℕ → List ℕ → Option (Taken (List ℕ))
bytes_in r name separator t =
    cond (starts_with (separator ∷ name) t) (written_bytes r (drop (suc (length name)) t)) (some (taken [] separator t))

-- ---- the version

abbrev pub allowed : List ℕ → Version → List ℕ → Option (Taken Version)
allowed vs v t = cond (version_allowed vs v) (some (taken v dollar t)) none

-- a version after `$v=`, or none
unfoldable pub version_in : List ℕ → List ℕ → Option (Taken Version)
version_in vs t =
    cond (starts_with (text "$v=") t) (and_then (leading_number (drop 3 t)) (λ (x : ℕ × List ℕ). allowed vs (Number x.0) x.1)) (allowed vs Absent t)

-- ---- m, t and p, and m at least 8p

unfoldable pub numbers_in : Profile → ℕ → Version → List ℕ → Option (Taken NumberFields)
numbers_in r k v s =
    and_then (number_in r.m (text "m=") dollar s) (λ (m : Taken ℕ).
    and_then (number_in r.t (text "t=") m.separator m.rest) (λ (t : Taken ℕ).
    and_then (number_in r.p (text "p=") t.separator t.rest) (λ (p : Taken ℕ).
    cond (memory_too_little m.found p.found) none
    (some (taken (record { id = k; version = v; m = m.found; t = t.found; p = p.found }) p.separator p.rest)))))

-- ---- the four byte strings, up to the end

pub record Pair : Type 0 where
  pub first : List ℕ
  pub second : List ℕ

-- two byte strings, one after the other; the second has its own `$` where they are pieces
unfoldable pub pair_in : BytesRule → List ℕ → BytesRule → List ℕ → Bool → ℕ → List ℕ → Option (Taken Pair)
pair_in a a-name b b-name pieces separator s =
    and_then (bytes_in a a-name separator s) (λ (x : Taken (List ℕ)).
    and_then (bytes_in b b-name (cond pieces dollar x.separator) x.rest) (λ (y : Taken (List ℕ)).
    some (taken (record { first = x.found; second = y.found }) y.separator y.rest)))

abbrev pub keys_in : Profile → ℕ → List ℕ → Option (Taken Pair)
keys_in r separator s = pair_in r.keyid (text "keyid=") r.«data» (text "data=") false separator s

abbrev pub hashes_in : Profile → List ℕ → Option (Taken Pair)
hashes_in r s = pair_in r.salt [] r.output [] true dollar s

-- nothing is left after them
abbrev pub with_strings : Profile → Taken NumberFields → Option FieldSet
with_strings r n =
    and_then (keys_in r n.separator n.rest) (λ (k : Taken Pair).
    and_then (hashes_in r k.rest) (λ (h : Taken Pair).
    cond (empty h.rest) (some (field_set n.found k.found.first k.found.second h.found.first h.found.second)) none))

-- ---- the whole

-- version and numbers after the id with the number k
unfoldable pub head_in : Profile → ℕ → List ℕ → Option (Taken NumberFields)
head_in r k s = and_then (version_in r.versions s) (λ (v : Taken Version). numbers_in r k v.found v.rest)

abbrev pub fields_after_id : Profile → ℕ → List ℕ → Option FieldSet
fields_after_id r k s = cond r.known (and_then (head_in r k s) (with_strings r)) none

-- the fields that a string says, where it is written as the writer writes them
unfoldable pub walked : List Profile → List ℕ → Option FieldSet
walked e s =
    let t = drop 1 s in
    let k = id_of e (take (find dollar t) t) in
    cond (starts_with (text "$") s) (fields_after_id (profile_of e k) k (drop (find dollar t) t)) none

-- the walk finds the fields of each accepted string, and nothing in any other
abbrev pub WalkAgrees : List Profile → Type 0
WalkAgrees e = (s : List ℕ) → walked e s ≡ cond (reader_number e s == 0) (some (fields_of e s)) none
