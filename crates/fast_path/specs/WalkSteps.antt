-- What the private steps of the walk promise each other: places in the string for the texts of the walk, and the bytes that they leave in a
-- buffer. Nothing here is a rule: no public contract cites it. `Answer` is the `Option` that a function gives, and `Option` the one of the texts.
-- Assumes nothing.
use Rattle.std.specs.Prelude.{◌≡◌, ℕ, ◌+◌, ◌≤◌, cond, List, ◌++◌, length, take, drop, ◌==◌, Option as Answer, Some, None}
use Rattle.std.proofs.Math.Option.{Option, none, some}
use Rattle.text.specs.Place.{over, put}
use Rattle.text.specs.Text.{run}
use Rattle.decimal.specs.Decimal.{is_digit, value}
use Rattle.grammar.specs.Bytes.{dollar}
use Rattle.table.specs.Limits.{Profile}
use Rattle.table.specs.declared.limits.BytesRule.{BytesRule}
use Rattle.table.specs.declared.limits.BytesRule.TheVariants.{Sized, Forbidden}
use Rattle.table.specs.declared.version.Version.{Version}
use Rattle.profile.specs.Fields.{FieldSet}
use Rattle.profile.specs.declared.fields.NumberFields.{NumberFields}
use Rattle.fast_path.specs.Contents.{joined_bytes, ContentsAnswer, accepted_contents, refused_contents}
use Rattle.fast_path.specs.Walk.{Taken, taken, leading_number, Pair}
use Rattle.fast_path.specs.declared.contents.Contents.{Contents}
use Rattle.fast_path.specs.declared.leading_number.LeadingNumber.{LeadingNumber}
use Rattle.fast_path.specs.declared.items.NumberItem.{NumberItem}
use Rattle.fast_path.specs.declared.items.BytesItem.{BytesItem}
use Rattle.fast_path.specs.declared.strings.Two.{Two}
use Rattle.fast_path.specs.declared.walk.VersionItem.{VersionItem}
use Rattle.fast_path.specs.declared.numbers.Head.{Head}

-- ---- numbers

-- the digits at a place
abbrev pub digits_at : List ℕ → ℕ → List ℕ
digits_at s at = run is_digit (drop at s)

-- n is the number of the digits at a place, and next the place after them
pub record Counted (s : List ℕ) (at n next : ℕ) : Type 0 where
  pub number : n ≡ value (digits_at s at)
  pub next_is : next ≡ at + length (digits_at s at)

abbrev pub LeadingNumberIs : List ℕ → ℕ → Answer LeadingNumber → Type 0
LeadingNumberIs s at None = leading_number (drop at s) ≡ none
LeadingNumberIs s at (Some n) = (leading_number (drop at s) ≡ some (n.value, drop n.next s)) × (n.next ≤ length s)

abbrev pub NumberIs : Option (Taken ℕ) → List ℕ → Answer NumberItem → Type 0
NumberIs o s None = o ≡ none
NumberIs o s (Some n) = (o ≡ some (taken n.value n.separator (drop n.next s))) × (n.next ≤ length s)

abbrev pub VersionIs : Option (Taken Version) → List ℕ → Answer VersionItem → Type 0
VersionIs o s None = o ≡ none
VersionIs o s (Some v) = (o ≡ some (taken v.version dollar (drop v.next s))) × (v.next ≤ length s)

abbrev pub HeadIs : Option (Taken NumberFields) → List ℕ → Answer Head → Type 0
HeadIs o s None = o ≡ none
HeadIs o s (Some h) = (o ≡ some (taken h.fields h.separator (drop h.next s))) × (h.next ≤ length s)

-- ---- byte strings

-- the most bytes that a rule permits
abbrev pub most : BytesRule → ℕ
most (Sized low high) = high.0
most Forbidden = 0

-- a byte string was taken, at most `high` bytes, and stands in the buffer
pub record Stored (o : Option (Taken (List ℕ))) (high : ℕ) (s out₀ : List ℕ) (from : ℕ) (out : List ℕ) (next end separator : ℕ) : Type 0 where
  pub bytes : List ℕ
  pub found : o ≡ some (taken bytes separator (drop next s))
  pub inside : next ≤ length s
  pub small : length bytes ≤ high
  pub end_is : end ≡ from + length bytes
  pub stored : out ≡ over out₀ from bytes

abbrev pub BytesAre : Option (Taken (List ℕ)) → ℕ → List ℕ → List ℕ → ℕ → List ℕ → Answer BytesItem → Type 0
BytesAre o high s out₀ from out None = o ≡ none
BytesAre o high s out₀ from out (Some b) = Stored o high s out₀ from out b.next b.end b.separator

-- two byte strings were taken, one after the other
pub record StoredTwo (o : Option (Taken Pair)) (high : ℕ) (s out₀ : List ℕ) (from : ℕ) (out : List ℕ) (next middle end : ℕ) : Type 0 where
  pub pair : Pair
  pub separator : ℕ
  pub found : o ≡ some (taken pair separator (drop next s))
  pub inside : next ≤ length s
  pub small : length pair.first + length pair.second ≤ high
  pub middle_is : middle ≡ from + length pair.first
  pub end_is : end ≡ middle + length pair.second
  pub stored : out ≡ over out₀ from (pair.first ++ pair.second)

abbrev pub TwoAre : Option (Taken Pair) → ℕ → List ℕ → List ℕ → ℕ → List ℕ → Answer Two → Type 0
TwoAre o high s out₀ from out None = o ≡ none
TwoAre o high s out₀ from out (Some t) = StoredTwo o high s out₀ from out t.next t.middle t.end

-- ---- the whole

-- 01's kind, by the lengths of salt and output
abbrev pub kind_for : ℕ → ℕ → ℕ
kind_for salt output = cond (output == 0) (cond (salt == 0) 1 2) 3

abbrev pub contents_for : NumberFields → ℕ → ℕ → ℕ → ℕ → ContentsAnswer
contents_for f keyid «data» salt output =
    record {
      reading = record { number = 0; kind = kind_for salt output; fields = f };
      keyid = record { 0 = keyid };
      «data» = record { 0 = «data» };
      salt = record { 0 = salt };
      output = record { 0 = output };
    }

-- room for all four byte strings
abbrev pub roomy : Profile → ℕ
roomy r = most r.keyid + most r.«data» + most r.salt + most r.output

-- the buffer that the walk decodes into
abbrev pub buffer_length : ℕ
buffer_length = 152

-- the answer that goes with fields: accepted, and each byte string's length
abbrev pub contents_of : FieldSet → ContentsAnswer
contents_of f =
    contents_for f.numbers (length f.keyid) (length f.«data») (length f.salt) (length f.output)

-- the fields were found, and their byte strings stand at the start of the buffer
pub record StoredAll (o : Option FieldSet) (out₀ out : List ℕ) (c : ContentsAnswer) : Type 0 where
  pub fields : FieldSet
  pub found : o ≡ some fields
  pub contents_are : c ≡ contents_of fields
  pub room : length (joined_bytes fields) ≤ length out₀
  pub stored : out ≡ over out₀ 0 (joined_bytes fields)

abbrev pub FoundIn : Option FieldSet → List ℕ → List ℕ → Answer Contents → Type 0
FoundIn o out₀ out None = o ≡ none
FoundIn o out₀ out (Some c) = StoredAll o out₀ out (accepted_contents c)

-- ---- into the caller's buffer

abbrev pub total : ContentsAnswer → ℕ
total c = c.keyid.0 + c.«data».0 + c.salt.0 + c.output.0

-- the first bytes of out that c counts, put from the place on; or the refusal
pub record StoredIs (c : ContentsAnswer) (out buf₀ : List ℕ) (at : ℕ) (buf : List ℕ) (r : ContentsAnswer) : Type 0 where
  pub answer : r ≡ cond ((put buf₀ at (take (total c) out)).number == 0) c (refused_contents (put buf₀ at (take (total c) out)).number)
  pub buffer : buf ≡ (put buf₀ at (take (total c) out)).buffer
