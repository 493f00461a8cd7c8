-- One number, one byte string and the version: what is read back from what is written, and the other way round.
-- Assumes nothing.
use Prim.Native.Nat.{ℕ, suc, ◌+◌, ◌/◌, ◌%◌, ◌≤◌}
use mathlib.Core.Bool.{Bool, true, false, not, cond, or-true, true≢false, false≢true}
use mathlib.Core.List.{List, [], ◌∷◌}
use mathlib.Core.Option.{none, some}
use mathlib.Core.Path.{◌≡◌, refl, sym, ◌∙◌, ap}
use native.Mathlib.Omega.{arith}
use lib.Dec.{leb, eqb}
use lib.ListN.{length}
use borrow.Author.Tests.{eqb-true, eq-eqb, leb-true}
use Rattle.text.specs.Text.{within, all, empty, violates, is_byte}
use Rattle.text.proofs.Tests.{both, and-true, not_of_true, is_true, is_false, from_within, to_within}
use Rattle.text.proofs.Lists.{all_append, all-has}
use Rattle.b64.specs.Lengths.{chars_of}
use Rattle.b64.specs.B64.{canonical, decode, encode}
use Rattle.b64.proofs.B64Laws.{encode_decode, decode_encode, canonical_encode, bytes_decode, length_encode}
use Rattle.decimal.specs.Decimal.{digits}
use Rattle.decimal.specs.Numerals.{limited_reading, limited_number, limited_value}
use Rattle.decimal.specs.declared.error.DecimalError.{DecimalError}
use Rattle.decimal.specs.declared.error.DecimalError.TheVariants.{Malformed, Outside}
use Rattle.std.specs.Prelude.{Result, Ok, Err}
use Rattle.decimal.proofs.DecimalLaws.{by_tens, digits_small, digits_step, length_pos, length_digits}
use Rattle.decimal.proofs.NumeralLaws.{limited_digits, digits_limited}
use Rattle.grammar.specs.Bytes.{is_value_byte, is_text}
use Rattle.grammar.specs.Limits.{longest_value, longest_output, largest_version}
use Rattle.grammar.specs.Pieces.{OptionalText, is_version_piece}
use Rattle.grammar.specs.Rules.{is_value, version_reading, is_version, is_output}
use Rattle.grammar.proofs.ValueBytes.{canonical-values}
use Rattle.table.specs.Limits.{in_range, version_allowed, largest32, missing_or_unknown_number}
use Rattle.table.specs.declared.limits.NumberRule.{NumberRule}
use Rattle.table.specs.declared.limits.NumberRule.TheVariants.{Required, Defaulted, Constant}
use Rattle.table.specs.declared.limits.BytesRule.{BytesRule}
use Rattle.table.specs.declared.limits.BytesRule.TheVariants.{Sized, Forbidden}
use Rattle.table.specs.declared.version.Version.{Version}
use Rattle.table.specs.declared.version.Version.TheVariants.{Absent, Number}
use Rattle.profile.specs.Fields.{is_number, read_number, written_out, write_number, unknown_bytes, is_decoded_size, is_bytes, read_bytes, write_bytes, read_version, write_version}
use Rattle.profile.specs.Writer.{bytes_allowed}
use Rattle.profile.specs.Sound.{sound_number, text_within, sound_versions}

-- ---- texts of numbers, over any limits

-- a text that is read says a number within the limits, and is that number's text
limited_is : (low high : ℕ) (t : List ℕ) (r : Result ℕ DecimalError) → limited_reading low high t ≡ r → eqb (limited_number r) 0 ≡ true
    → (within low high (limited_value r) ≡ true) × (digits (limited_value r) ≡ t)
limited_is low high t (Err Malformed) q e = absurd (false≢true e)
limited_is low high t (Err Outside) q e = absurd (false≢true e)
limited_is low high t (Ok n) q e = let p = digits_limited low high t n q in (to_within low high n p.1 p.2, sym p.0)

limited_back : (low high : ℕ) (t : List ℕ) → eqb (limited_number (limited_reading low high t)) 0 ≡ true
    → (within low high (limited_value (limited_reading low high t)) ≡ true) × (digits (limited_value (limited_reading low high t)) ≡ t)
limited_back low high t e = limited_is low high t (limited_reading low high t) refl e

-- the text of a number within the limits is read as that number
limited_forth : (low high n : ℕ) → within low high n ≡ true → limited_reading low high (digits n) ≡ Ok n
limited_forth low high n e = let w = from_within low high n e in limited_digits low high n w.0 w.1

digit_value : (c : ℕ) → 48 ≤ c → c ≤ 57 → is_value_byte c ≡ true
unfolding is_value_byte
digit_value c l h = rw (to_within 48 57 c l h, or-true)

pub digits-values : (n : ℕ) → all is_value_byte (digits n) ≡ true
digits-values =
    by_tens (λ n. all is_value_byte (digits n) ≡ true)
    (λ n h. rw (digits_small n h) (and-true (digit_value (48 + n) (omega arith) (omega arith)) refl))
    (λ n h e. rw (digits_step n h)
    (all_append is_value_byte (digits (n / 10)) ((48 + n % 10) ∷ []) ∙ and-true e (and-true (digit_value (48 + n % 10) (omega arith) (omega arith)) refl)))

-- the text of a number of 32 bits is a value
digits_good : (n : ℕ) → n ≤ largest32 → is_value (digits n) ≡ true
unfolding is_text
digits_good n h =
    let l : length (digits n) ≤ 10 = length_digits 9 n (omega arith) in
    let k = length_pos n in
    and-true (to_within 1 128 (length (digits n)) (omega arith) (omega arith)) (digits-values n)

-- ---- numbers

pub number_back : (r : NumberRule) (s : OptionalText) → sound_number r ≡ true
    → missing_or_unknown_number r s ≡ false → violates (is_number r) s ≡ false → written_out r s ≡ false
    → (in_range r (read_number r s) ≡ true) × (write_number r (read_number r s) ≡ s)
number_back (Required low high) none k a b c = absurd (true≢false a)
number_back (Required low high) (some t) k a b c =
    let q = limited_back low high t (is_true _ b) in
    (q.0, ap {B = OptionalText} some q.1)
number_back (Defaulted low high default) none k a b c =
    ((both (leb high largest32) (within low high default) k).1, rw (eq-eqb default default refl))
number_back (Defaulted low high default) (some t) k a b c =
    let q = limited_back low high t (is_true _ b) in
    (q.0, rw c (ap {B = OptionalText} some q.1))
number_back (Constant value) none k a b c = (to_within value value value (omega arith) (omega arith), refl)
number_back (Constant value) (some t) k a b c = absurd (true≢false a)

-- what a written optional text satisfies
pub record NumberWritten (r : NumberRule) (n : ℕ) (s : OptionalText) : Type 0 where
  pub placed : missing_or_unknown_number r s ≡ false
  pub number : violates (is_number r) s ≡ false
  pub short : written_out r s ≡ false
  pub reads : read_number r s ≡ n
  pub good : violates is_value s ≡ false

pub number_forth : (r : NumberRule) (n : ℕ) → sound_number r ≡ true → in_range r n ≡ true → NumberWritten r n (write_number r n)
number_forth (Required low high) n k e =
    let q = limited_forth low high n e in
    let h = leb-true high largest32 k in
    let w = from_within low high n e in
    record {
      placed = refl;
      number = rw q;
      short = refl;
      reads = rw q;
      good = not_of_true (digits_good n (omega arith));
    }
number_forth (Defaulted low high default) n k e = go (eqb n default) refl
  where
    go : (b : Bool) → eqb n default ≡ b → NumberWritten (Defaulted low high default) n (cond b none (some (digits n)))
    go true q = record { placed = refl; number = refl; short = refl; reads = sym (eqb-true n default q); good = refl }
    go false p =
        let q = limited_forth low high n e in
        let h = leb-true high largest32 (both (leb high largest32) (within low high default) k).0 in
        let w = from_within low high n e in
        record {
          placed = refl;
          number = rw q;
          short = rw q p;
          reads = rw q;
          good = not_of_true (digits_good n (omega arith));
        }
number_forth (Constant value) n k e =
    let w = from_within value value n e in
    record { placed = refl; number = refl; short = refl; reads = omega arith; good = refl }

-- ---- byte strings

-- a text that is there has a byte
filled : (t bs : List ℕ) → empty t ≡ false → encode bs ≡ t → (empty bs ≡ false) × (write_bytes bs ≡ some t)
unfolding encode
filled [] bs e q = absurd (true≢false e)
filled (c ∷ t) [] e q = let z : 0 ≡ suc (length t) = ap length q in absurd (omega arith)
filled (c ∷ t) (b ∷ bs) e q = (refl, ap {B = OptionalText} some q)

pub bytes_back : (r : BytesRule) (s : OptionalText) → violates (λ t. not (empty t)) s ≡ false → violates (is_bytes r) s ≡ false
    → (bytes_allowed r (read_bytes s) ≡ true) × (write_bytes (read_bytes s) ≡ s) × (all is_byte (read_bytes s) ≡ true)
bytes_back r none v e = (refl, refl, refl)
bytes_back r (some t) v e =
    let q = both (canonical t) (is_decoded_size r t) (is_true (is_bytes r t) e) in
    let u = filled t (decode t) (is_false (empty t) (is_true (not (empty t)) v)) (encode_decode t q.0) in
    (rw (u.0, q.1), u.1, bytes_decode t q.0)

-- a value and an output that are there have a byte
some_byte : (most : ℕ) (t : List ℕ) → within 1 most (length t) ≡ true → not (empty t) ≡ true
some_byte most [] e = absurd (false≢true e)
some_byte most (c ∷ t) e = refl

pub value_filled : (s : OptionalText) → violates is_value s ≡ false → violates (λ t. not (empty t)) s ≡ false
unfolding is_text
value_filled none e = refl
value_filled (some t) e = not_of_true (some_byte longest_value t (both (within 1 longest_value (length t)) (all is_value_byte t) (is_true (is_value t) e)).0)

pub output_filled : (s : OptionalText) → violates is_output s ≡ false → violates (λ t. not (empty t)) s ≡ false
unfolding is_output
output_filled none e = refl
output_filled (some t) e = not_of_true (some_byte longest_output.0 t (both (within 1 longest_output.0 (length t)) (canonical t) (is_true (is_output t) e)).0)

-- what a written optional text satisfies, where a text may have so many characters
pub record BytesWritten (most : ℕ) (r : BytesRule) (bs : List ℕ) (s : OptionalText) : Type 0 where
  pub placed : unknown_bytes r s ≡ false
  pub bytes : violates (is_bytes r) s ≡ false
  pub sized : violates (is_decoded_size r) s ≡ false
  pub reads : read_bytes s ≡ bs
  pub counted : violates (λ t. within 1 most (length t)) s ≡ false
  pub text_is : violates canonical s ≡ false

pub bytes_forth : (most : ℕ) (r : BytesRule) (bs : List ℕ) → text_within most r ≡ true → all is_byte bs ≡ true → bytes_allowed r bs ≡ true
    → BytesWritten most r bs (write_bytes bs)
bytes_forth most r [] k a e = record { placed = go r; bytes = refl; sized = refl; reads = refl; counted = refl; text_is = refl }
  where
    go : (r : BytesRule) → unknown_bytes r none ≡ false
    go (Sized low high) = refl
    go Forbidden = refl
bytes_forth most (Sized low high) (b ∷ bs) k a e =
    let x = b ∷ bs in
    let d = decode_encode x a in
    let c = canonical_encode x a in
    let l = length_encode x in
    let w = from_within low.0 high.0 (length x) e in
    let h = leb-true (chars_of high.0) most k in
    let n = to_within 1 most (length (encode x)) (omega arith) (omega arith) in
    let z : is_decoded_size (Sized low high) (encode x) ≡ true = ap (λ (l : List ℕ). within low.0 high.0 (length l)) d ∙ e in
    record {
      placed = refl;
      bytes = not_of_true (and-true c z);
      sized = not_of_true z;
      reads = d;
      counted = not_of_true n;
      text_is = not_of_true c;
    }
bytes_forth most Forbidden (b ∷ bs) k a e = absurd (false≢true e)

-- it is a value, or an output, where its limit is theirs
pub written_value : (s : OptionalText) → violates (λ t. within 1 longest_value (length t)) s ≡ false → violates canonical s ≡ false → violates is_value s ≡ false
unfolding is_text
written_value none n c = refl
written_value (some t) n c = not_of_true (and-true (is_true (within 1 longest_value (length t)) n) (canonical-values t (is_true (canonical t) c)))

pub written_output : (s : OptionalText) → violates (λ t. within 1 longest_output.0 (length t)) s ≡ false → violates canonical s ≡ false → violates is_output s ≡ false
unfolding is_output
written_output none n c = refl
written_output (some t) n c = not_of_true (and-true (is_true (within 1 longest_output.0 (length t)) n) (is_true (canonical t) c))

-- ---- the version

pub version_back : (s : OptionalText) → violates is_version_piece s ≡ false → violates is_version s ≡ false → write_version (read_version s) ≡ s
unfolding is_version version_reading
version_back none p e = refl
version_back (some []) p e = absurd (true≢false p)
version_back (some (c ∷ [])) p e = absurd (true≢false p)
version_back (some (c ∷ d ∷ t)) p e =
    let q = both (eqb c 118) (eqb d 61) (is_true (is_version_piece (c ∷ d ∷ t)) p) in
    let v = limited_back 0 largest_version t (is_true (is_version (c ∷ d ∷ t)) e) in
    let a = sym (eqb-true c 118 q.0) in
    let b = sym (eqb-true d 61 q.1) in
    ap {B = OptionalText} some (λ i. a i ∷ b i ∷ v.1 i)

pub record VersionWritten (v : Version) (s : OptionalText) : Type 0 where
  pub piece : violates is_version_piece s ≡ false
  pub version : violates is_version s ≡ false
  pub reads : read_version s ≡ v

pub version_forth : (vs : List ℕ) (v : Version) → sound_versions vs ≡ true → version_allowed vs v ≡ true → VersionWritten v (write_version v)
unfolding is_version version_reading
version_forth vs Absent k e = record { piece = refl; version = refl; reads = refl }
version_forth vs (Number n) k e =
    let q = limited_forth 0 largest_version n (all-has (within 0 largest_version) n vs k e) in
    record { piece = refl; version = rw q; reads = rw q }
