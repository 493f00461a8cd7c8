-- What the writer puts is taken: each text is read back as what it is written for, and the rest is left.
-- Assumes nothing.
use Rattle.std.proofs.Common.{◌≡◌, ℕ, ◌≤◌, Bool, true, false, cond, eqb, leb, List, [], ◌∷◌, ◌++◌, length, refl, ◌∙◌, ⊎_elim, arith, drop_at, eqb-true, le-leb, leb-true}
use mathlib.Core.Option.{none, some}
use Rattle.text.specs.Text.{text, within, all, empty, is_byte, run, starts_with, and_then}
use Rattle.text.proofs.Tests.{both, from_within}
use Rattle.text.proofs.Lists.{all-has}
use Rattle.text.proofs.Runs.{run_on}
use Rattle.text.proofs.Starts.{behind_tag}
use Rattle.b64.specs.B64.{sextet, in_alphabet, encode}
use Rattle.b64.proofs.B64Laws.{canonical_alphabet, decode_encode, canonical_encode}
use Rattle.decimal.specs.Decimal.{is_digit, is_unsigned, digits}
use Rattle.decimal.proofs.DecimalLaws.{unsigned_cases, value-digits, digits_unsigned}
use Rattle.grammar.specs.Bytes.{dollar}
use Rattle.grammar.specs.Limits.{largest_version}
use Rattle.table.specs.Limits.{in_range, version_allowed, largest32, is_omitted}
use Rattle.table.specs.declared.limits.NumberRule.{NumberRule}
use Rattle.table.specs.declared.limits.NumberRule.TheVariants.{Required, Defaulted, Constant}
use Rattle.table.specs.declared.limits.BytesRule.{BytesRule}
use Rattle.table.specs.declared.version.Version.{Version}
use Rattle.table.specs.declared.version.Version.TheVariants.{Absent, Number}
use Rattle.profile.specs.Fields.{write_number, write_bytes, write_version}
use Rattle.profile.specs.Sound.{sound_number, sound_versions}
use Rattle.profile.specs.Writer.{bytes_allowed}
use Rattle.profile.specs.PieceTexts.{tagged}
use Rattle.fast_path.specs.Walk.{taken, leading_number, written_number, omitted_number, number_in, written_bytes, bytes_in, version_in}
use Rattle.fast_path.proofs.Closed.{Separator, Closed, run_closed}
use Rattle.fast_path.proofs.ItemTexts.{Named, separator_after, items, separator_after_lem, fresh, Behind, closed_items, starts_fresh}

-- ---- one number

unsigned_digits : (s : List ℕ) → is_unsigned s ≡ true → all is_digit s ≡ true
unfolding is_digit
unsigned_digits [] e = refl
unsigned_digits (c ∷ s) e = ⊎_elim (λ (w : (c ≡ 48) × (s ≡ [])). rw (w.0, w.1)) (λ w. w.1) (unsigned_cases c s e)

digits-run : (n : ℕ) (rest : List ℕ) → Closed rest → run is_digit (digits n ++ rest) ≡ digits n
unfolding is_digit
digits-run n rest h = run_on is_digit (digits n) rest (unsigned_digits (digits n) (digits_unsigned n)) (run_closed is_digit refl refl rest h)

numeral_reads : (n : ℕ) (rest : List ℕ) → n ≤ largest32 → Closed rest → leading_number (digits n ++ rest) ≡ some (n, rest)
unfolding leading_number
numeral_reads n rest l h =
    rw (digits-run n rest h, digits_unsigned n, value-digits n, le-leb n largest32 l, drop_at (digits n) rest (length (digits n)) refl)

-- a number that is no parameter left out
number_there : (r : NumberRule) (n : ℕ) (name : List ℕ) (separator : ℕ) (rest : List ℕ) → n ≤ largest32 → in_range r n ≡ true → is_omitted r n ≡ false → Closed rest
    → number_in r name separator (((separator ∷ name) ++ digits n) ++ rest) ≡ some (taken n 44 rest)
unfolding number_in
number_there r n name separator rest l e w h =
    behind_tag (separator ∷ name) (digits n) rest (λ (u : List ℕ). and_then (leading_number u) (written_number r)) (omitted_number r separator (((separator ∷ name) ++ digits n) ++ rest))
    ∙ rw (numeral_reads n rest l h, e, w)

number_reads : (r : NumberRule) (n : ℕ) (name : List ℕ) (separator : ℕ) (rest : List ℕ) → sound_number r ≡ true → in_range r n ≡ true
    → Closed rest → starts_with (separator ∷ name) rest ≡ false
    → number_in r name separator (tagged (separator ∷ name) (write_number r n) ++ rest) ≡ some (taken n (separator_after separator (write_number r n)) rest)
unfolding number_in
number_reads (Required low high) n name separator rest k e h f =
    let l = leb-true high largest32 k in
    let w = from_within low high n e in
    number_there (Required low high) n name separator rest (omega arith) e refl h
number_reads (Defaulted low high default) n name separator rest k e h f = go (eqb n default) refl
  where
    go : (b : Bool) → eqb n default ≡ b
        → number_in (Defaulted low high default) name separator (tagged (separator ∷ name) (cond b none (some (digits n))) ++ rest)
        ≡ some (taken n (separator_after separator (cond b none (some (digits n)))) rest)
    go true q = rw (f, eqb-true n default q)
    go false q =
        let l = leb-true high largest32 (both (leb high largest32) (within low high default) k).0 in
        let w = from_within low high n e in
        number_there (Defaulted low high default) n name separator rest (omega arith) e q h
number_reads (Constant value) n name separator rest k e h f =
    let w = from_within value value n e in
    let q : value ≡ n = omega arith in
    rw (f, q)

-- ---- one byte string

pub encode_alphabet : (bs : List ℕ) → all is_byte bs ≡ true → all in_alphabet (encode bs) ≡ true
encode_alphabet bs a = canonical_alphabet (encode bs) (canonical_encode bs a)

encode-run : (bs rest : List ℕ) → all is_byte bs ≡ true → Closed rest → run in_alphabet (encode bs ++ rest) ≡ encode bs
unfolding sextet
encode-run bs rest a h = run_on in_alphabet (encode bs) rest (encode_alphabet bs a) (run_closed in_alphabet refl refl rest h)

pub bytes_reads : (r : BytesRule) (bs name : List ℕ) (separator : ℕ) (rest : List ℕ) → bytes_allowed r bs ≡ true → all is_byte bs ≡ true
    → Closed rest → (empty bs ≡ true → starts_with (separator ∷ name) rest ≡ false)
    → bytes_in r name separator (tagged (separator ∷ name) (write_bytes bs) ++ rest) ≡ some (taken bs (separator_after separator (write_bytes bs)) rest)
unfolding bytes_in
bytes_reads r [] name separator rest p a h f = rw (f refl)
bytes_reads r (b ∷ bs) name separator rest p a h f =
    let x = b ∷ bs in
    behind_tag (separator ∷ name) (encode x) rest (written_bytes r) (some (taken [] separator (((separator ∷ name) ++ encode x) ++ rest)))
    ∙ rw (encode-run x rest a h, canonical_encode x a, decode_encode x a, p, drop_at (encode x) rest (length (encode x)) refl)

-- ---- the version

pub version_reads : (vs : List ℕ) (v : Version) (rest : List ℕ) → sound_versions vs ≡ true → version_allowed vs v ≡ true
    → Closed rest → starts_with (text "$v=") rest ≡ false
    → version_in vs (tagged (text "$") (write_version v) ++ rest) ≡ some (taken v dollar rest)
unfolding version_in
version_reads vs Absent rest k e h f = rw f
version_reads vs (Number n) rest k e h f =
    let w = from_within 0 largest_version n (all-has (within 0 largest_version) n vs k e) in
    rw (numeral_reads n rest (omega arith) h, e)

-- ---- an item, before the items l and a text that stands behind them

module _ (name : List ℕ) (separator : ℕ) (l : List Named) (rest : List ℕ) (m : Separator separator) (h : Behind rest) (e : fresh name l ≡ true) where
  pub number_item : (r : NumberRule) (n : ℕ) → sound_number r ≡ true → in_range r n ≡ true
      → number_in r name separator (items separator ((name, write_number r n) ∷ l) rest)
      ≡ some (taken n (separator_after separator (write_number r n)) (items (separator_after separator (write_number r n)) l rest))
  number_item r n k p =
      let b = separator_after separator (write_number r n) in
      number_reads r n name separator (items b l rest) k p (closed_items b l rest (separator_after_lem separator (write_number r n) m) h) (starts_fresh separator b name l rest h e)

  pub bytes-item : (r : BytesRule) (bs : List ℕ) → bytes_allowed r bs ≡ true → all is_byte bs ≡ true
      → bytes_in r name separator (items separator ((name, write_bytes bs) ∷ l) rest)
      ≡ some (taken bs (separator_after separator (write_bytes bs)) (items (separator_after separator (write_bytes bs)) l rest))
  bytes-item r bs p a =
      let b = separator_after separator (write_bytes bs) in
      bytes_reads r bs name separator (items b l rest) p a (closed_items b l rest (separator_after_lem separator (write_bytes bs) m) h) (λ z. starts_fresh separator b name l rest h e)
