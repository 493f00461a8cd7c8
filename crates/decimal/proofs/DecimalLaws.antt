-- Laws of unsigned decimals: the digits of a number are an unsigned decimal that says it, and the only one.
-- Assumes nothing.
use Prim.Native.Nat.{ℕ, zero, suc, ◌+◌, ◌-◌, ◌*◌, ◌/◌, ◌%◌, ◌^◌, ◌≤◌, ◌<◌}
use mathlib.Core.Bool.{true, false, false≢true}
use mathlib.Core.Path.{◌≡◌, refl, sym, ap}
use mathlib.Core.Logic.{◌⊎◌, inl, inr, ⊎_elim}
use mathlib.Core.List.{List, [], ◌∷◌, ◌++◌, append-nil, append_assoc}
use native.Mathlib.Omega.{arith}
use native.Mathlib.Nat.{pow-suc}
use lib.Dec.{eqb}
use lib.ListN.{length, length-append}
use borrow.Author.Tests.{lt-ltb, le-ltb, ne_eqb, eqb-true, eqb-false}
use Rattle.text.specs.Text.{all}
use Rattle.text.proofs.Tests.{both, either, from_within, to_within, below?}
use Rattle.text.proofs.Lists.{empty-nil, all_append}
use Rattle.decimal.specs.Decimal.{is_digit, is_unsigned, value_from, value, digits_within, digits}

-- ---- the digits of a number below 10, and the last digit of any other

within_small : (k n : ℕ) → n < 10 → digits_within (suc k) n ≡ (48 + n) ∷ []
unfolding digits_within
within_small k n h = rw (lt-ltb n 10 h)

within_step : (k n : ℕ) → 10 ≤ n → digits_within (suc k) n ≡ digits_within k (n / 10) ++ ((48 + n % 10) ∷ [])
unfolding digits_within
within_step k n h = rw (le-ltb n 10 h)

-- the bound on their count does not matter where it is past the number
bound_free : (j k n : ℕ) → n < j → n < k → digits_within j n ≡ digits_within k n
bound_free zero k n h l = absurd (omega arith)
bound_free (suc j) zero n h l = absurd (omega arith)
bound_free (suc j) (suc k) n h l =
    ⊎_elim (λ m. rw (within_small j n m, within_small k n m))
    (λ m. rw (within_step j n m, within_step k n m, bound_free j k (n / 10) (omega arith) (omega arith)))
    (below? n 10)

pub digits_small : (n : ℕ) → n < 10 → digits n ≡ (48 + n) ∷ []
unfolding digits
digits_small n h = within_small n n h

pub digits_step : (n : ℕ) → 10 ≤ n → digits n ≡ digits (n / 10) ++ ((48 + n % 10) ∷ [])
unfolding digits
digits_step n h = rw (within_step n n h, bound_free n (suc (n / 10)) (n / 10) (omega arith) (omega arith))

-- what holds below 10, and of each number of which it holds without its last digit, holds of every number
module _ (P : ℕ → Type 0) (small : (n : ℕ) → n < 10 → P n) (step : (n : ℕ) → 10 ≤ n → P (n / 10) → P n) where
  by_tens_within : (k n : ℕ) → n < k → P n
  by_tens_within zero n h = absurd (omega arith)
  by_tens_within (suc k) n h = ⊎_elim (λ m. small n m) (λ m. step n m (by_tens_within k (n / 10) (omega arith))) (below? n 10)

  pub by_tens : (n : ℕ) → P n
  by_tens n = by_tens_within (suc n) n (omega arith)

-- ---- their count

pub length_small : (n : ℕ) → n < 10 → length (digits n) ≡ 1
length_small n h = ap length (digits_small n h)

pub length_step : (n : ℕ) → 10 ≤ n → length (digits n) ≡ length (digits (n / 10)) + 1
length_step n h = rw (digits_step n h, length-append)

pub length_pos : (n : ℕ) → 0 < length (digits n)
length_pos n = ⊎_elim (λ (h : n < 10). omega (arith, length_small n h)) (λ (h : 10 ≤ n). omega (arith, length_step n h)) (below? n 10)

pub length_digits : (k n : ℕ) → n < 10 ^ suc k → length (digits n) ≤ suc k
length_digits zero n h = omega (arith, length_small n (omega arith))
length_digits (suc k) n h =
    ⊎_elim (λ (m : n < 10). omega (arith, length_small n m))
    (λ (m : 10 ≤ n). omega (arith, length_step n m, length_digits k (n / 10) (omega (arith, pow-suc 10 (suc k)))))
    (below? n 10)

-- as many as its power of ten says
pub length-power : (k n : ℕ) → 10 ^ k ≤ n → n < 10 * 10 ^ k → length (digits n) ≡ suc k
length-power zero n l h = length_small n (omega arith)
length-power (suc k) n l h =
    let p : 10 ^ suc k ≡ 10 ^ k * 10 = pow-suc 10 k in
    let m : 10 ≤ n = omega (arith, pow-pos k) in
    omega (arith, length_step n m, length-power k (n / 10) (omega arith) (omega arith))
  where
    pow-pos : (k : ℕ) → 1 ≤ 10 ^ k
    pow-pos zero = omega arith
    pow-pos (suc k) = omega (arith, pow-suc 10 k, pow-pos k)

-- ---- they say the number

value-append : (s t : List ℕ) (n : ℕ) → value_from n (s ++ t) ≡ value_from (value_from n s) t
unfolding value_from
value-append [] t n = refl
value-append (c ∷ s) t n = value-append s t (n * 10 + (c - 48))

pub value-digits : (n : ℕ) → value (digits n) ≡ n
unfolding value value_from
value-digits =
    by_tens (λ n. value (digits n) ≡ n) (λ n h. rw (digits_small n h) (omega arith))
    (λ n h e. rw (digits_step n h, value-append, e) (omega arith))

-- ---- they are an unsigned decimal

digit_of : (d : ℕ) → d < 10 → is_digit (48 + d) ≡ true
unfolding is_digit
digit_of d h = to_within 48 57 (48 + d) (omega arith) (omega arith)

pub digit_bounds : (c : ℕ) → is_digit c ≡ true → (48 ≤ c) × (c ≤ 57)
unfolding is_digit
digit_bounds c e = from_within 48 57 c e

pub unsigned_cases : (c : ℕ) (s : List ℕ) → is_unsigned (c ∷ s) ≡ true
    → ((c ≡ 48) × (s ≡ [])) ⊎ ((c ≡ 48 → ⊥) × (all is_digit (c ∷ s) ≡ true))
unfolding is_unsigned
unsigned_cases c s p =
    ⊎_elim (λ e. inl (eqb-true c 48 e, empty-nil s (rw e at p))) (λ e. inr (eqb-false c 48 e, rw e at p)) (either (eqb c 48))

unsigned_long : (c : ℕ) (s : List ℕ) → (c ≡ 48 → ⊥) → all is_digit (c ∷ s) ≡ true → is_unsigned (c ∷ s) ≡ true
unfolding is_unsigned
unsigned_long c s h p = rw (ne_eqb c 48 h) p

unsigned_one : (n : ℕ) → n < 10 → is_unsigned ((48 + n) ∷ []) ≡ true
unfolding is_unsigned
unsigned_one n h = ⊎_elim (λ e. rw e) (λ (e : eqb (48 + n) 48 ≡ false). rw (e, digit_of n h)) (either (eqb (48 + n) 48))

-- one digit more, after a number other than 0
unsigned_more : (s : List ℕ) (d : ℕ) → is_unsigned s ≡ true → 0 < value s → is_digit d ≡ true → is_unsigned (s ++ (d ∷ [])) ≡ true
unfolding is_unsigned value value_from
unsigned_more [] d p h q = absurd (false≢true p)
unsigned_more (c ∷ s) d p h q =
    ⊎_elim (λ w. absurd (zero_not_more w)) (λ w. unsigned_long c (s ++ (d ∷ [])) w.0 (rw (all_append is_digit (c ∷ s) (d ∷ []), w.1, q)))
    (unsigned_cases c s p)
  where
    zero_not_more : (c ≡ 48) × (s ≡ []) → ⊥
    zero_not_more w = let l : 0 < value_from 0 (48 ∷ []) = rw (w.0, w.1) at h in omega arith

pub digits_unsigned : (n : ℕ) → is_unsigned (digits n) ≡ true
digits_unsigned =
    by_tens (λ n. is_unsigned (digits n) ≡ true) (λ n h. rw (digits_small n h) (unsigned_one n h))
    (λ n h e. rw (digits_step n h)
    (unsigned_more (digits (n / 10)) (48 + n % 10) e (rw (value-digits (n / 10)) (omega arith)) (digit_of (n % 10) (omega arith))))

-- ---- and the only one

digits_after : (s : List ℕ) (n : ℕ) → 0 < n → all is_digit s ≡ true → digits (value_from n s) ≡ digits n ++ s
unfolding value_from
digits_after [] n h p = sym (append-nil (digits n))
digits_after (c ∷ s) n h p =
    let q = both (is_digit c) (all is_digit s) p in
    let r = digit_bounds c q.0 in
    let e : (n * 10 + (c - 48)) / 10 ≡ n = omega arith in
    let f : 48 + (n * 10 + (c - 48)) % 10 ≡ c = omega arith in
    rw (digits_after s (n * 10 + (c - 48)) (omega arith) q.1, digits_step (n * 10 + (c - 48)) (omega arith), e, f, append_assoc)

pub digits_value : (s : List ℕ) → is_unsigned s ≡ true → digits (value s) ≡ s
unfolding value value_from is_unsigned
digits_value [] p = absurd (false≢true p)
digits_value (c ∷ s) p =
    ⊎_elim (λ w. rw (w.0, w.1) (digits_small 0 (omega arith))) (λ w. long w) (unsigned_cases c s p)
  where
    long : (c ≡ 48 → ⊥) × (all is_digit (c ∷ s) ≡ true) → digits (value_from (0 * 10 + (c - 48)) s) ≡ c ∷ s
    long w =
        let q = both (is_digit c) (all is_digit s) w.1 in
        let r = digit_bounds c q.0 in
        let n = w.0 in
        let f : 48 + (0 * 10 + (c - 48)) ≡ c = omega arith in
        rw (digits_after s (0 * 10 + (c - 48)) (omega arith) q.1, digits_small (0 * 10 + (c - 48)) (omega arith), f)
