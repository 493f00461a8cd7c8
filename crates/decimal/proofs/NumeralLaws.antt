-- Laws of signed decimals and of the readers, over any range: a number's text is read to that number, and no other text is.
-- Assumes nothing.
use Prim.Native.Nat.{ℕ, zero, suc, ◌≤◌}
use mathlib.Core.Bool.{Bool, true, false, not, cond, ◌&&◌, false≢true}
use mathlib.Core.Path.{◌≡◌, refl, sym, ap, ◌∙◌}
use mathlib.Core.Logic.{⊎_elim}
use mathlib.Core.List.{List, [], ◌∷◌}
use native.Mathlib.Omega.{arith}
use lib.Dec.{eqb}
use lib.IntN.{ℤ, pos, negsuc, neg_ℤ}
use borrow.Author.Tests.{eqb-true, ne_eqb}
use Rattle.text.specs.Text.{all}
use Rattle.text.proofs.Tests.{both, either, from_within, to_within}
use Rattle.decimal.specs.Decimal.{is_digit, is_unsigned, value, digits, is_decimal, decimal_value, decimal_text}
use Rattle.decimal.specs.Numerals.{Numeral, malformed, outside, number, between, numeral, least, greatest, signed, decimal_answer, decimal_reading, limited, limited_reading, limited_number, limited_value}
use Rattle.decimal.specs.declared.error.DecimalError.{DecimalError}
use Rattle.decimal.specs.declared.error.DecimalError.TheVariants.{Malformed, Outside}
use Rattle.std.specs.Prelude.{Result, Ok, Err}
use Rattle.decimal.proofs.DecimalLaws.{digit_bounds, unsigned_cases, value-digits, digits_unsigned, digits_value}

-- ---- texts

-- an unsigned decimal does not begin with a minus sign
no_minus : (c : ℕ) (s : List ℕ) → is_unsigned (c ∷ s) ≡ true → c ≡ 45 → ⊥
no_minus c s p e =
    ⊎_elim (λ (w : (c ≡ 48) × (s ≡ [])). omega (arith, w.0))
    (λ (w : (c ≡ 48 → ⊥) × (all is_digit (c ∷ s) ≡ true)). omega (arith, digit_bounds c (both (is_digit c) (all is_digit s) w.1).0))
    (unsigned_cases c s p)

-- an unsigned decimal, as a signed one
unsigned_decimal : (s : List ℕ) → is_unsigned s ≡ true → (is_decimal s ≡ true) × (decimal_value s ≡ pos (value s))
unfolding is_decimal decimal_value is_unsigned
unsigned_decimal [] p = absurd (false≢true p)
unsigned_decimal (c ∷ s) p = let n = ne_eqb c 45 (no_minus c s p) in (rw n p, rw n)

pub text_decimal : (z : ℤ) → is_decimal (decimal_text z) ≡ true
unfolding decimal_text is_decimal
text_decimal (pos n) = (unsigned_decimal (digits n) (digits_unsigned n)).0
text_decimal (negsuc n) = rw (digits_unsigned (suc n), value-digits (suc n), ne_eqb (suc n) 0 (λ e. omega arith))

pub value-text : (z : ℤ) → decimal_value (decimal_text z) ≡ z
unfolding decimal_text decimal_value
value-text (pos n) = (unsigned_decimal (digits n) (digits_unsigned n)).1 ∙ ap pos (value-digits n)
value-text (negsuc n) = rw (value-digits (suc n))

-- digits after a minus sign
text-minus : (s : List ℕ) (n : ℕ) → value s ≡ n → (is_unsigned s && not (eqb (value s) 0)) ≡ true → decimal_text (neg_ℤ (pos n)) ≡ 45 ∷ s
unfolding decimal_text
text-minus s zero e p = absurd (false≢true (rw e at (both (is_unsigned s) (not (eqb (value s) 0)) p).1))
text-minus s (suc n) e p = ap (λ l. 45 ∷ l) (ap digits (sym e) ∙ digits_value s (both (is_unsigned s) (not (eqb (value s) 0)) p).0)

pub text-value : (s : List ℕ) → is_decimal s ≡ true → decimal_text (decimal_value s) ≡ s
unfolding is_decimal decimal_value decimal_text
text-value [] p = absurd (false≢true p)
text-value (c ∷ s) p =
    ⊎_elim (λ (e : eqb c 45 ≡ true). rw e (text-minus s (value s) refl (rw e at p) ∙ ap (λ d. d ∷ s) (sym (eqb-true c 45 e))))
    (λ (e : eqb c 45 ≡ false). rw e (digits_value (c ∷ s) (rw e at p)))
    (either (eqb c 45))

-- ---- readings

pub numeral_text : (low high z : ℤ) → between low high z ≡ true → numeral low high (decimal_text z) ≡ number z
unfolding numeral
numeral_text low high z h = rw (text_decimal z, value-text z, h)

pub text_numeral : (low high : ℤ) (s : List ℕ) (z : ℤ) → numeral low high s ≡ number z → (s ≡ decimal_text z) × (between low high z ≡ true)
unfolding numeral
text_numeral low high s z e = go (is_decimal s) (between low high (decimal_value s)) refl refl e
  where
    go : (d r : Bool) → is_decimal s ≡ d → between low high (decimal_value s) ≡ r
        → cond d (cond r (number (decimal_value s)) outside) malformed ≡ number z
        → (s ≡ decimal_text z) × (between low high z ≡ true)
    go true true p q f = let v : decimal_value s ≡ z = cc in (sym (text-value s p) ∙ ap decimal_text v, ap (between low high) (sym v) ∙ q)
    go true false p q f = let n : ◌≡◌ {A = ℕ} 0 1 = cc in absurd (omega arith)
    go false r p q f = let n : ◌≡◌ {A = ℕ} 0 1 = cc in absurd (omega arith)

-- the reader over a limit
pub limited_digits : (low high n : ℕ) → low ≤ n → n ≤ high → limited_reading low high (digits n) ≡ Ok n
unfolding limited_reading decimal_text
limited_digits low high n l h = ap limited (numeral_text (pos low) (pos high) (pos n) (to_within low high n l h))

pub digits_limited : (low high : ℕ) (s : List ℕ) (n : ℕ) → limited_reading low high s ≡ Ok n → (s ≡ digits n) × (low ≤ n) × (n ≤ high)
unfolding limited_reading decimal_text
digits_limited low high s n e = go (numeral (pos low) (pos high) s) refl e
  where
    go : (r : Numeral) → numeral (pos low) (pos high) s ≡ r → limited r ≡ Ok n → (s ≡ digits n) × (low ≤ n) × (n ≤ high)
    go malformed p f = let z : ◌≡◌ {A = ℕ} 0 1 = cc in absurd (omega arith)
    go outside p f = let z : ◌≡◌ {A = ℕ} 0 1 = cc in absurd (omega arith)
    go (number (pos m)) p f =
        let v : m ≡ n = cc in
        let t = text_numeral (pos low) (pos high) s (pos m) p in
        let w = from_within low high m t.1 in
        (t.0 ∙ ap digits v, omega arith, omega arith)
    go (number (negsuc m)) p f = absurd (false≢true (text_numeral (pos low) (pos high) s (negsuc m) p).1)

-- the public reader
pub decimal_back : (z : ℤ) → between least greatest z ≡ true → decimal_reading (decimal_text z) ≡ record { number = 0; value = z }
decimal_back z h = ap (λ r. decimal_answer (signed r)) (numeral_text least greatest z h)

pub back_decimal : (s : List ℕ) → (decimal_reading s).number ≡ 0 → decimal_text (decimal_reading s).value ≡ s
back_decimal s e = go (numeral least greatest s) refl e
  where
    go : (r : Numeral) → numeral least greatest s ≡ r → (decimal_answer (signed r)).number ≡ 0 → decimal_text (decimal_answer (signed r)).value ≡ s
    go malformed p f = absurd (omega arith)
    go outside p f = absurd (omega arith)
    go (number z) p f = sym (text_numeral least greatest s z p).0

pub limited_zero : (low high : ℕ) (s : List ℕ) → limited_number (limited_reading low high s) ≡ 0 → s ≡ digits (limited_value (limited_reading low high s))
limited_zero low high s z = go (limited_reading low high s) refl z
  where
    go : (r : Result ℕ DecimalError) → limited_reading low high s ≡ r → limited_number r ≡ 0 → s ≡ digits (limited_value r)
    go (Err Malformed) e z = absurd (omega arith)
    go (Err Outside) e z = absurd (omega arith)
    go (Ok n) e z = (digits_limited low high s n e).0
