-- Signed numbers as the machine has them, and a text read and written by its sign.
-- Assumes nothing.
use Prim.Native.Nat.{ℕ, zero, suc, ◌+◌, ◌-◌, ◌<◌, ◌≤◌, ◌^◌}
use mathlib.Core.Path.{◌≡◌, refl, sym, ap, ◌∙◌}
use mathlib.Core.Bool.{Bool, true, false, not, cond, ◌&&◌, and-true, and-false, true≢false}
use mathlib.Core.Logic.{⊎_elim}
use mathlib.Core.List.{List, [], ◌∷◌, ◌++◌}
use native.Mathlib.Omega.{arith}
use native.Mathlib.Numerals.{one-add}
use lib.Dec.{leb, eqb, leb-suc-suc}
use lib.IntN.{ℤ, pos, negsuc, neg_ℤ, nat_abs}
use lib.ListN.{length, get_or, drop, set}
use lib.Signed.{mag, lt_z, le_z}
use mir.Syntax.{w64}
use mir.Val.{to_z, of_z}
use mir.ValLaws.{to_z-of_z}
use borrow.Author.Tests.{ltb-true, leb-true, le-leb, lt-leb, eq-eqb, ne_eqb}
use Rattle.text.specs.Place.{over}
use Rattle.text.proofs.Tests.{either}
use Rattle.decimal.specs.Decimal.{is_unsigned, value, digits, is_decimal, decimal_value, decimal_text}
use Rattle.decimal.specs.Numerals.{Numeral, malformed, outside, number, between, numeral, least, signed}
use Rattle.decimal.specs.DecimalSteps.{up_to, unsigned_reading, plain, minus}
use Rattle.decimal.specs.declared.error.DecimalError.{DecimalError}
use Rattle.decimal.specs.declared.error.DecimalError.TheVariants.{Malformed, Outside}
use Rattle.std.specs.Prelude.{Some, None, Result, Ok, Err}
use Rattle.std.specs.Option.{ok_or}

-- a number is read back from its bits
pub read_back : (z : ℤ) → mag z < 2 ^ 63 → to_z w64 (of_z w64 z) ≡ z
read_back z h = to_z-of_z w64 z (record { sfits = h })

-- ---- the text of a number, by its sign and size as the machine finds them

text_of_below : (z : ℤ) → lt_z z (pos 0) ≡ true → decimal_text z ≡ 45 ∷ digits (nat_abs z)
unfolding decimal_text
text_of_below (pos n) t = absurd (omega (arith, ltb-true n 0 t))
text_of_below (negsuc n) t = refl

text_of_other : (z : ℤ) → lt_z z (pos 0) ≡ false → decimal_text z ≡ digits (nat_abs z)
unfolding decimal_text
text_of_other (pos n) t = refl
text_of_other (negsuc n) t = absurd (true≢false t)

module _ (z : ℤ) (f : mag z < 2 ^ 63) (m : ℕ) (e : m ≡ nat_abs (to_z w64 (of_z w64 z))) where
  size_is : m ≡ nat_abs z
  size_is = e ∙ ap nat_abs (read_back z f)

  pub text_below : lt_z (to_z w64 (of_z w64 z)) (pos 0) ≡ true → decimal_text z ≡ 45 ∷ digits m
  text_below t = rw size_is (text_of_below z (rw (read_back z f) at t))

  pub text_other : lt_z (to_z w64 (of_z w64 z)) (pos 0) ≡ false → decimal_text z ≡ digits m
  text_other t = rw size_is (text_of_other z (rw (read_back z f) at t))

-- a minus sign before a text
pub put-minus : (buf text : List ℕ) → 0 < length buf → over (set buf 0 45) 1 text ≡ (45 ∷ text) ++ drop (length (45 ∷ text)) buf
put-minus [] text h = absurd (omega arith)
put-minus (c ∷ buf) text h = rw one-add

-- ---- a text read over any range, by its sign and the reading of its digits

-- the number that was read is within the limit
pub read_most : (limit : ℕ) (s : List ℕ) (n : ℕ) → unsigned_reading limit s ≡ Ok n → n ≤ limit
unfolding unsigned_reading up_to
read_most limit s n e = go (is_unsigned s) (leb (value s) limit) refl e
  where
    go : (a b : Bool) → leb (value s) limit ≡ b → cond a (ok_or (cond b (Some (value s)) None) Outside) (Err Malformed) ≡ Ok n → n ≤ limit
    go true true t f = let m : value s ≡ n = cc in omega (arith, leb-true (value s) limit t)
    go true false t f = let z : ◌≡◌ {A = ℕ} 0 1 = cc in absurd (omega arith)
    go false b t f = let z : ◌≡◌ {A = ℕ} 0 1 = cc in absurd (omega arith)

-- without a sign, and after a minus sign
abbrev pub from_plain : ℤ → Result ℕ DecimalError → Numeral
from_plain low (Err Malformed) = malformed
from_plain low (Err Outside) = outside
from_plain low (Ok n) = cond (le_z low (pos n)) (number (pos n)) outside

abbrev pub from_minus : Result ℕ DecimalError → Numeral
from_minus (Err Malformed) = malformed
from_minus (Err Outside) = outside
from_minus (Ok n) = cond (eqb n 0) malformed (number (neg_ℤ (pos n)))

within-plain : (low : ℤ) (high : ℕ) (t : Bool) (v : ℕ)
    → from_plain low (cond t (ok_or (up_to high v) Outside) (Err Malformed)) ≡ cond t (cond (between low (pos high) (pos v)) (number (pos v)) outside) malformed
unfolding up_to
within-plain low high false v = refl
within-plain low high true v =
    ⊎_elim (λ (e : leb v high ≡ true). simp (e, and-true)) (λ (e : leb v high ≡ false). simp (e, and-false)) (either (leb v high))

-- `most` is how far below 0 the range goes
module _ (low : ℤ) (most : ℕ) (down : (n : ℕ) → le_z low (negsuc n) ≡ leb (suc n) most) (high : ℕ) where
  within-minus : (t : Bool) (v : ℕ)
      → from_minus (cond t (ok_or (up_to most v) Outside) (Err Malformed))
      ≡ cond (t && not (eqb v 0)) (cond (between low (pos high) (neg_ℤ (pos v))) (number (neg_ℤ (pos v))) outside) malformed
  unfolding up_to
  within-minus false v = refl
  within-minus true zero = rw (le-leb 0 most (omega arith))
  within-minus true (suc n) =
      ⊎_elim (λ (e : leb (suc n) most ≡ true). rw (down n, e, ne_eqb (suc n) 0 (λ z. omega arith)))
      (λ (e : leb (suc n) most ≡ false). rw (down n, e, ne_eqb (suc n) 0 (λ z. omega arith)))
      (either (leb (suc n) most))

  pub numeral-minus : (s : List ℕ) → (length s ≡ 0 → ⊥) → get_or s 0 0 ≡ 45
      → from_minus (unsigned_reading most (drop 1 s)) ≡ numeral low (pos high) s
  unfolding numeral is_decimal decimal_value unsigned_reading
  numeral-minus [] h e = absurd (h refl)
  numeral-minus (c ∷ s) h e = rw (eq-eqb c 45 e) (within-minus (is_unsigned s) (value s))

pub numeral-none : (low high : ℤ) (s : List ℕ) → length s ≡ 0 → numeral low high s ≡ malformed
unfolding numeral is_decimal
numeral-none low high [] e = refl
numeral-none low high (c ∷ s) e = absurd (omega arith)

pub numeral-plain : (low : ℤ) (high : ℕ) (s : List ℕ) → (length s ≡ 0 → ⊥) → (get_or s 0 0 ≡ 45 → ⊥)
    → from_plain low (unsigned_reading high s) ≡ numeral low (pos high) s
unfolding numeral is_decimal decimal_value unsigned_reading
numeral-plain low high [] h l = absurd (h refl)
numeral-plain low high (c ∷ s) h l = rw (ne_eqb c 45 l) (within-plain low high (is_unsigned (c ∷ s)) (value (c ∷ s)))

-- ---- the signed reader, and the reader over a limit

pub signed-plain : (r : Result ℕ DecimalError) → plain r ≡ signed (from_plain least r)
signed-plain (Err Malformed) = refl
signed-plain (Err Outside) = refl
signed-plain (Ok n) = refl

pub signed-minus : (r : Result ℕ DecimalError) → minus r ≡ signed (from_minus r)
signed-minus (Err Malformed) = refl
signed-minus (Err Outside) = refl
signed-minus (Ok n) = go (eqb n 0)
  where
    go : (b : Bool) → cond b (Err Malformed) (Ok (neg_ℤ (pos n))) ≡ signed (cond b malformed (number (neg_ℤ (pos n))))
    go true = refl
    go false = refl

-- how far below 0 the ranges go
pub down_least : (n : ℕ) → le_z least (negsuc n) ≡ leb (suc n) 9223372036854775808
down_least n = sym (leb-suc-suc n 9223372036854775807)

pub down_none : (low n : ℕ) → le_z (pos low) (negsuc n) ≡ leb (suc n) 0
down_none low n = sym (lt-leb (suc n) 0 (omega arith))

-- after a minus sign, a number that is not past 0 is none
pub minus-none : (s : List ℕ) (n : ℕ) → unsigned_reading 0 s ≡ Ok n → from_minus (Ok n) ≡ malformed
minus-none s n e = rw (eq-eqb n 0 (omega (arith, read_most 0 s n e)))
