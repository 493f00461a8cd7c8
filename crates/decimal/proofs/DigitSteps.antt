-- The steps of the walks over digits: reading them from the first on, writing them from the last on.
-- Assumes nothing.
use Prim.Native.Nat.{ℕ, ◌+◌, ◌-◌, ◌*◌, ◌/◌, ◌%◌, ◌≤◌, ◌<◌}
use mathlib.Core.Path.{◌≡◌, refl, sym, ◌∙◌, ap}
use mathlib.Core.Bool.{false}
use mathlib.Core.List.{List, [], ◌∷◌, ◌++◌, append_assoc}
use native.Mathlib.Omega.{arith}
use native.Mathlib.Numerals.{add-one}
use lib.Dec.{eqb}
use lib.ListN.{length, drop, get_or, set, drop_of_length-le}
use lib.Seq.{drop-cons}
use borrow.Author.Tests.{le-leb, lt-leb, ne_eqb}
use Rattle.text.specs.Text.{all}
use mathlib.Core.Logic.{⊎_elim}
use Rattle.text.proofs.Tests.{below?}
use Rattle.text.proofs.Lists.{drop-set-same}
use Rattle.decimal.specs.Decimal.{is_digit, is_unsigned, value_from, digits}
use Rattle.decimal.specs.DecimalSteps.{up_to}
use Rattle.std.specs.Prelude.{Some, None}
use Rattle.decimal.proofs.DecimalLaws.{digits_small, digits_step, length_small, length_step, length_pos}

-- ---- an unsigned decimal, by its first byte

pub unsigned_none : (s : List ℕ) → length s ≡ 0 → false ≡ is_unsigned s
unfolding is_unsigned
unsigned_none [] e = refl
unsigned_none (c ∷ s) e = absurd (omega arith)

pub unsigned_zero : (s : List ℕ) → (length s ≡ 0 → ⊥) → get_or s 0 0 ≡ 48 → eqb (length s) 1 ≡ is_unsigned s
unfolding is_unsigned
unsigned_zero [] h e = absurd (h refl)
unsigned_zero (c ∷ []) h e = rw e
unsigned_zero (c ∷ d ∷ s) h e = rw (e, ne_eqb (length (c ∷ d ∷ s)) 1 (λ l. omega arith))

pub unsigned_other : (s : List ℕ) → (length s ≡ 0 → ⊥) → (get_or s 0 0 ≡ 48 → ⊥) → all is_digit s ≡ is_unsigned s
unfolding is_unsigned
unsigned_other [] h l = absurd (h refl)
unsigned_other (c ∷ s) h l = rw (ne_eqb c 48 l)

-- ---- the number, digit by digit

pub value-past : (s : List ℕ) (i n : ℕ) → length s ≤ i → value_from n (drop i s) ≡ n
unfolding value_from
value-past s i n h = rw drop_of_length-le

pub value-next : (s : List ℕ) (i n : ℕ) → i < length s → value_from n (drop i s) ≡ value_from (n * 10 + (get_or s i 0 - 48)) (drop (i + 1) s)
unfolding value_from
value-next s i n h = rw (add-one, drop-cons s i 0 h)

-- more digits make no smaller number
pub value_grows : (s : List ℕ) (n : ℕ) → n ≤ value_from n s
unfolding value_from
value_grows [] n = omega arith
value_grows (c ∷ s) n = omega (arith, value_grows s (n * 10 + (c - 48)))

-- one digit more passes the limit, so the whole does
pub is_outside : (s : List ℕ) (i n limit : ℕ) {v : ℕ} → i < length s → value_from n (drop i s) ≡ v
    → limit < n * 10 + (get_or s i 0 - 48) → None ≡ up_to limit v
unfolding up_to
is_outside s i n limit {v} h e l =
    let g = value_grows (drop (i + 1) s) (n * 10 + (get_or s i 0 - 48)) in
    rw (lt-leb v limit (omega (arith, sym e ∙ value-next s i n h)))

pub is_value_lem : (limit n v : ℕ) → n ≤ limit → n ≡ v → Some n ≡ up_to limit v
unfolding up_to
is_value_lem limit n v h e = rw (← e, le-leb n limit h)

-- ---- the text, digit by digit

-- a digit is put before those that stand already
put_digit : (buf : List ℕ) (i rest : ℕ) → 10 ≤ rest → i + 1 ≡ length (digits rest) → i < length buf
    → digits (rest / 10) ++ drop i (set buf i (48 + rest % 10)) ≡ digits rest ++ drop (i + 1) buf
put_digit buf i rest h e l = rw (drop-set-same buf i (48 + rest % 10) l, digits_step rest h, append_assoc)

-- the first digit
put_first : (buf : List ℕ) (rest : ℕ) → rest < 10 → 0 < length buf → set buf 0 (48 + rest) ≡ digits rest ++ drop 1 buf
put_first [] rest h l = absurd (omega arith)
put_first (c ∷ buf) rest h l = rw (digits_small rest h)

-- the digits of what is left stand before the place i, whole is all of them and what stands after
pub record Begun (buf : List ℕ) (i rest : ℕ) (whole : List ℕ) : Type 0 where
  pub counted : i ≡ length (digits rest)
  pub joined : digits rest ++ drop i buf ≡ whole

-- one digit more
pub put_next : (buf : List ℕ) (i rest : ℕ) (whole : List ℕ) → 0 < i → i ≤ length buf → Begun buf i rest whole
    → (let after = set buf (i - 1) (48 + rest % 10) in (0 < i - 1 → Begun after (i - 1) (rest / 10) whole) × (i - 1 ≡ 0 → after ≡ whole))
put_next buf i rest whole h l b =
    ⊎_elim
    (λ (m : rest < 10).
    let z : i - 1 ≡ 0 = omega (arith, b.counted, length_small rest m) in
    let o : i ≡ 1 = omega (arith, b.counted, length_small rest m) in
    let r : rest % 10 ≡ rest = omega arith in
    ((λ p. absurd (omega arith)), (λ _. rw (z, r) (put_first buf rest m (omega arith) ∙ rw o at b.joined))))
    (λ (m : 10 ≤ rest).
    let k = length_step rest m in
    let e : i - 1 + 1 ≡ i = omega arith in
    let c : i - 1 + 1 ≡ length (digits rest) = omega (arith, b.counted) in (
      (λ p. record { counted = omega (arith, b.counted); joined = put_digit buf (i - 1) rest m c (omega arith) ∙ ap (λ n. digits rest ++ drop n buf) e ∙ b.joined }),
      (λ z. absurd (omega (arith, b.counted, length_pos (rest / 10)))),
    ))
    (below? rest 10)
