-- The digits at a place, counted one after the other.
-- Assumes nothing.
use Rattle.std.proofs.Common.{◌≡◌, ℕ, ◌+◌, ◌-◌, ◌*◌, ◌%◌, ◌<◌, ◌≤◌, Bool, true, false, ◌&&◌, leb, List, [], ◌∷◌, length, get_or, drop, sym, refl, ap, ◌∙◌, add-zero, arith, length-drop, get_or-drop, drop-drop, eq-eqb, ne_eqb, le-leb, leb-true}
use mathlib.Core.Bool.{and-false}
use mathlib.Core.Option.{none, some}
use borrow.Author.Tests.{lt-leb}
use Rattle.text.proofs.Tests.{to_within}
use Rattle.text.proofs.Runs.{run_go, run_stop, run_past, run-all, run_length, run-first}
use Rattle.decimal.specs.Decimal.{is_digit, is_unsigned, value_from, value}
use Rattle.decimal.proofs.DigitSteps.{unsigned_none, unsigned_zero, unsigned_other, value_grows}
use Rattle.table.specs.Limits.{largest32}
use Rattle.fast_path.specs.Walk.{leading_number}
use Rattle.fast_path.specs.WalkSteps.{digits_at, Counted}

no_digit : is_digit 0 ≡ false
unfolding is_digit
no_digit = refl

-- the byte c less 48, wrapped
abbrev pub less48 : ℕ → ℕ
less48 c = (c + 208) % 256

digit_in : (c : ℕ) → c < 256 → less48 c ≤ 9 → is_digit c ≡ true
unfolding is_digit
digit_in c b h = to_within 48 57 c (omega arith) (omega arith)

pub other_byte : (c : ℕ) → c < 256 → 9 < less48 c → is_digit c ≡ false
unfolding is_digit
other_byte c b h = go (leb 48 c) refl
  where
    go : (t : Bool) → leb 48 c ≡ t → (t && leb c 57) ≡ false
    go true q = let k : 48 ≤ c = leb-true 48 c q in lt-leb c 57 (omega arith)
    go false q = refl

-- the digits up to i are counted: what is left there is what is left of the whole
pub record Counting (s : List ℕ) (at n i : ℕ) : Type 0 where
  pub behind : at ≤ i
  pub inside : i ≤ length s
  pub number_left : value_from n (digits_at s i) ≡ value (digits_at s at)
  pub length_left : i + length (digits_at s i) ≡ at + length (digits_at s at)

pub counting_start : (s : List ℕ) (at : ℕ) → at ≤ length s → Counting s at 0 at
unfolding value
counting_start s at h = record { behind = omega arith; inside = h; number_left = refl; length_left = refl }

module _ (s : List ℕ) (at n i : ℕ) (k : Counting s at n i) where
  pub counting_digit : i < length s → get_or s i 0 < 256 → (d : ℕ) → d ≡ less48 (get_or s i 0) → less48 (get_or s i 0) ≤ 9 → Counting s at (n * 10 + d) (i + 1)
  unfolding value_from
  counting_digit h b d e q =
      let g : digits_at s i ≡ get_or s i 0 ∷ digits_at s (i + 1) = run_go is_digit no_digit s i (digit_in (get_or s i 0) b q) in
      let z : get_or s i 0 - 48 ≡ d = omega arith in
      record {
        behind = omega (arith, k.behind);
        inside = omega arith;
        number_left = rw (← z) (rw g at k.number_left);
        length_left = omega (arith, ap length g, k.length_left);
      }

  counting_done : digits_at s i ≡ [] → Counted s at n i
  unfolding value_from
  counting_done e =
      record { number = rw e at k.number_left; next_is = omega (arith, ap length e, k.length_left) }

  pub counting_stop : is_digit (get_or s i 0) ≡ false → Counted s at n i
  counting_stop e = counting_done (run_stop is_digit no_digit s i e)

  pub counting_end : length s ≤ i → Counted s at n (length s)
  counting_end h =
      let e : i ≡ length s = omega (arith, k.inside) in
      rw e at (counting_done (run_past is_digit s i h))

  -- one digit more makes it too large
  pub counting_large : i < length s → get_or s i 0 < 256 → less48 (get_or s i 0) ≤ 9 → largest32 < n * 10 + less48 (get_or s i 0) → leading_number (drop at s) ≡ none
  unfolding leading_number
  counting_large h b q l =
      let c = counting_digit h b (less48 (get_or s i 0)) refl q in
      let v = value_grows (digits_at s (i + 1)) (n * 10 + less48 (get_or s i 0)) in
      let w = c.number_left in
      let b : largest32 < value (digits_at s at) = omega arith in
      rw (lt-leb (value (digits_at s at)) largest32 b, and-false)

pub numeral-past : (s : List ℕ) (at : ℕ) → length s ≤ at → leading_number (drop at s) ≡ none
unfolding leading_number is_unsigned
numeral-past s at h = rw (run_past is_digit s at h)

-- ---- all digits are counted

value-one : (t : List ℕ) → length t ≡ 1 → get_or t 0 0 ≡ 48 → value t ≡ 0
unfolding value value_from
value-one [] l e = refl
value-one (c ∷ []) l e = omega arith
value-one (c ∷ d ∷ t) l e = absurd (omega arith)

module _ (s : List ℕ) (at n next : ℕ) (h : at < length s) (k : Counted s at n next) where
  first_at : (length (digits_at s at) ≡ 0 → ⊥) → get_or (digits_at s at) 0 0 ≡ get_or s at 0
  first_at e = run-first is_digit (drop at s) e ∙ rw (get_or-drop, add-zero)

  pub numeral-none : next ≡ at → leading_number (drop at s) ≡ none
  unfolding leading_number
  numeral-none e = rw (← unsigned_none (digits_at s at) (omega (arith, k.next_is)))

  -- a leading zero
  pub numeral_zeros : (next ≡ at → ⊥) → get_or s at 0 ≡ 48 → (next ≡ at + 1 → ⊥) → leading_number (drop at s) ≡ none
  unfolding leading_number
  numeral_zeros a e b =
      let x : length (digits_at s at) ≡ 0 → ⊥ = λ q. a (omega (arith, k.next_is)) in
      rw (← unsigned_zero (digits_at s at) x (first_at x ∙ e), ne_eqb (length (digits_at s at)) 1 (λ q. b (omega (arith, k.next_is))))

  inside_next : next ≤ length s
  inside_next = omega (arith, k.next_is, run_length is_digit (drop at s), length-drop at s)

  found_at : is_unsigned (digits_at s at) ≡ true → n ≤ largest32 → (leading_number (drop at s) ≡ some (n, drop next s)) × (next ≤ length s)
  unfolding leading_number
  found_at u l =
      (rw (u, le-leb (value (digits_at s at)) largest32 (omega (arith, k.number)), k.number, k.next_is, drop-drop), inside_next)

  pub numeral-zero : (next ≡ at → ⊥) → get_or s at 0 ≡ 48 → next ≡ at + 1 → (leading_number (drop at s) ≡ some (n, drop next s)) × (next ≤ length s)
  numeral-zero a e b =
      let x : length (digits_at s at) ≡ 0 → ⊥ = λ q. a (omega (arith, k.next_is)) in
      let l : length (digits_at s at) ≡ 1 = omega (arith, k.next_is) in
      let v : n ≡ 0 = k.number ∙ value-one (digits_at s at) l (first_at x ∙ e) in
      found_at (sym (unsigned_zero (digits_at s at) x (first_at x ∙ e)) ∙ eq-eqb (length (digits_at s at)) 1 l) (omega arith)

  pub numeral_is : (next ≡ at → ⊥) → (get_or s at 0 ≡ 48 → ⊥) → n ≤ largest32 → (leading_number (drop at s) ≡ some (n, drop next s)) × (next ≤ length s)
  numeral_is a e l =
      let x : length (digits_at s at) ≡ 0 → ⊥ = λ q. a (omega (arith, k.next_is)) in
      found_at (sym (unsigned_other (digits_at s at) x (λ q. e (sym (first_at x) ∙ q))) ∙ run-all is_digit (drop at s)) l
