-- 'Decimals: `0`, or a digit 1 to 9 and any further digits, or a minus sign before such a number other than 0.' The number that each says, and
-- the one text of each number.
-- Assumes nothing.
use Rattle.std.specs.Prelude.{ℕ, zero, suc, ◌+◌, ◌-◌, ◌*◌, ◌/◌, ◌%◌, Bool, false, not, cond, ◌&&◌, List, [], ◌∷◌, ◌++◌, ltb, eqb, ℤ, pos, negsuc, neg_ℤ}
use Rattle.text.specs.Text.{within, all, empty}

-- `0`..`9`
unfoldable pub is_digit : ℕ → Bool
is_digit c = within 48 57 c

-- 01's shortest decimal, without a sign: `0`, or a digit 1 to 9 and any further digits
unfoldable pub is_unsigned : List ℕ → Bool
is_unsigned [] = false
is_unsigned (c ∷ s) = cond (eqb c 48) (empty s) (all is_digit (c ∷ s))

-- the value of digits, read on from n
unfoldable pub value_from : ℕ → List ℕ → ℕ
value_from n [] = n
value_from n (c ∷ s) = value_from (n * 10 + (c - 48)) s

unfoldable pub value : List ℕ → ℕ
value s = value_from 0 s

-- the shortest digits of n, at most k of them
unfoldable pub digits_within : ℕ → ℕ → List ℕ
digits_within zero n = []
digits_within (suc k) n =
    let rest = digits_within k (n / 10) in
    cond (ltb n 10) ((48 + n) ∷ []) (rest ++ ((48 + n % 10) ∷ []))

-- the shortest digits of n, which has at most n + 1
unfoldable pub digits : ℕ → List ℕ
digits n = digits_within (suc n) n

-- an unsigned decimal, or a minus sign before one other than 0
unfoldable pub is_decimal : List ℕ → Bool
is_decimal [] = false
is_decimal (c ∷ s) = cond (eqb c 45) (is_unsigned s && not (eqb (value s) 0)) (is_unsigned (c ∷ s))

-- the value of a decimal
unfoldable pub decimal_value : List ℕ → ℤ
decimal_value [] = pos 0
decimal_value (c ∷ s) = cond (eqb c 45) (neg_ℤ (pos (value s))) (pos (value (c ∷ s)))

-- the one text of a number
unfoldable pub decimal_text : ℤ → List ℕ
decimal_text (pos n) = digits n
decimal_text (negsuc n) = 45 ∷ digits (suc n)
