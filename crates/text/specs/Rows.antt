-- 'The first row that applies is the number; no row is given otherwise. 0 is acceptance.' A row is a number and a condition.
-- Assumes nothing.
use Rattle.std.specs.Prelude.{ℕ, Bool, cond, List, [], ◌∷◌}

-- a row: its number, and whether it applies
pub record Row : Type 0 where
  pub number : ℕ
  pub applies : Bool

abbrev pub row : ℕ → Bool → Row
row n b = record { number = n; applies = b }

-- the first row that applies is the number; 0 where none does
abbrev pub first_number : List Row → ℕ
first_number [] = 0
first_number (r ∷ rs) = cond r.applies r.number (first_number rs)
