-- 'Lengths in characters and lengths in bytes are two units': sums of lengths in one unit.
-- Assumes nothing.
use Rattle.std.specs.Prelude.{ℕ, ◌+◌, ◌-◌, ◌^◌, min}

abbrev pub largest_usize : ℕ
largest_usize = 2 ^ 64 - 1

-- Free answer: the largest usize where the sum is more than that. No text has so many characters
abbrev pub sum_within : ℕ → ℕ → ℕ
sum_within a b = min (a + b) largest_usize
