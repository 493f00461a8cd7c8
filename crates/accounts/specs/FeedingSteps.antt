-- What the private steps of the listing promise each other. No public contract cites it.
-- Assumes nothing.
use Rattle.std.specs.Prelude.{ℕ, ◌≤◌, List, ◌≡◌, length, take}
use Rattle.accounts.specs.Feeding.{held_of}

-- the first so many bytes of the array are those that the state stands for
pub record Held (d : List ℕ) (kept count : ℕ) : Type 0 where
  pub bytes : take count d ≡ held_of d kept
  pub inside : count ≤ length d
