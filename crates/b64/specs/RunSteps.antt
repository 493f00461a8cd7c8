-- What the loops of the B64 decoder promise each other. Nothing here is a rule: no public contract cites it.
-- Assumes nothing.
use Rattle.std.specs.Prelude.{ℕ, ◌+◌, ◌*◌, ◌≤◌, ◌<◌, ◌≡◌, List, ◌++◌, length}
use Rattle.text.specs.Place.{over}
use Rattle.b64.specs.B64.{canonical, decode}
use Rattle.b64.specs.Runs.{run_at}

-- whole groups were decoded from a place up to another, and their bytes stand in the buffer. What a caller of the step asks of it again and again
-- is kept beside what it follows from
pub record Reached (s : List ℕ) (at : ℕ) (out₀ : List ℕ) (from : ℕ) (out : List ℕ) (i o : ℕ) : Type 0 where
  pub done : List ℕ
  pub groups : ℕ
  pub size : length done ≡ groups * 4
  pub text_is : run_at s at ≡ done ++ run_at s i
  pub canonical_left : canonical (run_at s i) ≡ canonical (run_at s at)
  pub next_is : i ≡ at + groups * 4
  pub end_is : o ≡ from + groups * 3
  pub inside : i ≤ length s
  pub room : o ≤ length out
  pub keeps : length out ≡ length out₀
  pub stored : out ≡ over out₀ from (decode done)

-- no further group stands there, or it doesn't fit
abbrev pub Stopped : List ℕ → List ℕ → ℕ → ℕ → Type 0
Stopped s out i o = 4 ≤ length (run_at s i) → length out < o + 3
