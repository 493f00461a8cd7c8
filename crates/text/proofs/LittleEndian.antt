-- A number from its bytes, the lowest first.
-- Assumes nothing.
use Prim.Native.Nat.{ℕ, ◌+◌, ◌*◌, ◌/◌, ◌%◌, ◌≤◌}
use mathlib.Core.Path.{◌≡◌}
use native.Mathlib.Omega.{arith}
use Rattle.text.specs.Units.{largest_usize}

-- the lowest four bytes, and what stands above them
four : (n a b c d n₁ n₂ n₃ high k : ℕ) → n ≡ a + 256 * n₁ → n₁ ≡ b + 256 * n₂ → n₂ ≡ c + 256 * n₃ → n₃ ≡ d + 256 * high → k ≡ high
    → a + 256 * b + 65536 * c + 16777216 * d + 4294967296 * k ≡ n
four n a b c d n₁ n₂ n₃ high k p q r s t = omega arith

with_high : (n k : ℕ) → k ≡ n / 4294967296 → n % 256 + 256 * (n / 256 % 256) + 65536 * (n / 65536 % 256) + 16777216 * (n / 16777216 % 256) + 4294967296 * k ≡ n
with_high n k e =
    four n (n % 256) (n / 256 % 256) (n / 65536 % 256) (n / 16777216 % 256) (n / 256) (n / 65536) (n / 16777216) (n / 4294967296) k
    (omega arith) (omega arith) (omega arith) (omega arith) e

-- 32 bits
pub back32 : (n : ℕ) → n ≤ 4294967295 → n % 256 + 256 * (n / 256 % 256) + 65536 * (n / 65536 % 256) + 16777216 * (n / 16777216 % 256) ≡ n
back32 n h = omega (arith, with_high n 0 (omega arith))

-- 64 bits, as two numbers of 32
pub back64 : (n : ℕ) → n ≤ largest_usize
    → let high = n / 4294967296 in
    n % 256 + 256 * (n / 256 % 256) + 65536 * (n / 65536 % 256) + 16777216 * (n / 16777216 % 256) + 4294967296 * (high % 256 + 256 * (high / 256 % 256) + 65536 * (high / 65536 % 256) + 16777216 * (high / 16777216 % 256)) ≡ n
back64 n h = with_high n _ (back32 (n / 4294967296) (omega arith))
