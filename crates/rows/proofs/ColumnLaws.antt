-- Laws of a reader over a range, as the columns take it: its value is none past the range. Assumes nothing.
use Prim.Native.Nat.{ℕ, ◌≤◌}
use mathlib.Core.Path.{◌≡◌, refl}
use mathlib.Core.List.{List}
use native.Mathlib.Omega.{arith}
use Rattle.std.proofs.Common.{Result, Ok, Err}
use Rattle.std.specs.Result.{result_unwrap_or}
use Rattle.decimal.specs.declared.error.DecimalError.{DecimalError}
use Rattle.decimal.specs.declared.error.DecimalError.TheVariants.{Malformed, Outside}
use Rattle.decimal.specs.Numerals.{limited_reading, limited_value}
use Rattle.decimal.proofs.NumeralLaws.{digits_limited}
use Rattle.rows.specs.Columns.{decimal_up_to}

pub value_or : (r : Result ℕ DecimalError) → result_unwrap_or r 0 ≡ limited_value r
value_or (Err Malformed) = refl
value_or (Err Outside) = refl
value_or (Ok n) = refl

pub decimal_bound : (high : ℕ) (s : List ℕ) → decimal_up_to high s ≤ high
decimal_bound high s = go (limited_reading 0 high s) refl
  where
    go : (r : Result ℕ DecimalError) → limited_reading 0 high s ≡ r → limited_value r ≤ high
    go (Err Malformed) e = omega arith
    go (Err Outside) e = omega arith
    go (Ok n) e = (digits_limited 0 high s n e).2
