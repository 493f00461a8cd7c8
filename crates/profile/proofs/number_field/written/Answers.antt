-- `profile::number_field::written` meets its contract. Assumes nothing.
use mathlib.Core.Path.{sym}
use native.Mathlib.Omega.{arith}
use Rattle.decimal.proofs.NumeralLaws.{digits_limited}
use Rattle.profile.proofs.number_field.written.Goals as goal

pub overflow_cast-result : goal.overflow_cast-result
overflow_cast-result c =
    let b = digits_limited _ _ _ _ (sym c.in_ok-n.ensures) in
    omega arith
