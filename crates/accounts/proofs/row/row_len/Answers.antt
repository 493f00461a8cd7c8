-- `accounts::row::row_len` meets its contract: the two numbers are short, so no sum is held. Assumes nothing.
use Rattle.std.proofs.Common.{ℕ, ◌≡◌, length, ap, ◌∙◌, arith}
use Rattle.decimal.specs.Decimal.{digits}
use Rattle.decimal.proofs.DecimalLaws.{length_digits}
use Rattle.accounts.proofs.RowLaws.{row-length, kind_length}
use Rattle.accounts.proofs.row.row_len.Goals as goal

pub returns : goal.returns
returns c =
    let l = length_digits 19 c.args.line (omega (arith, c.ranges.line.fits)) in
    let n = length_digits 19 c.args.answer.number (omega (arith, c.well_formed.1.0)) in
    let e : c.unsigned_len-2.result.0 ≡ length (digits c.args.answer.number) = c.unsigned_len-2.ensures ∙ ap (λ (k : ℕ). length (digits k)) c.from.ensures in
    omega (
      arith,
      c.plus-3.ensures,
      ap length c.kind_line.ensures,
      c.plus-2.ensures,
      c.plus.ensures,
      e,
      c.unsigned_len.ensures,
      l,
      n,
      kind_length c.args.answer.kind,
      row-length c.args.line c.args.answer,
    )
