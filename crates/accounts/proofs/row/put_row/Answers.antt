-- `accounts::row::put_row` meets its contract: each text is put after the one before it. Assumes nothing.
use Rattle.std.proofs.Common.{arith}
use Rattle.text.proofs.Wrote.{next_counted}
use Rattle.accounts.specs.Listing.{row_text}
use Rattle.accounts.proofs.RowLaws.{row_counted, row_first, next_plus}
use Rattle.accounts.proofs.row.put_row.Goals as goal

pub unwrap-count-requires : goal.unwrap-count-requires
unwrap-count-requires c =
    let a = c.args in
    row_counted a.line a.answer a.out.now c.requires (omega arith) c.write_unsigned.result _ c.write_unsigned.ensures

pub unwrap-requires : goal.unwrap-requires
unwrap-requires c =
    let first = row_first c.args.line c.args.answer c.args.out.now c.requires (omega arith) (rw c.unwrap-count.ensures at c.write_unsigned.ensures) in
    next_counted first (λ n. n.0) c.write_text.result _ c.write_text.ensures

pub unwrap-requires-2 : goal.unwrap-requires-2
unwrap-requires-2 c =
    let first = row_first c.args.line c.args.answer c.args.out.now c.requires (omega arith) (rw c.unwrap-count.ensures at c.write_unsigned.ensures) in
    let second = next_plus first (rw c.unwrap.ensures at c.write_text.ensures) c.plus-count.ensures in
    next_counted second (λ n. n.0) c.write_unsigned-2.result _ (rw c.from.ensures at c.write_unsigned-2.ensures)

pub unwrap-requires-3 : goal.unwrap-requires-3
unwrap-requires-3 c =
    let first = row_first c.args.line c.args.answer c.args.out.now c.requires (omega arith) (rw c.unwrap-count.ensures at c.write_unsigned.ensures) in
    let second = next_plus first (rw c.unwrap.ensures at c.write_text.ensures) c.plus-count.ensures in
    let third = next_plus second (rw (c.from.ensures, c.unwrap-2.ensures) at c.write_unsigned-2.ensures) c.plus-count-2.ensures in
    next_counted third (λ n. n.0) c.write_text-2.result _ c.write_text-2.ensures

pub unwrap-requires-4 : goal.unwrap-requires-4
unwrap-requires-4 c =
    let first = row_first c.args.line c.args.answer c.args.out.now c.requires (omega arith) (rw c.unwrap-count.ensures at c.write_unsigned.ensures) in
    let second = next_plus first (rw c.unwrap.ensures at c.write_text.ensures) c.plus-count.ensures in
    let third = next_plus second (rw (c.from.ensures, c.unwrap-2.ensures) at c.write_unsigned-2.ensures) c.plus-count-2.ensures in
    let fourth = next_plus third (rw c.unwrap-3.ensures at c.write_text-2.ensures) c.plus-count-3.ensures in
    next_counted fourth (λ n. n.0) c.write_text-3.result _ (rw c.kind_line.ensures at c.write_text-3.ensures)

pub returns : goal.returns
unfolding row_text
returns c =
    let first = row_first c.args.line c.args.answer c.args.out.now c.requires (omega arith) (rw c.unwrap-count.ensures at c.write_unsigned.ensures) in
    let second = next_plus first (rw c.unwrap.ensures at c.write_text.ensures) c.plus-count.ensures in
    let third = next_plus second (rw (c.from.ensures, c.unwrap-2.ensures) at c.write_unsigned-2.ensures) c.plus-count-2.ensures in
    let fourth = next_plus third (rw c.unwrap-3.ensures at c.write_text-2.ensures) c.plus-count-3.ensures in
    let fifth = next_plus fourth (rw (c.kind_line.ensures, c.unwrap-4.ensures) at c.write_text-3.ensures) c.plus.ensures in
    fifth.wrote
