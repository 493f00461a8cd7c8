-- `profile::tagged::put_decimal` meets its contract. Assumes nothing.
use native.Mathlib.Omega.{arith}
use Rattle.text.proofs.Wrote.{chain_sum}
use Rattle.profile.proofs.WriterLaws.{two_counted, two_put}
use Rattle.profile.proofs.tagged.put_decimal.Goals as goal

pub unwrap-put-requires : goal.unwrap-put-requires
unwrap-put-requires c = two_counted (λ n. n.0) _ _ (omega arith) c.requires c.put_text-at.ensures c.write_unsigned.result (rw c.from.ensures at c.write_unsigned.ensures)

pub overflow_add-result : goal.overflow_add-result
overflow_add-result c = chain_sum (two_put _ (omega arith) c.requires c.put_text-at.ensures (rw (c.from.ensures, c.unwrap-put.ensures) at c.write_unsigned.ensures))

pub returns : goal.returns
returns c = (two_put _ (omega arith) c.requires c.put_text-at.ensures (rw (c.from.ensures, c.unwrap-put.ensures) at c.write_unsigned.ensures)).wrote
