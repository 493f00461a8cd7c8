-- `profile::tagged::put_bytes` meets its contract. Assumes nothing.
use native.Mathlib.Omega.{arith}
use Rattle.text.proofs.Wrote.{chain_sum}
use Rattle.profile.proofs.WriterLaws.{two_counted, two_put, some_bytes}
use Rattle.profile.proofs.tagged.put_bytes.Goals as goal

pub unwrap-put-requires : goal.unwrap-put-requires
unwrap-put-requires c =
    let there = some_bytes c.args.bytes.now c.if-is_empty.ensures in
    two_counted (λ n. n.0) _ _ (omega arith) (rw there at c.requires) c.put_text-at.ensures c.encode.result c.encode.ensures

pub overflow_add-result : goal.overflow_add-result
overflow_add-result c =
    let there = some_bytes c.args.bytes.now c.if-is_empty.ensures in
    chain_sum (two_put _ (omega arith) (rw there at c.requires) c.put_text-at.ensures (rw c.unwrap-put.ensures at c.encode.ensures))

pub returns : goal.returns
returns c =
    let there = some_bytes c.args.bytes.now c.if-is_empty.ensures in
    rw there (two_put _ (omega arith) (rw there at c.requires) c.put_text-at.ensures (rw c.unwrap-put.ensures at c.encode.ensures)).wrote
