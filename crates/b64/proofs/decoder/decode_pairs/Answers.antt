-- `b64::decoder::decode_pairs` meets its contract. Assumes nothing.
use Prim.Native.Nat.{◌+◌, ◌*◌, ◌/◌, ◌≤◌}
use mathlib.Core.Path.{◌≡◌}
use native.Mathlib.Omega.{arith}
use lib.ListN.{length}
use Rattle.b64.proofs.RunLaws.{reached_start, group_in, group_room, group_reached, pair_reached}
use Rattle.b64.proofs.Chunks.{first_group, second_group, last_group}
use Rattle.b64.proofs.decoder.decode_pairs.Goals as goal

pub loop-k-init : goal.loop-k-init
loop-k-init c = reached_start c.args.text.now 0 c.args.out.now 0 (omega arith) (omega arith)

pub put_group-requires : goal.put_group-requires
put_group-requires c =
    let t = c.args.text.now in
    let l = c.loop-k in
    let left : l.k * 8 + 4 ≤ length t = omega (arith, c.as_chunks.ensures.front_len, c.as_chunks-2.ensures.front_len) in
    let e = first_group t c.as_chunks.ensures.front c.as_chunks.ensures.front_len c.as_chunks-2.ensures.front c.as_chunks-2.ensures.front_len l.k c.loop-k-test.true in (
      group_room t c.requires.text_value c.args.out.now c.requires.text_in_bounds l.out (l.k * 8) (l.k * 6) l.invariant left,
      omega (arith, e, group_in t c.requires.text_value (l.k * 8) left),
    )

pub put_group-requires-in-loop-k : goal.put_group-requires-in-loop-k
put_group-requires-in-loop-k c =
    let t = c.args.text.now in
    let l = c.loop-k in
    let left : l.k * 8 + 4 + 4 ≤ length t = omega (arith, c.as_chunks.ensures.front_len, c.as_chunks-2.ensures.front_len) in
    let e = first_group t c.as_chunks.ensures.front c.as_chunks.ensures.front_len c.as_chunks-2.ensures.front c.as_chunks-2.ensures.front_len l.k c.loop-k-test.true in
    let f = second_group t c.as_chunks.ensures.front c.as_chunks.ensures.front_len c.as_chunks-2.ensures.front c.as_chunks-2.ensures.front_len l.k c.loop-k-test.true in
    let r = group_reached t c.requires.text_value c.args.out.now c.requires.text_in_bounds l.out (l.k * 8) (l.k * 6) l.invariant (omega (arith, left)) c.put_group.new.out
    (rw (← e) c.put_group.ensures) in (
      group_room t c.requires.text_value c.args.out.now c.requires.text_in_bounds c.put_group.new.out (l.k * 8 + 4) (l.k * 6 + 3) r left,
      omega (arith, f, group_in t c.requires.text_value (l.k * 8 + 4) left),
    )

pub loop-k-preserved : goal.loop-k-preserved
loop-k-preserved c =
    let t = c.args.text.now in
    let l = c.loop-k in
    let left : l.k * 8 + 8 ≤ length t = omega (arith, c.as_chunks.ensures.front_len, c.as_chunks-2.ensures.front_len) in
    let e = first_group t c.as_chunks.ensures.front c.as_chunks.ensures.front_len c.as_chunks-2.ensures.front c.as_chunks-2.ensures.front_len l.k c.loop-k-test.true in
    let f = second_group t c.as_chunks.ensures.front c.as_chunks.ensures.front_len c.as_chunks-2.ensures.front c.as_chunks-2.ensures.front_len l.k c.loop-k-test.true in
    let ei : l.k * 8 + 8 ≡ (l.k + 1) * 8 = omega arith in
    let eo : l.k * 6 + 6 ≡ (l.k + 1) * 6 = omega arith in
    rw (ei, eo) at
    (pair_reached t c.requires.text_value c.args.out.now c.requires.text_in_bounds l.out (l.k * 8) (l.k * 6) l.invariant left
    c.put_group.new.out c.put_group-in-loop-k.new.out
    (rw (← e) c.put_group.ensures) (rw (← f) c.put_group-in-loop-k.ensures))

pub put_group-requires-in-len1-up : goal.put_group-requires-in-len1-up
put_group-requires-in-len1-up c =
    let t = c.args.text.now in
    let n = length c.as_chunks-2.result.0.now in
    let k : c.loop-k.k ≡ n = omega arith in
    let more : n * 2 + 1 ≤ length c.as_chunks.result.0.now = omega (arith, c.as_chunks-2.ensures.front_len, c.as_chunks-2.ensures.back_len) in
    let left : n * 8 + 4 ≤ length t = omega (arith, c.as_chunks.ensures.front_len) in
    let e = last_group t c.as_chunks.ensures.front c.as_chunks.ensures.front_len c.as_chunks-2.ensures.front c.as_chunks-2.ensures.front_len _ c.as_chunks-2.ensures.back (omega arith) in (
      group_room t c.requires.text_value c.args.out.now c.requires.text_in_bounds c.loop-k.out (n * 8) (n * 6) (rw k at c.loop-k.invariant) left,
      omega (arith, e, group_in t c.requires.text_value (n * 8) left),
    )

pub returns-in-len1-up : goal.returns-in-len1-up
returns-in-len1-up c =
    let t = c.args.text.now in
    let n = length c.as_chunks-2.result.0.now in
    let k : c.loop-k.k ≡ n = omega arith in
    let more : n * 2 + 1 ≡ length c.as_chunks.result.0.now = omega (arith, c.as_chunks-2.ensures.front_len, c.as_chunks-2.ensures.back_len) in
    let left : n * 8 + 4 ≤ length t = omega (arith, c.as_chunks.ensures.front_len) in
    let e = last_group t c.as_chunks.ensures.front c.as_chunks.ensures.front_len c.as_chunks-2.ensures.front c.as_chunks-2.ensures.front_len _ c.as_chunks-2.ensures.back (omega arith) in
    let ei : n * 8 + 4 ≡ length t / 4 * 4 = omega (arith, c.as_chunks.ensures.front_len) in
    let eo : n * 6 + 3 ≡ length t / 4 * 3 = omega (arith, c.as_chunks.ensures.front_len) in
    rw (ei, eo) at
    (group_reached t c.requires.text_value c.args.out.now c.requires.text_in_bounds c.loop-k.out (n * 8) (n * 6) (rw k at c.loop-k.invariant) left
    c.put_group-in-len1-up.new.out (rw (← e) c.put_group-in-len1-up.ensures))
