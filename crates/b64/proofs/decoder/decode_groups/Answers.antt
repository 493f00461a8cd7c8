-- `b64::decoder::decode_groups` meets its contract. Assumes nothing.
use Prim.Native.Nat.{◌+◌, ◌≤◌}
use native.Mathlib.Omega.{arith}
use lib.ListN.{length}
use Rattle.b64.proofs.RunLaws.{reached_start, reached_more, bound_inside, stopped_bound}
use Rattle.b64.proofs.decoder.decode_groups.Goals as goal

pub loop-i-init : goal.loop-i-init
loop-i-init c =
    let a = c.args in
    reached_start a.s.now a.at a.out.now a.from c.requires.0 c.requires.1

pub loop-i-preserved : goal.loop-i-preserved
loop-i-preserved c =
    let inside : (c.loop-i.i + 4 ≤ length c.args.s.now) × (c.loop-i.o + 3 ≤ length c.loop-i.out) = let l = c.loop-i in
    let a = c.args in
    bound_inside a.s.now a.at a.out.now a.from l.out l.i l.o l.invariant c.requires.0 c.requires.1
    (omega (arith, c.loop-i-test.true, c.min.ensures)) in
    let l = c.loop-i in
    let a = c.args in
    reached_more a.s.now l.i _ c.four-n.ensures (omega (arith, c.if-n-gt16777215.false)) a.at a.out.now a.from l.out l.o l.invariant inside.0
    inside.1 _ c.put_three.ensures

pub returns : goal.returns
returns c =
    let l = c.loop-i in
    let a = c.args in (
      l.invariant,
      stopped_bound a.s.now a.at a.out.now a.from l.out l.i l.o l.invariant c.requires.0 c.requires.1
          (omega (arith, c.loop-i-test.false, c.min.ensures)),
    )
