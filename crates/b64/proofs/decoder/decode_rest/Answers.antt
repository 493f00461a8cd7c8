-- `b64::decoder::decode_rest` meets its contract. Assumes nothing.
use native.Mathlib.Omega.{arith}
use Rattle.b64.proofs.RunLaws.{ends_none, stays_one, full_two, ends_two, stays_two, full_three, full_group, ends_three, stays_three}
use Rattle.b64.proofs.decoder.decode_rest.Goals as goal

-- no character
pub returns-then-a-gt63 : goal.returns-then-a-gt63
returns-then-a-gt63 c =
    let g = c.args in
    ends_none g.s.now g.i g.out.now g.o c.requires.1 (omega (arith, c.sextet_at-a.ensures, c.if-a-gt63.true))

-- one
pub returns-in_default-6 : goal.returns-in_default-6
returns-in_default-6 c =
    let g = c.args in
    stays_one g.s.now g.i g.out.now g.o c.requires.2 _ _ c.sextet_at-a.ensures c.sextet_at-b.ensures (omega arith) (omega arith)

-- two
pub returns-in-0-to-63-64-to-255 : goal.returns-in-0-to-63-64-to-255
returns-in-0-to-63-64-to-255 c =
    let g = c.args in
    ends_two g.s.now g.i g.out.now g.o c.requires.2 _ _ c.sextet_at-a.ensures c.sextet_at-b.ensures (omega arith)
    _ c.sextet_at-c.ensures (omega arith) _ (omega arith) c.if-b-eq0.true (omega arith) c.put_one.ensures

pub returns-in_default-5 : goal.returns-in_default-5
returns-in_default-5 c =
    let g = c.args in
    full_two g.s.now g.i g.out.now g.o c.requires.2 _ _ c.sextet_at-a.ensures c.sextet_at-b.ensures (omega arith)
    _ c.sextet_at-c.ensures (omega arith) (omega arith) (omega (arith, c.if-room-ge1.false))

pub returns-in_default-4 : goal.returns-in_default-4
returns-in_default-4 c =
    let g = c.args in
    stays_two g.s.now g.i g.out.now g.o c.requires.2 _ _ c.sextet_at-a.ensures c.sextet_at-b.ensures (omega arith)
    _ c.sextet_at-c.ensures (omega arith) (omega arith) c.if-b-eq0.false

-- three
pub returns-in-0-to-63-0-to-63 : goal.returns-in-0-to-63-0-to-63
returns-in-0-to-63-0-to-63 c =
    let g = c.args in
    ends_three g.s.now g.i g.out.now g.o c.requires.2 _ _ c.sextet_at-a.ensures c.sextet_at-b.ensures (omega arith)
    _ c.sextet_at-c.ensures (omega arith) (omega arith) _ c.sextet_at.ensures _ c.if-sextet_at-gt63.true c.if-c-eq0.true (omega arith) c.put_two.ensures

pub returns-in_default-3 : goal.returns-in_default-3
returns-in_default-3 c =
    let g = c.args in
    full_three g.s.now g.i g.out.now g.o c.requires.2 _ _ c.sextet_at-a.ensures c.sextet_at-b.ensures (omega arith)
    _ c.sextet_at-c.ensures (omega arith) (omega arith) (omega (arith, c.if-room-ge2.false))

pub returns-in_default : goal.returns-in_default
returns-in_default c =
    let g = c.args in
    stays_three g.s.now g.i g.out.now g.o c.requires.2 _ _ c.sextet_at-a.ensures c.sextet_at-b.ensures (omega arith)
    _ c.sextet_at-c.ensures (omega arith) (omega arith) _ c.sextet_at.ensures c.if-sextet_at-gt63.true c.if-c-eq0.false

-- a whole group
pub returns-in_default-2 : goal.returns-in_default-2
returns-in_default-2 c =
    let g = c.args in
    full_group g.s.now g.i g.out.now g.o c.requires.2 _ _ c.sextet_at-a.ensures c.sextet_at-b.ensures (omega arith)
    _ c.sextet_at-c.ensures (omega arith) (omega arith) _ c.sextet_at.ensures (omega arith)
