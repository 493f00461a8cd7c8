-- `b64::encoder::encode_all` meets its contract.
use native.Mathlib.Omega.{arith}
use lib.ListN.{length-drop}
use Rattle.text.proofs.Writing.{tail_part}
use Rattle.text.proofs.Groups.{lent_room, lent_turn, lent_last}
use Rattle.b64.specs.B64.{encode}
use Rattle.b64.proofs.B64Code.{encode_group}
use Rattle.b64.proofs.encoder.encode_all.Goals as goal

pub encode_group-requires : goal.encode_group-requires
encode_group-requires c =
    let a = c.args in
    let l = c.loop-group in
    let s = c.in-Some.ensures.cases in
    let g = encode_group l.rest.now c.in-Some.group.now c.in-Some.after.now s.0 s.1 (omega (arith, s.2)) in
    let room = lent_room encode a.bytes.now a.out.now l.out l.o l.rest.now l.invariant c.requires in
    simp (tail_part l.out l.o, length-drop) (omega (arith, g.whole))

pub loop-group-preserved : goal.loop-group-preserved
loop-group-preserved c =
    let a = c.args in
    let l = c.loop-group in
    let s = c.in-Some.ensures.cases in
    let g = encode_group l.rest.now c.in-Some.group.now c.in-Some.after.now s.0 s.1 (omega (arith, s.2)) in
    rw g.size at
    (lent_turn encode a.bytes.now a.out.now l.out l.o l.rest.now l.invariant c.requires (encode c.in-Some.group.now) c.in-Some.after.now
    c.encode_group.new.out g.rest (rw (← g.size) at c.encode_group.ensures))

pub returns : goal.returns
returns c =
    let a = c.args in
    let l = c.loop-group in
    lent_last encode a.bytes.now a.out.now l.out l.o l.rest.now l.invariant c.requires _ c.encode_rest.ensures
