-- `rows::hex::decode_hex` meets its contract. Assumes nothing.
use Prim.Native.Nat.{◌+◌, ◌*◌, ◌/◌, min}
use mathlib.Core.Path.{◌≡◌, sym}
use native.Mathlib.Omega.{arith}
use lib.ListN.{length, get_or}
use Rattle.std.proofs.lemmas.List.{length-take-le}
use Rattle.rows.specs.Hex.{hex_bytes}
use Rattle.rows.proofs.HexLaws.{hex_at, take_more_hex, wrote_front}
use Rattle.rows.proofs.hex.decode_hex.Goals as goal

pub loop-i-preserved : goal.loop-i-preserved
loop-i-preserved c =
    let t = c.args.text.now in
    let l = c.loop-i in
    let w : c.min-count.result ≡ min (length t / 2) (length c.args.buf.now) = c.min-count.ensures in
    let n = length-take-le c.min-count.result c.args.buf.now (omega arith) in
    let h = hex_at t l.i (omega (arith, n)) in
    let v : c.nibble.result * 16 + c.nibble-in-loop-i.result ≡ get_or (hex_bytes t) l.i 0 = rw (c.nibble.ensures.0, c.nibble-in-loop-i.ensures.0) (sym h) in
    (omega arith, rw v (take_more_hex t l.byte-items l.i (omega (arith, n)) (omega (arith, n)) l.invariant.1))

pub returns : goal.returns
returns c =
    let w : c.min-count.result ≡ min (length c.args.text.now / 2) (length c.args.buf.now) = c.min-count.ensures in
    let n = length-take-le c.min-count.result c.args.buf.now (omega arith) in
    let e : c.loop-i.i ≡ c.min-count.result = omega (arith, n) in
    wrote_front c.args.text.now c.args.buf.now c.loop-i.byte-items c.min-count.result w (omega (arith, n)) (rw e at c.loop-i.invariant.1)
