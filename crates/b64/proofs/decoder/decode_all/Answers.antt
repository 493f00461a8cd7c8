-- `b64::decoder::decode_all` meets its contract. Assumes nothing.
use native.Mathlib.Omega.{arith}
use Rattle.b64.proofs.RunLaws.{stopped_end, reached_run, all-decoded}
use Rattle.b64.proofs.decoder.decode_all.Goals as goal

pub decode_rest-requires : goal.decode_rest-requires
decode_rest-requires c =
    let r = c.decode_pairs.ensures in
    (r.inside, r.room, stopped_end c.args.text.now 0 c.args.out.now 0 _ _ _ r (omega arith))

pub returns : goal.returns
returns c =
    let t = c.args.text.now in
    let d = c.args.out.now in
    let r = c.decode_pairs.ensures in
    all-decoded t c.requires.text_value d _ c.requires.text_in_bounds _
    (reached_run t 0 d 0 _ _ _ r (stopped_end t 0 d 0 _ _ _ r (omega arith)) _ _ c.decode_rest.ensures)
