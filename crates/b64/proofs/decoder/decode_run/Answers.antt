-- `b64::decoder::decode_run` meets its contract. Assumes nothing.
use Rattle.b64.proofs.RunLaws.{gives_outside, gives_past, reached_run}
use Rattle.b64.proofs.decoder.decode_run.Goals as goal

pub returns-then-out-from : goal.returns-then-out-from
returns-then-out-from c =
    let g = c.args in
    gives_outside g.s.now g.at g.out.now g.from c.if-out-from.true

pub returns-then-s-at : goal.returns-then-s-at
returns-then-s-at c =
    let g = c.args in
    gives_past g.s.now g.at g.out.now g.from c.if-out-from.false c.if-s-at.true

pub returns : goal.returns
returns c =
    let g = c.args in
    reached_run g.s.now g.at g.out.now g.from _ _ _ c.decode_groups-g.ensures.0 c.decode_groups-g.ensures.1 _ _ c.decode_rest.ensures
