-- `phc::reading::decode_one` meets its contract. Assumes nothing.
use Rattle.std.proofs.Common.{refl, arith}
use Rattle.phc.proofs.CodeLaws.{answered, refused_code}
use Rattle.phc.proofs.SizeLaws.{decoded_small}
use Rattle.phc.proofs.reading.decode_one.Goals as goal

pub found-requires : goal.found-requires
found-requires c = let a = c.args in omega (arith, decoded_small a.choice a.s.now a.buf.now 0 c.in-Ok.count.0 _ c.in-Ok.ensures refl)

pub returns-in-Ok : goal.returns-in-Ok
returns-in-Ok c = answered 0 c.in-Ok.count.0 _ _ c.in-Ok.ensures _ c.found.ensures

pub returns-in-Err : goal.returns-in-Err
returns-in-Err c = answered _ 0 _ _ c.in-Err.ensures _ (refused_code c.in-Err.refusal c.refused.ensures)
