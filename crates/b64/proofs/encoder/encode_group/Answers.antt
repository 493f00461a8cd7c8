-- `b64::encoder::encode_group` meets its contract.
use Rattle.b64.proofs.B64Code.{group_stored}
use Rattle.b64.proofs.encoder.encode_group.Goals as goal

pub returns : goal.returns
returns c = group_stored c.args.group.now c.args.out.now _ _ _ _ c.letter_of.ensures c.letter_of-2.ensures
    c.letter_of-3.ensures c.letter_of-4.ensures c.told-group c.requires
