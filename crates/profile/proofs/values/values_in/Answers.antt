-- `profile::values::values_in` meets its contract. Assumes nothing.
use Rattle.profile.proofs.ValueLaws.{at_start, on, values_are}
use Rattle.profile.proofs.values.values_in.Goals as goal

pub take_value-m-requires : goal.take_value-m-requires
take_value-m-requires c = search (at_start, on)

pub take_value-t-requires : goal.take_value-t-requires
take_value-t-requires c = search (at_start, on)

pub take_value-p-requires : goal.take_value-p-requires
take_value-p-requires c = search (at_start, on)

pub take_value-keyid-requires : goal.take_value-keyid-requires
take_value-keyid-requires c = search (at_start, on)

pub take_value-data-requires : goal.take_value-data-requires
take_value-data-requires c = search (at_start, on)

pub returns : goal.returns
returns c =
    values_are c.args.params.now _ _ _ _ _ _ _ _ _ _ c.take_value-m.ensures c.take_value-t.ensures c.take_value-p.ensures c.take_value-keyid.ensures c.take_value-data.ensures
