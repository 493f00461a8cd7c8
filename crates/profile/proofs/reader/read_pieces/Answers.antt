-- `profile::reader::read_pieces` meets its contract. Assumes nothing.
use Rattle.std.proofs.lemmas.Result.{err_from_is_err_and}
use Rattle.profile.proofs.ReadLaws.{part_items, parsed_refused, parsed_accepted}
use Rattle.profile.proofs.reader.read_pieces.Goals as goal

pub values_at-values-requires : goal.values_at-values-requires
values_at-values-requires c = part_items c.args.s.now c.requires.0 c.args.places c.requires.1 c.part-params.result.now c.part-params.ensures

pub returns-in_err-costs : goal.returns-in_err-costs
returns-in_err-costs c =
    let p = err_from_is_err_and c.from_residual.result c.from_residual.ensures.1 in
    rw (p.1, p.2)
    (parsed_refused c.args.s.now c.requires.0 c.args.places c.requires.1 c.part.ensures c.id_number-id.ensures c.version_in-version.ensures c.part-params.ensures c.values_at-values.ensures c.column_of.ensures.0 _ c.in_err-costs.ensures)

pub returns : goal.returns
returns c =
    parsed_accepted c.args.s.now c.requires.0 c.args.places c.requires.1 c.part.ensures c.id_number-id.ensures c.version_in-version.ensures c.part-params.ensures c.values_at-values.ensures c.column_of.ensures.0 _ c.in_ok-costs.ensures _ c.kind_of.ensures
