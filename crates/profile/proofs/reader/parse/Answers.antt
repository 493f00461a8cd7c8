-- `profile::reader::parse` meets its contract. Assumes nothing.
use Rattle.std.proofs.lemmas.Result.{err_from_is_err_and}
use Rattle.profile.proofs.ReadLaws.{grammar-refused, grammar-accepted}
use Rattle.profile.proofs.reader.parse.Goals as goal

pub returns-in_err-layout : goal.returns-in_err-layout
returns-in_err-layout c =
    let p = err_from_is_err_and c.from_residual.result c.from_residual.ensures.1 in
    rw (p.1, p.2) (grammar-refused c.args.s.now _ c.in_err-layout.ensures)

pub read_pieces-requires : goal.read_pieces-requires
read_pieces-requires c = grammar-accepted c.args.s.now _ c.in_ok-layout.ensures
