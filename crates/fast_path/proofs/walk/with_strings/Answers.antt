-- `fast_path::walk::with_strings` meets its contract. Assumes nothing.
use Rattle.table.specs.Columns.{profile_in}
use Rattle.fast_path.proofs.StringLaws.{all_strings}
use Rattle.fast_path.proofs.walk.with_strings.Goals as goal

pub returns : goal.returns
returns c =
    let a = c.args in
    all_strings (profile_in a.column) a.fields a.separator a.s.now a.at a.out.now _ _ _ _ c.in_ok-keys.ensures _ _ _ _ c.in_ok-hashes.ensures
    c.requires.1 c.if-hashes-s.false _ c.contents_for.ensures
