-- `profile::name_field::put_name` meets its contract. Assumes nothing.
use mathlib.Core.List.{[], ◌∷◌}
use native.Mathlib.Omega.{arith}
use Rattle.text.specs.Text.{text}
use Rattle.text.proofs.Wrote.{AllFit, first_wrote, next_room, next_wrote}
use Rattle.table.specs.Limits.{edition_two}
use Rattle.table.specs.Columns.{name_at}
use Rattle.profile.proofs.name_field.put_name.Goals as goal

pub put_text-requires : goal.put_text-requires
unfolding edition_two
put_text-requires c =
    let fits : AllFit c.args.out.now (text "$") (name_at c.args.index ∷ []) = record { room = c.requires; small = omega arith } in
    rw c.name_at.ensures (next_room (first_wrote fits c.put_text-after_dollar.ensures)).1

pub returns : goal.returns
unfolding edition_two
returns c =
    let fits : AllFit c.args.out.now (text "$") (name_at c.args.index ∷ []) = record { room = c.requires; small = omega arith } in
    (next_wrote (first_wrote fits c.put_text-after_dollar.ensures) (rw c.name_at.ensures at c.put_text.ensures)).wrote
