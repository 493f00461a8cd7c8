-- `table::ids::id_number` meets its contract. Assumes nothing.
use mathlib.Core.Path.{◌≡◌, ◌∙◌}
use mathlib.Core.Bool.{true, false}
use Rattle.std.proofs.Common.{rules}
use Rattle.std.proofs.iter.Serving.{serving}
use Rattle.std.proofs.lemmas.Iterator.{first_from_Range}
use Rattle.table.specs.Limits.{is_named, profile_of, edition_two}
use Rattle.table.proofs.ColumnLaws.{id_found}
use Rattle.table.proofs.ids.id_number.Goals as goal

-- the constant holds the names
pub find-requires-clause-callable : goal.find-requires-clause-callable
unfolding edition_two
find-requires-clause-callable c = grind serving

pub returns : goal.returns
returns c =
    let name = c.args.name.now in
    c.unwrap_or.ensures
    ∙ id_found name c.find.result
    (first_from_Range _ _ _ c.find.result (λ k. is_named name (profile_of edition_two k) ≡ true) (λ k. is_named name (profile_of edition_two k) ≡ false)
    c.find.ensures.ran (λ x q k. search rules) (λ x q k. search rules))
