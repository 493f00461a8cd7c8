-- `fast_path::walk::walk_string` meets its contract. Assumes nothing.
use Rattle.std.proofs.Common.{◌≡◌, ℕ, ◌<◌, ◌≤◌, List, length, get_or, ap, arith}
use Rattle.std.proofs.lemmas.Grind.{common_steps}
use Rattle.text.specs.Text.{next_at}
use Rattle.text.proofs.Scanning.{find_from_le}
use Rattle.table.specs.Limits.{profile_of, edition_two}
use Rattle.table.specs.Columns.{profile_in}
use Rattle.fast_path.specs.WalkSteps.{roomy}
use Rattle.fast_path.proofs.Chains.{walked_other, walked_id}
use Rattle.fast_path.proofs.StringLaws.{roomy-two}
use Rattle.fast_path.proofs.Answers.{walked_long}
use Rattle.fast_path.proofs.walk.walk_string.Goals as goal
use Rattle.fast_path.proofs.walk.walk_string.Goals.{then-s-gt-LONGEST_PERMITTED-via-then-s-gt-LONGEST_PERMITTED, then-s-gt-LONGEST_PERMITTED-via-else-s-gt-LONGEST_PERMITTED+then-ne}

pub returns-then-s-gt-LONGEST_PERMITTED : goal.returns-then-s-gt-LONGEST_PERMITTED
returns-then-s-gt-LONGEST_PERMITTED c =
    elim c.then-s-gt-LONGEST_PERMITTED.branch [
      | then-s-gt-LONGEST_PERMITTED-via-then-s-gt-LONGEST_PERMITTED w ↦ walked_long _ w.if-s-gt-LONGEST_PERMITTED.true
      | then-s-gt-LONGEST_PERMITTED-via-else-s-gt-LONGEST_PERMITTED+then-ne w ↦ walked_other _ _ (λ h e. grind (arith, common_steps))
    ]

-- the id ends inside
id_end : (s : List ℕ) (end : ℕ) → end ≡ next_at 36 s 1 → 0 < length s → end ≤ length s
id_end s end q h = rw q (find_from_le 36 s 1 (omega arith))

pub slice_bounds-id_number-end : goal.slice_bounds-id_number-end
slice_bounds-id_number-end c = id_end _ _ c.next_at-end.ensures (grind (arith, common_steps))

pub after_id-requires : goal.after_id-requires
after_id-requires c =
    let f : 0 < length c.args.s.now = grind (arith, common_steps) in
    let l : roomy (profile_in c.column_of.result) ≡ roomy (profile_of edition_two c.id_number-id.result) = ap roomy c.column_of.ensures.0 in
    (id_end _ _ c.next_at-end.ensures f, omega (arith, l, roomy-two c.id_number-id.result, c.requires))

pub returns : goal.returns
returns c =
    let f : (0 < length c.args.s.now) × (get_or c.args.s.now 0 0 ≡ 36) = grind (arith, common_steps) in
    rw (walked_id _ _ _ f.0 f.1 c.next_at-end.ensures, ← c.id_number-id.ensures, ← c.column_of.ensures.0) c.after_id.ensures
