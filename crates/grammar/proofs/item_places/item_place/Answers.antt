-- `grammar::item_places::item_place` meets its contract. Assumes nothing.
use Prim.Native.Nat.{◌≤◌}
use native.Mathlib.Omega.{arith}
use lib.ListN.{length}
use Rattle.text.proofs.Scanning.{find_from_le}
use Rattle.grammar.specs.Bytes.{comma}
use Rattle.grammar.proofs.ItemPlaces.{place-past, place_bare, place_valued}
use Rattle.grammar.proofs.item_places.item_place.Goals as goal
use Rattle.grammar.proofs.item_places.item_place.Goals.{then-len-item, else-len-item}

pub returns-then-params-at : goal.returns-then-params-at
returns-then-params-at c = place-past c.args.params.now c.args.at c.if-params-at.true

pub slice_bounds-item-end : goal.slice_bounds-item-end
slice_bounds-item-end c =
    let within : c.next_at-end.result ≤ length c.args.params.now = let a = c.args in
    omega (arith, c.next_at-end.ensures, find_from_le comma a.params.now a.at c.if-params-at.false) in
    omega (arith, within)

pub returns : goal.returns
returns c =
    let a = c.args in
    let e = c.next_at-end in
    let l = c.next_at-len in
    elim c.if-len-item.branch [
      | then-len-item w ↦ rw w.value-is (place_valued a.params.now a.at c.if-params-at.false e.result e.ensures l.result l.ensures w.if-len-item.true)
      | else-len-item w ↦ rw w.value-is (place_bare a.params.now a.at c.if-params-at.false e.result e.ensures l.result l.ensures w.if-len-item.false)
    ]
