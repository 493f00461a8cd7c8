-- `text::scan::next_at` meets its contract: the library's `position` finds the same place. Assumes nothing.
use Rattle.std.proofs.Common.{◌≡◌, drop, arith}
use Rattle.std.proofs.lemmas.Grind.{common_steps}
use Rattle.text.specs.Text.{find}
use Rattle.text.proofs.Library.{find-position}
use Rattle.text.proofs.Scanning.{find-le}
use Rattle.text.proofs.scan.next_at.Goals as goal

-- the bytes before the first, in the part from the place on
found : (c : goal.After-unwrap_or) → c.unwrap_or.result ≡ find c.args.byte c.in-Some.rest.now
found c = rw (c.unwrap_or.ensures, c.position.ensures) (find-position c.args.byte c.in-Some.rest.now)

pub overflow_add-result : goal.overflow_add-result
overflow_add-result c =
    let a = c.args in
    omega (arith, found c, find-le a.byte c.in-Some.rest.now, c.in-Some.ensures.lookup)

pub returns : goal.returns
returns c =
    let a = c.args in
    let part : c.in-Some.rest.now ≡ drop a.from a.s.now = grind (arith, common_steps, c.in-Some.ensures.lookup) in
    rw (found c, part)
