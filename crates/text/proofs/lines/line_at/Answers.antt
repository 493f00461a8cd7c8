-- `text::lines::line_at` meets its contract. Assumes nothing.
use native.Mathlib.Omega.{arith}
use Rattle.text.proofs.Scanning.{find_from_le}
use Rattle.text.proofs.Splitting.{cut_to}
use Rattle.text.proofs.lines.line_at.Goals as goal

pub slice_bounds-result-end-2 : goal.slice_bounds-result-end-2
slice_bounds-result-end-2 c =
    let a = c.args in
    omega (arith, c.next_at-end.ensures, find_from_le 10 a.s.now a.at (omega (arith, c.if-s-at.false)))

pub returns : goal.returns
returns c =
    let a = c.args in
    cut_to 10 a.s.now a.at c.next_at-end.result c.next_at-end.ensures
