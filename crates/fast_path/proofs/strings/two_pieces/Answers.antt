-- `fast_path::strings::two_pieces` meets its contract. Assumes nothing.
use Rattle.std.proofs.Common.{true, [], refl, arith}
use Rattle.grammar.specs.Bytes.{dollar}
use Rattle.fast_path.proofs.StringLaws.{no_first, no_second, both_strings}
use Rattle.fast_path.proofs.strings.two_pieces.Goals as goal

pub returns-in_err-first : goal.returns-in_err-first
returns-in_err-first c =
    let a = c.args in
    rw c.from_residual.ensures (no_first a.a [] a.b [] true dollar a.s.now a.at a.out.now a.from c.in_err-first.ensures)

pub returns-in_err-second : goal.returns-in_err-second
returns-in_err-second c =
    let a = c.args in
    rw c.from_residual-in_err-second.ensures
    (no_second a.a [] a.b [] true dollar a.s.now a.at a.out.now a.from _ _ _ _ c.in_ok-first.ensures _ refl c.in_err-second.ensures)

pub returns : goal.returns
returns c =
    let a = c.args in
    both_strings a.a [] a.b [] true dollar a.s.now a.at a.out.now a.from _ _ _ _ c.in_ok-first.ensures _ refl
    (omega (arith, c.requires.1)) _ _ _ _ c.in_ok-second.ensures
