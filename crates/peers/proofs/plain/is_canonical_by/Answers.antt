-- `peers::plain::is_canonical_by` meets its contract.
use borrow.Author.Tests.{le-ltb}
use native.Mathlib.Omega.{arith}
use mathlib.Core.Path.{◌≡◌, sym, ◌∙◌}
use lib.ListN.{get_or, drop_of_length-le}
use Rattle.text.proofs.Scanning.{all_past, all-false}
use Rattle.b64.specs.B64.{in_alphabet, sextet}
use Rattle.b64.proofs.B64Code.{canonical_out}
use Rattle.peers.proofs.PlainLaws.{last_sextet, canonical_end}
use Rattle.peers.proofs.plain.is_canonical_by.Goals as goal

pub returns-then-last-gt63 : goal.returns-then-last-gt63
returns-then-last-gt63 c =
    let t = c.args.text.now in
    let i = c.loop-c.c-index in
    sym
    (canonical_out t
    (sym (c.loop-c.invariant.0 ∙ all-false in_alphabet t i (omega arith) (le-ltb (sextet (get_or t i 0)) 64 (omega (arith, c.sextet_of-last.ensures))))))

pub returns : goal.returns
returns c =
    let t = c.args.text.now in
    let l : c.loop-c.last ≡ last_sextet 0 t = rw (drop_of_length-le t c.loop-c-test.false) at c.loop-c.invariant.1 in
    c.may_end.ensures
    ∙ rw l (canonical_end t (sym (c.loop-c.invariant.0 ∙ all_past in_alphabet t c.loop-c.c-index c.loop-c-test.false)))
