-- `b64::sextets::in_alphabet` meets its contract: the tests agree with the alphabet on every byte. Assumes nothing.
use borrow.Author.Rules.{rules}
use Rattle.b64.proofs.B64Code.{alphabet_tests}
use Rattle.b64.proofs.sextets.in_alphabet.Goals as goal

pub returns : goal.returns
returns c = rw (c.in_range.ensures, c.in_range-2.ensures, c.in_range-3.ensures) (alphabet_tests c.args.c (search rules))
