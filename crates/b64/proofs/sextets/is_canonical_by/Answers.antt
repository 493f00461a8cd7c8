-- `b64::sextets::is_canonical_by` meets its contract.
use mathlib.Core.Path.{sym, ◌∙◌}
use Rattle.b64.proofs.B64Code.{canonical_in, canonical_out}
use Rattle.b64.proofs.sextets.is_canonical_by.Goals as goal

pub returns-then-all_in_alphabet : goal.returns-then-all_in_alphabet
returns-then-all_in_alphabet c = c.has_canonical_end.ensures ∙ sym (canonical_in c.args.text.now (c.if-all_in_alphabet.ensures))

pub returns-else-all_in_alphabet : goal.returns-else-all_in_alphabet
returns-else-all_in_alphabet c = c.if-all_in_alphabet.false ∙ sym (canonical_out c.args.text.now c.if-all_in_alphabet.ensures)
