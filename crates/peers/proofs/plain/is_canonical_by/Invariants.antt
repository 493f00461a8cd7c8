-- `peers::plain::is_canonical_by` meets its contract.
use mathlib.Core.Path.{◌≡◌}
use lib.ListN.{drop}
use Rattle.text.specs.Text.{all}
use Rattle.b64.specs.B64.{in_alphabet}
use Rattle.peers.proofs.PlainLaws.{last_sextet}
use Rattle.peers.proofs.plain.is_canonical_by.Given as goal

abbrev pub invariant-loop-c : goal.invariant-loop-c
invariant-loop-c l = (all in_alphabet l.text ≡ all in_alphabet (drop l.c-index l.text)) × (last_sextet l.last (drop l.c-index l.text) ≡ last_sextet 0 l.text)
