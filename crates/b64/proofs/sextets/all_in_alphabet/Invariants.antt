-- `b64::sextets::all_in_alphabet` meets its contract: what was seen so far, and the rest. Assumes nothing.
use mathlib.Core.Path.{◌≡◌}
use mathlib.Core.Bool.{◌&&◌}
use lib.ListN.{drop}
use Rattle.text.specs.Text.{all}
use Rattle.b64.specs.B64.{in_alphabet}
use Rattle.b64.proofs.sextets.all_in_alphabet.Given as goal

abbrev pub invariant-loop-c : goal.invariant-loop-c
invariant-loop-c l = all in_alphabet l.text ≡ (l.good && all in_alphabet (drop l.c-index l.text))
