-- Every character of a canonical B64 text is a byte of values and salts.
-- Assumes nothing.
use Prim.Native.Nat.{ℕ}
use mathlib.Core.Bool.{Bool, true, cond}
use mathlib.Core.List.{List}
use mathlib.Core.Path.{◌≡◌, refl}
use lib.ListN.{replicate}
use Rattle.text.specs.Text.{all}
use Rattle.text.proofs.Table.{at}
use Rattle.text.proofs.Lists.{all_map}
use Rattle.b64.specs.B64.{sextet, in_alphabet, canonical}
use Rattle.b64.proofs.B64Laws.{alphabet_byte, canonical_alphabet}
use Rattle.grammar.specs.Bytes.{is_value_byte}

-- each byte of the alphabet is a value byte: a computed test
valued : ℕ → ℕ → Bool
valued c _ = cond (in_alphabet c) (is_value_byte c) true

alphabet_value : (c : ℕ) → in_alphabet c ≡ true → is_value_byte c ≡ true
unfolding valued sextet is_value_byte
alphabet_value c e = rw e at (at valued (replicate 256 0) refl c (alphabet_byte c e))

pub canonical-values : (t : List ℕ) → canonical t ≡ true → all is_value_byte t ≡ true
canonical-values t e = all_map in_alphabet is_value_byte alphabet_value t (canonical_alphabet t e)
