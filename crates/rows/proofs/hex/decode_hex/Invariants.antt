-- `rows::hex::decode_hex` meets its contract: the first bytes of the digits stand at the buffer's start. Assumes nothing.
use Prim.Native.Nat.{◌≤◌}
use mathlib.Core.Path.{◌≡◌}
use lib.ListN.{take}
use Rattle.rows.specs.Hex.{hex_bytes}
use Rattle.rows.proofs.hex.decode_hex.Given as goal

abbrev pub invariant-loop-i : goal.invariant-loop-i
invariant-loop-i l = (l.i ≤ l.i-end) × (take l.i l.byte-items ≡ take l.i (hex_bytes l.text))
