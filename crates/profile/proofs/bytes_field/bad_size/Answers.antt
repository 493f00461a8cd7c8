-- `profile::bytes_field::bad_size` meets its contract. Assumes nothing.
use native.Mathlib.Omega.{arith}
use Rattle.std.proofs.lemmas.Grind.{common_steps}
use Rattle.b64.proofs.B64Laws.{length_decode}
use Rattle.profile.proofs.bytes_field.bad_size.Goals as goal

pub returns-then-span-ne0 : goal.returns-then-span-ne0
returns-then-span-ne0 c = grind (arith, common_steps, length_decode)
