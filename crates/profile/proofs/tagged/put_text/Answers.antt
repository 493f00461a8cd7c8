-- `profile::tagged::put_text` meets its contract. Assumes nothing.
use native.Mathlib.Omega.{arith}
use Rattle.text.proofs.Writers.{has_count}
use Rattle.text.proofs.Wrote.{wrote_start}
use Rattle.profile.proofs.tagged.put_text.Goals as goal

pub unwrap-requires : goal.unwrap-requires
unwrap-requires c = let a = c.args in has_count (λ n. n.0) c.write_text.result a.out.now c.write_text.new.buf a.text.now 0 (omega (arith, c.requires)) c.write_text.ensures

pub returns : goal.returns
returns c = let a = c.args in wrote_start a.out.now _ a.text.now 0 c.unwrap.result.0 c.requires (rw c.unwrap.ensures at c.write_text.ensures)
