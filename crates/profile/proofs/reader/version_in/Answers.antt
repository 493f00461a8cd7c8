-- `profile::reader::version_in` meets its contract. Assumes nothing.
use mathlib.Core.Path.{sym}
use native.Mathlib.Omega.{arith}
use Rattle.grammar.proofs.RuleLaws.{version_most}
use Rattle.profile.proofs.reader.version_in.Goals as goal

pub overflow_cast-result : goal.overflow_cast-result
overflow_cast-result c = omega (arith, version_most c.part.result.now c.in-Ok.n (sym c.in-Ok.ensures))
