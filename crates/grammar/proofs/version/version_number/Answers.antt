-- `grammar::version::version_number` meets its contract. Assumes nothing.
use Prim.Native.Nat.{◌<◌}
use mathlib.Core.Path.{sym}
use native.Mathlib.Omega.{arith}
use lib.ListN.{length}
use Rattle.grammar.proofs.RuleLaws.{version_none}
use Rattle.grammar.proofs.version.version_number.Goals as goal

pub returns-in-None : goal.returns-in-None
returns-in-None c =
    let short : length c.args.text.now < 2 = grind (arith, c.in-None.ensures.lookup.0) in
    sym (version_none c.args.text.now short)
