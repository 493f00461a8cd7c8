-- `fast_path::walk::version_item` meets its contract. Assumes nothing.
use Rattle.std.proofs.Common.{sym, ◌∙◌}
use Rattle.table.specs.Columns.{listed}
use Rattle.fast_path.proofs.Chains.{version_none, version_there, version_absent}
use Rattle.fast_path.proofs.walk.version_item.Goals as goal

pub returns : goal.returns
returns c = rw (version_absent _ c.args.s.now c.args.at (sym c.begins.ensures ∙ c.if-begins.false)) (c.allowed-2.ensures c.args.s.now c.requires)

pub returns-in_err-n : goal.returns-in_err-n
returns-in_err-n c =
    let a = c.args in
    rw c.from_residual.ensures
    (version_none (listed a.versions) a.s.now a.at (sym c.begins.ensures ∙ c.if-begins.true) c.in_err-n.ensures)

pub returns-then-begins : goal.returns-then-begins
returns-then-begins c =
    let a = c.args in
    let h = c.in_ok-n.ensures in
    rw (version_there (listed a.versions) a.s.now a.at (sym c.begins.ensures ∙ c.if-begins.true) _ _ h.0) (c.allowed.ensures a.s.now h.1)
