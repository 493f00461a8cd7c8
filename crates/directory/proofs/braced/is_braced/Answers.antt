-- `directory::braced::is_braced` meets its contract. Assumes nothing.
use Rattle.std.proofs.Common.{sym, ◌∙◌}
use Rattle.directory.proofs.Prefixes.{short_not_braced, braced_first, braced_second}
use Rattle.directory.proofs.braced.is_braced.Goals as goal

pub returns-then-t-le-PREFIX_LEN : goal.returns-then-t-le-PREFIX_LEN
returns-then-t-le-PREFIX_LEN c = sym (short_not_braced c.args.t.now c.if-t-le-PREFIX_LEN.true)

pub returns-then-starts_with : goal.returns-then-starts_with
returns-then-starts_with c =
    c.if-starts_with.true ∙ sym (braced_first c.args.t.now c.if-t-le-PREFIX_LEN.false (sym c.starts_with.ensures.value ∙ c.if-starts_with.true))

pub returns-else-starts_with : goal.returns-else-starts_with
returns-else-starts_with c =
    c.starts_with-else-starts_with.ensures.value ∙ sym (braced_second c.args.t.now c.if-t-le-PREFIX_LEN.false (sym c.starts_with.ensures.value ∙ c.if-starts_with.false))
