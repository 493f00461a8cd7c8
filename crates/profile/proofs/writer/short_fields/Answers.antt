-- `profile::writer::short_fields` meets its contract. Assumes nothing.
use mathlib.Core.Path.{ap}
use Rattle.table.specs.Limits.{Profile}
use Rattle.profile.specs.Writer.{short_fields}
use Rattle.profile.specs.declared.fields.NumberFields.{NumberFields}
use Rattle.profile.proofs.writer.short_fields.Goals as goal

pub returns : goal.returns
unfolding short_fields
returns c =
    let id = c.args.id in
    ap {B = NumberFields} (λ (r : Profile). record { id = id; version = r.defaults.version; m = r.defaults.m; t = r.defaults.t; p = r.defaults.p }) c.column_of.ensures.0
