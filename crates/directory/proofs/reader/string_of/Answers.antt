-- `directory::reader::string_of` meets its contract. Assumes nothing.
use Rattle.std.proofs.Common.{sym, ◌∙◌}
use Rattle.directory.proofs.ReaderLaws.{refused_none, refused_long, refused_with}
use Rattle.directory.proofs.reader.string_of.Goals as goal

pub returns-then-not-is_braced-clause-refused : goal.returns-then-not-is_braced-clause-refused
returns-then-not-is_braced-clause-refused c = refused_none c.args.t.now (sym c.is_braced.ensures ∙ c.if-not-is_braced.true)

pub unwrap_err-requires : goal.unwrap_err-requires
unwrap_err-requires c =
    refused_long c.args.t.now (sym c.is_braced.ensures ∙ c.if-not-is_braced.false) c.if-t-gt-LONGEST_BRACED.true c.read_long.result c.read_long.ensures

pub returns-then-t-gt-LONGEST_BRACED-clause-refused : goal.returns-then-t-gt-LONGEST_BRACED-clause-refused
returns-then-t-gt-LONGEST_BRACED-clause-refused c = refused_with c.args.t.now c.unwrap_err.result (rw c.unwrap_err.ensures at c.read_long.ensures)
