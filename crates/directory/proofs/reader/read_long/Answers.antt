-- `directory::reader::read_long` meets its contract. Assumes nothing.
use Rattle.std.proofs.Common.{sym, ◌∙◌}
use Rattle.refusals.specs.declared.Refusal.TheVariants.{BadString}
use Rattle.directory.proofs.Prefixes.{braced_some}
use Rattle.directory.proofs.ReaderLaws.{number_long, read_string, read_refused}
use Rattle.directory.proofs.reader.read_long.Goals as goal

pub returns-then-t-gt-LONGEST_STRING : goal.returns-then-t-gt-LONGEST_STRING
returns-then-t-gt-LONGEST_STRING c =
    let t = c.args.t.now in
    let (s, d) = braced_some t c.requires in
    read_refused t BadString (sym (number_long t s d c.if-t-gt-LONGEST_STRING.true))

pub returns : goal.returns
returns c = c.read.ensures ∙ read_string c.args.t.now c.dollar_string.result.now c.dollar_string.ensures
