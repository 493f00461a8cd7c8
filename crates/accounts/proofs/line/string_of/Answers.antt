-- `accounts::line::string_of` meets its contract. Assumes nothing.
use Rattle.std.proofs.Common.{sym, ◌∙◌}
use Rattle.accounts.proofs.LineLaws.{line_long, line_untabbed, line_named, line_unnamed, string_part}
use Rattle.accounts.proofs.line.string_of.Goals as goal
use Rattle.accounts.proofs.line.string_of.Goals.{in_default-via-in-Some+else-is_name, in_default-via-in_default}

pub returns-then-line-gt-LONGEST_LINE-clause-refusal : goal.returns-then-line-gt-LONGEST_LINE-clause-refusal
returns-then-line-gt-LONGEST_LINE-clause-refusal c = line_long c.args.line.now c.if-line-gt-LONGEST_LINE.true

pub returns-in-Some-clause-refusal : goal.returns-in-Some-clause-refusal
returns-in-Some-clause-refusal c =
    line_named c.args.line.now c.in-Some.tab (sym c.first_tab.ensures ∙ c.in-Some.is) c.if-line-gt-LONGEST_LINE.false (sym c.is_name.ensures ∙ c.if-is_name.true)

pub returns-in-Some-clause-string : goal.returns-in-Some-clause-string
returns-in-Some-clause-string c = string_part c.args.line.now c.in-Some.tab (sym c.first_tab.ensures ∙ c.in-Some.is)

pub returns-in_default-clause-refusal : goal.returns-in_default-clause-refusal
returns-in_default-clause-refusal c =
    let l = c.args.line.now in
    elim c.in_default.branch [
      | in_default-via-in-Some+else-is_name w ↦
          line_unnamed l w.in-Some.tab (sym c.first_tab.ensures ∙ w.in-Some.is) c.if-line-gt-LONGEST_LINE.false (sym w.is_name.ensures ∙ w.if-is_name.false)
      | in_default-via-in_default w ↦ line_untabbed l c.if-line-gt-LONGEST_LINE.false (sym c.first_tab.ensures ∙ w.in_default.is)
    ]
