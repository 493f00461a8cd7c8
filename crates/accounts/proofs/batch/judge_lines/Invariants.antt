-- `accounts::batch::judge_lines` meets its contract, line by line. Assumes nothing.
use Rattle.std.proofs.Common.{◌-◌, length}
use Rattle.accounts.proofs.BatchLaws.{Judging}
use Rattle.accounts.proofs.batch.judge_lines.Given as goal

abbrev pub invariant-loop-answer : goal.invariant-loop-answer
invariant-loop-answer l = Judging l.text l.from (length l.initial.answers) l.initial.answers l.answers l.place l.count (length l.initial.answers - l.answer-index)
